use Rattle.std.proofs.Common.{◌≡◌, ◌≢◌, ◌==◌, ◌∷◌, [], ℕ, refl, arith, if◌then◌else◌}
use Rattle.std.specs.Prelude.{Bool, true, false}
use Rattle.std.proofs.lemmas.Bool.Decides.{nat_tests}
use Rattle.lin_text.proofs.Growing.{grows-more, same-growth}
use Rattle.lin_export.specs.Csv.{doubled_quote}
use Rattle.lin_export.proofs.meaning_cells.put_doubled_byte.Goals as goal
use Rattle.lin_export.proofs.meaning_cells.put_doubled_byte.Goals.{then-byte-eq34, else-byte-eq34}

quote-doubled : (b : ℕ) → b ≡ 34 → 34 ∷ b ∷ [] ≡ doubled_quote b
quote-doubled b e = rw e refl

other-by : (b : ℕ) (t : Bool) → (b == 34) ≡ t → b ≢ 34 → b ∷ [] ≡ (if t then 34 ∷ 34 ∷ [] else b ∷ [])
other-by b true e far = absurd (grind (arith, nat_tests, e, far))
other-by b false e far = refl

pub returns : goal.returns
returns g c =
    elim c.if-byte-eq34.branch [
      | then-byte-eq34 w ↦ same-growth (quote-doubled c.args.byte w.if-byte-eq34.true) (grows-more w.put_byte.ensures (rw w.out-is at c.put_byte-2.ensures))
      | else-byte-eq34 w ↦ same-growth (other-by c.args.byte (c.args.byte == 34) refl w.if-byte-eq34.false) (rw w.out-is at c.put_byte-2.ensures)
    ]
