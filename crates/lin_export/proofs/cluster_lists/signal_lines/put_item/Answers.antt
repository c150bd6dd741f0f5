use Rattle.std.proofs.Common.{◌≡◌, ◌∙◌, ℕ, Bool, true, false, List, [], ap, arith, refl, sym}
use Rattle.std.specs.Prelude.{◌&&◌, if◌then◌else◌, nat_le}
use Rattle.std.proofs.lemmas.Bool.Decides.{nat_tests}
use Rattle.lin_text.proofs.Growing.{grows-nothing, same-growth}
use Rattle.lin_values.specs.Value.{fits}
use Rattle.lin_export.proofs.cluster_lists.signal_lines.put_item.Goals.{then-not-has_numbers-via-then-not-has_numbers, then-not-has_numbers-via-else-not-has_numbers+then-max-min}
use Rattle.lin_export.proofs.cluster_lists.signal_lines.put_item.Goals as goal

none-in-order : (has in_order fit : Bool) (text : List ℕ) → in_order ≡ false → [] ≡ (if has && (in_order && fit) then text else [])
none-in-order false in_order fit text e = refl
none-in-order true in_order fit text e = rw e refl

none-fit : (has in_order fit : Bool) (text : List ℕ) → fit ≡ false → [] ≡ (if has && (in_order && fit) then text else [])
none-fit false in_order fit text e = refl
none-fit true false fit text e = refl
none-fit true true fit text e = rw e refl

pub returns-then-not-has_numbers : goal.returns-then-not-has_numbers
returns-then-not-has_numbers g c =
    let i = c.in-Physical in
    rw i.is
    (elim c.then-not-has_numbers.branch [
      | then-not-has_numbers-via-then-not-has_numbers w ↦ rw w.if-not-has_numbers.true (grows-nothing c.args.out.now)
      | then-not-has_numbers-via-else-not-has_numbers+then-max-min w ↦
          let back : nat_le i.min i.max ≡ false = grind (arith, nat_tests, w.if-max-min.true) in
          same-growth (none-in-order c.args.has_numbers (nat_le i.min i.max) (fits i.max i.scale i.offset) _ back) (grows-nothing c.args.out.now)
    ])

pub returns-then-not-fits : goal.returns-then-not-fits
returns-then-not-fits g c =
    let i = c.in-Physical in
    let scale = ap (λ d. fits i.max d i.offset) (sym c.decimal.ensures.same) in
    let offset = ap (λ d. fits i.max c.decimal.result d) (sym c.decimal-in-Physical.ensures.same) in
    let no = scale ∙ offset ∙ sym c.fits.ensures ∙ c.if-not-fits.true in
    rw i.is (same-growth (none-fit c.args.has_numbers (nat_le i.min i.max) (fits i.max i.scale i.offset) _ no) (grows-nothing c.args.out.now))
