use Rattle.std.proofs.Common.{◌≡◌, ℕ, ◌<◌, ◌*◌, ◌∙◌, nat_lt, of_z, to_z, ap, false, pos, negsuc}
use Rattle.std.specs.Prelude.{ℤ, int_lt, unsigned_abs, int_le}
use Rattle.std.proofs.lemmas.Int.{to_z-of_z}
use Rattle.std.specs.Int.{div_ceil, w128}
use Rattle.lin_values.proofs.Multiples.{first-is}
use Rattle.lin_values.proofs.sought.first_multiple.Goals as goal

positive : (low : ℤ) (n step q : ℕ) → 0 < step → int_le low (pos 0) ≡ false → q ≡ div_ceil (unsigned_abs low) step → nat_lt n q ≡ int_lt (pos (n * step)) low
positive (pos m) n step q h f d = ap (nat_lt n) d ∙ first-is n step m h
positive (negsuc m) n step q h f d = cc

pub returns-else-low-le0 : goal.returns-else-low-le0
returns-else-low-le0 c = λ n.
    let low = c.args.low in
    let e : to_z w128 (of_z w128 c.args.low) ≡ c.args.low = to_z-of_z w128 c.args.low c.ranges.low in
    positive c.args.low n c.args.step c.div_ceil.result c.requires (rw e at c.if-low-le0.false) (rw e at c.div_ceil.ensures)
