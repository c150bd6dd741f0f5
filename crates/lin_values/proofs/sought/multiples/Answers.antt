use Rattle.std.proofs.Common.{◌≡◌, ℕ, ◌<◌, ◌*◌, ◌∙◌, ◌&&◌, nat_lt, nat_le, of_z, to_z, false, pos, arith, refl}
use Rattle.std.specs.Prelude.{ℤ, int_lt}
use Rattle.std.specs.Int.{w128}
use Rattle.std.proofs.lemmas.Int.{to_z-of_z}
use Rattle.std.proofs.lemmas.Grind.{common_steps}
use Rattle.lin_values.specs.Raws.{lies_within}
use Rattle.lin_values.proofs.Multiples.{not-below}
use Rattle.lin_values.proofs.sought.multiples.Goals as goal

-- both ends by their tests
pub both-ends : (low high z : ℤ) (first last n : ℕ) → nat_lt n first ≡ int_lt z low → nat_lt last n ≡ int_lt high z → lies_within low high z ≡ nat_le first n && nat_le n last
both-ends low high z first last n e f = rw (← e, ← f, not-below n first, not-below last n) refl

none-between : (first last n : ℕ) → last < first → nat_le first n && nat_le n last ≡ false
none-between first last n h = grind (arith, common_steps)

pub returns-then-first-last-clause-found : goal.returns-then-first-last-clause-found
returns-then-first-last-clause-found c = λ n h.
    let e : to_z w128 (of_z w128 c.args.low) ≡ c.args.low = to_z-of_z w128 c.args.low c.ranges.low in
    let f : to_z w128 (of_z w128 c.args.high) ≡ c.args.high = to_z-of_z w128 c.args.high c.ranges.high in
    both-ends c.args.low c.args.high (pos (n * c.args.step)) c.first_multiple-first.result c.last_multiple-last.result n (rw e at (c.first_multiple-first.ensures n)) (rw f at (c.last_multiple-last.ensures.found n h))
    ∙ none-between c.first_multiple-first.result c.last_multiple-last.result n c.if-first-last.true

pub returns-clause-found : goal.returns-clause-found
returns-clause-found c = λ n h.
    let e : to_z w128 (of_z w128 c.args.low) ≡ c.args.low = to_z-of_z w128 c.args.low c.ranges.low in
    let f : to_z w128 (of_z w128 c.args.high) ≡ c.args.high = to_z-of_z w128 c.args.high c.ranges.high in
    both-ends c.args.low c.args.high (pos (n * c.args.step)) c.first_multiple-first.result c.last_multiple-last.result n (rw e at (c.first_multiple-first.ensures n)) (rw f at (c.last_multiple-last.ensures.found n h))
