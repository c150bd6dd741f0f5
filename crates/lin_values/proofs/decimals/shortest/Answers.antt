use Rattle.std.proofs.Common.{arith, true, false, ◌≡◌, ◌*◌, ◌^◌, ◌-◌, ◌∙◌}
use Rattle.lin_values.specs.Value.{without_zeros}
use Rattle.lin_values.proofs.Powers.{dropped-zero}
use Rattle.lin_values.proofs.ShortestDecimals.{zero-dropped, tenth-positive, none-left, last-kept, shortest-is}
use Rattle.lin_values.proofs.decimals.shortest.Goals as goal
use Rattle.lin_values.proofs.decimals.shortest.Goals.{then-loop-left-test+else-rest-eq0, else-loop-left-test}

pub loop-left-preserved : goal.loop-left-preserved
loop-left-preserved c = record {
  same = dropped-zero c.loop-left.rest (c.args.digits * 10 ^ (24 - c.args.places)) c.loop-left.left c.loop-left.invariant.same (omega arith) (omega arith) (omega arith);
  few = omega arith;
  exact = c.loop-left.invariant.exact ∙ zero-dropped c.loop-left.rest c.loop-left.left (omega arith) (omega arith);
  some = tenth-positive c.loop-left.rest (omega arith) ∙ c.loop-left.invariant.some;
}

pub returns-then-negative-clause-exact : goal.returns-then-negative-clause-exact
returns-then-negative-clause-exact c =
    let done : without_zeros c.loop-left.rest c.loop-left.left ≡ (c.loop-left.rest, c.loop-left.left) =
    elim c.loop-left-test.branch [
      | then-loop-left-test+else-rest-eq0 w ↦ last-kept c.loop-left.rest c.loop-left.left (omega arith)
      | else-loop-left-test w ↦ none-left c.loop-left.rest c.loop-left.left (omega arith)
    ]
    in
    rw c.if-negative.true
    (shortest-is true c.args.digits c.args.places c.loop-left.rest c.loop-left.left (c.loop-left.invariant.exact ∙ done) c.loop-left.invariant.some)

pub returns-else-negative-clause-exact : goal.returns-else-negative-clause-exact
returns-else-negative-clause-exact c =
    let done : without_zeros c.loop-left.rest c.loop-left.left ≡ (c.loop-left.rest, c.loop-left.left) =
    elim c.loop-left-test.branch [
      | then-loop-left-test+else-rest-eq0 w ↦ last-kept c.loop-left.rest c.loop-left.left (omega arith)
      | else-loop-left-test w ↦ none-left c.loop-left.rest c.loop-left.left (omega arith)
    ]
    in
    rw c.if-negative.false
    (shortest-is false c.args.digits c.args.places c.loop-left.rest c.loop-left.left (c.loop-left.invariant.exact ∙ done) c.loop-left.invariant.some)
