use Rattle.std.proofs.Common.{arith, ◌*◌, ◌^◌, ◌-◌, ◌∙◌}
use Rattle.lin_values.proofs.Powers.{dropped-eight}
use Rattle.lin_values.proofs.ShortestDecimals.{eight-dropped, eighth-positive}
use Rattle.lin_values.proofs.decimals.without_eights.Goals as goal

pub loop-left-preserved : goal.loop-left-preserved
loop-left-preserved c = record {
  same = dropped-eight c.loop-left.rest (c.args.digits * 10 ^ (24 - c.args.places)) c.loop-left.left c.loop-left.invariant.same (omega arith) (omega arith) (omega arith);
  few = omega arith;
  exact = eight-dropped c.loop-left.rest c.loop-left.left (omega arith) (omega arith) ∙ c.loop-left.invariant.exact;
  some = eighth-positive c.loop-left.rest (omega arith) ∙ c.loop-left.invariant.some;
}
