use mir.Syntax.{w128}
use mir.Val.{of_z, to_z}
use Rattle.std.proofs.Common.{◌∙◌, ap}
use Rattle.std.proofs.lemmas.Int.{to_z-of_z}
use Rattle.lin_bench.specs.Meant.{values_in}
use Rattle.lin_bench.proofs.AllValues.{same-range, within-small, within-values}
use Rattle.lin_bench.proofs.meant.MeantValues.within.Goals as goal

pub invariant_of-result : goal.invariant_of-result
invariant_of-result c =
    rw c.in_ok-new.ensures.ok
    (within-small c.in_ok-raws.raws c.args.coded.now c.args.signal c.args.low c.args.high c.args.unit.now
    (same-range c.in_ok-raws.raws c.args.coded.now c.args.signal c.args.low c.args.high (to_z w128 (of_z w128 c.args.low)) (to_z w128 (of_z w128 c.args.high)) c.args.unit.now (to_z-of_z w128 c.args.low c.ranges.low) (to_z-of_z w128 c.args.high c.ranges.high) c.in_ok-raws.ensures))

pub returns : goal.returns
returns c =
    ap values_in c.in_ok-new.ensures.ok
    ∙ within-values c.in_ok-raws.raws c.args.coded.now c.args.signal c.args.low c.args.high c.args.unit.now
    (same-range c.in_ok-raws.raws c.args.coded.now c.args.signal c.args.low c.args.high (to_z w128 (of_z w128 c.args.low)) (to_z w128 (of_z w128 c.args.high)) c.args.unit.now (to_z-of_z w128 c.args.low c.ranges.low) (to_z-of_z w128 c.args.high c.ranges.high) c.in_ok-raws.ensures)
