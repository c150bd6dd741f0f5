use Rattle.std.proofs.Common.{◌<◌, length, arith}
use Rattle.lin_values.proofs.ItemSteps.{value-step, value-number}
use Rattle.lin_values.proofs.encoding.add_values.Goals as goal

pub loop-number-preserved : goal.loop-number-preserved
loop-number-preserved c =
    let lt : c.loop-number.number < length c.args.items.now = omega arith in
    let before = c.loop-number.invariant in
    let one = c.index-items-number in
    record {
      warned = value-step c.args.items.now c.loop-number.number one.result c.loop-number.layers c.args.warned.now.items c.loop-number.warned.items c.add_value.new.warned.items lt one.is before.layers before.warned c.in_ok-add_value.ensures.warned;
      layers = value-number c.args.items.now c.loop-number.number one.result c.loop-number.layers c.add_value.new.layers lt one.is before.layers c.in_ok-add_value.ensures.layers;
    }
