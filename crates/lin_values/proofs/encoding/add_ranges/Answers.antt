use Rattle.std.proofs.Common.{◌<◌, length, arith}
use Rattle.lin_values.proofs.ItemSteps.{range-step, range-number, range-behind}
use Rattle.lin_values.proofs.encoding.add_ranges.Goals as goal

pub loop-number-preserved : goal.loop-number-preserved
loop-number-preserved c =
    let lt : c.loop-number.number < length c.args.items.now = omega arith in
    let before = c.loop-number.invariant in
    let one = c.index-items-number in
    let now = c.in_ok-add_range.ensures in
    record {
      warned = range-step c.args.items.now c.loop-number.number one.result c.loop-number.ranges c.args.warned.now.items c.loop-number.warned.items c.add_range.new.warned.items lt one.is before.ranges before.warned now.warned;
      ranges = range-number c.args.items.now c.loop-number.number one.result c.loop-number.ranges c.add_range.new.ranges lt one.is before.ranges now.ranges;
      layers = range-behind c.args.items.now c.loop-number.number one.result c.args.layers.now c.loop-number.layers c.add_range.new.layers lt one.is before.layers now.layers;
    }
