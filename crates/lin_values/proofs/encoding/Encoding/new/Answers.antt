use Rattle.lin_values.proofs.EncodedItems.{indexed}
use Rattle.lin_values.proofs.encoding.Encoding.new.Goals as goal

pub invariant_of-result : goal.invariant_of-result
invariant_of-result c =
    let of = c.of-traits.ensures in
    indexed (record { name = c.args.coding.name; items = c.args.coding.items }) c.of-traits.result c.as_slice-items.result.now c.add_values.new.layers c.add_ranges.new.layers c.new.result c.in_ok-into_parts.field-0.items
    c.as_slice-items.ensures (record { numeric = of.numeric; range = of.range; greatest = of.greatest; first = of.first; second = of.second })
    c.in_ok-add_values.ensures.layers c.in_ok-add_ranges.ensures.layers c.in_ok-into_parts.ensures.same c.in_ok-into_parts.ensures.ordered c.new.ensures
