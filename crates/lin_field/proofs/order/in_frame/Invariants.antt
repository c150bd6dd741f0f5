use Rattle.std.proofs.Common.{◌≡◌, ◌++◌, take}
use Rattle.std.specs.List.{flat_map}
use Rattle.lin_field.specs.Order.{placed_order}
use Rattle.lin_field.proofs.order.in_frame.Given as goal

abbrev pub invariant-loop-placed : goal.invariant-loop-placed
invariant-loop-placed l = l.found.items ≡ l.fn.found.items ++ flat_map (placed_order l.signals) (take l.placed-index l.all_placed)
