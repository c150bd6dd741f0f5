use Rattle.std.proofs.Common.{◌≡◌, ◌++◌, drop}
use Rattle.std.specs.List.{filter_map}
use Rattle.lin_tool.specs.campaign.Row.{loss_in}
use Rattle.lin_tool.proofs.campaign.row.add_lost.Given as goal

abbrev pub invariant-loop-event : goal.invariant-loop-event
invariant-loop-event l = l.lost.items ++ filter_map loss_in (drop l.event-index l.event-items) ≡ l.initial.lost.items ++ filter_map loss_in l.event-items
