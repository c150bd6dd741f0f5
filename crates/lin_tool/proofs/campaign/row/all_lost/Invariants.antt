use Rattle.std.proofs.Common.{◌≡◌, take}
use Rattle.lin_tool.specs.campaign.Row.{lost_messages}
use Rattle.lin_tool.proofs.campaign.row.all_lost.Given as goal

abbrev pub invariant-loop-index : goal.invariant-loop-index
invariant-loop-index l = l.lost.items ≡ lost_messages (take l.index l.log.entries)
