use Rattle.std.proofs.Common.{take}
use Rattle.std.specs.Prelude.{reverse}
use Rattle.lin_tool.specs.campaign.Singles.{AreSinglesOf}
use Rattle.lin_tool.specs.campaign.Slots.{HasRead, finished_slots}
use Rattle.lin_tool.proofs.campaign.singles.singles.Given as goal

abbrev pub invariant-loop-index : goal.invariant-loop-index
invariant-loop-index l = record {
  follows : HasRead l.reader (reverse (take l.index l.log.entries));
  found : AreSinglesOf l.cluster l.kinds (finished_slots (take l.index l.log.entries)) l.all.items l.number;
}
