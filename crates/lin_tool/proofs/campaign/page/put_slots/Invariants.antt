use Rattle.std.proofs.Common.{flat_map}
use Rattle.lin_text.specs.Written.{Grows}
use Rattle.lin_tool.specs.Placing.{past_at}
use Rattle.lin_tool.specs.campaign.Page.{page_slot}
use Rattle.lin_tool.specs.campaign.Slots.{HasRead, slots_of}
use Rattle.lin_tool.proofs.campaign.page.put_slots.Given as goal

abbrev pub invariant-loop-index : goal.invariant-loop-index
invariant-loop-index g l = record {
  put : Grows g.W.Write.contents l.initial.out l.out (flat_map (page_slot l.cluster) (slots_of (past_at l.log.entries l.index)));
  follows : HasRead l.reader (past_at l.log.entries l.index);
}
