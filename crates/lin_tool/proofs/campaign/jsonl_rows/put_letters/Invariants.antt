use Rattle.std.proofs.Common.{◌≡◌, ◌≤◌, length, take}
use Rattle.lin_text.specs.Written.{Grows}
use Rattle.lin_tool.specs.Placing.{past_at}
use Rattle.lin_tool.specs.campaign.Jsonl.{slot_letters}
use Rattle.lin_tool.specs.campaign.Slots.{HasRead, slots_of}
use Rattle.lin_tool.proofs.campaign.jsonl_rows.put_letters.Given as goal

abbrev pub invariant-loop-index : goal.invariant-loop-index
invariant-loop-index g l = record {
  put : Grows g.W.Write.contents l.initial.out l.out (slot_letters (take 1000 (slots_of (past_at l.log.entries l.index))));
  follows : HasRead l.reader (past_at l.log.entries l.index);
  count : l.count ≡ length (slots_of (past_at l.log.entries l.index));
  few : l.count ≤ l.index;
}
