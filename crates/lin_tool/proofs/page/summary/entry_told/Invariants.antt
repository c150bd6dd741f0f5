use Rattle.std.proofs.Common.{◌≡◌, ◌≤◌, take}
use Rattle.std.specs.List.{count_by}
use Rattle.lin_tool.specs.PageTold.{is_told}
use Rattle.lin_tool.proofs.page.summary.entry_told.Given as goal

abbrev pub invariant-loop-event : goal.invariant-loop-event
invariant-loop-event l = record {
  count : l.count ≡ count_by (is_told l.fn.told) (take l.event-index l.event-items);
  few : l.count ≤ l.event-index;
}
