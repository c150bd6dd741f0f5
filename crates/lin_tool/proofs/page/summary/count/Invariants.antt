use Rattle.std.proofs.Common.{◌≡◌, ◌≤◌, ◌*◌, take}
use Rattle.lin_tool.specs.Page.{events_so}
use Rattle.lin_tool.specs.PageTold.{is_told}
use Rattle.lin_tool.proofs.page.summary.count.Given as goal

abbrev pub invariant-loop-index : goal.invariant-loop-index
invariant-loop-index l = record {
  sum : l.count ≡ events_so (is_told l.fn.told) (take l.index l.fn.log.entries);
  few : l.count ≤ 18446744073709551616 * l.index;
}
