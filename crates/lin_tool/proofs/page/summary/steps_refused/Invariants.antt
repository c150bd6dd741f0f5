use Rattle.std.proofs.Common.{◌≡◌, ◌≤◌, take}
use Rattle.std.specs.List.{count_by}
use Rattle.lin_core.specs.declared.log.LogEntry.{LogEntry}
use Rattle.lin_tool.specs.Page.{is_refusal}
use Rattle.lin_tool.proofs.page.summary.steps_refused.Given as goal

abbrev pub invariant-loop-index : goal.invariant-loop-index
invariant-loop-index l = record {
  count : l.count ≡ count_by (λ (e : LogEntry). is_refusal e.reply) (take l.index l.fn.log.entries);
  few : l.count ≤ l.index;
}
