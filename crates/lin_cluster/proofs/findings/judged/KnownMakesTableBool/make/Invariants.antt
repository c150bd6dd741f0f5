use Rattle.std.proofs.Common.{◌≡◌, take, false}
use Rattle.std.specs.List.{list_any}
use Rattle.lin_cluster.specs.FindingsNames.{is_event_entry}
use Rattle.lin_cluster.proofs.findings.judged.KnownMakesTableBool.make.Given as goal

abbrev pub invariant-loop-entry : goal.invariant-loop-entry
invariant-loop-entry l = list_any (is_event_entry l.self) (take l.entry-index l.table.entries) ≡ false
