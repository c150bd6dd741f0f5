use Rattle.std.proofs.Common.{◌≤◌, drop, length, take}
use Rattle.std.specs.Prelude.{reverse}
use Rattle.lin_export.specs.Jsonl.{IsObjectTrackOf}
use Rattle.lin_export.specs.WhereTold.{given_coding}
use Rattle.lin_tool.specs.Objects.{checked_objects}
use Rattle.lin_tool.proofs.Remaining.{PutsUpTo}
use Rattle.lin_tool.proofs.objects.put_checked.Given as goal

abbrev pub invariant-loop-one : goal.invariant-loop-one
invariant-loop-one g l = record {
  put : PutsUpTo g.W.Write.contents l.initial.out l.out
      (checked_objects l.cluster (given_coding l.shown.coded) l.script l.shown.files.now l.shown.tests.now l.log.entries 0 l.shown.judgements.now)
      (checked_objects l.cluster (given_coding l.shown.coded) l.script l.shown.files.now l.shown.tests.now l.log.entries l.read (drop l.one-index l.shown.judgements.now));
  track : IsObjectTrackOf l.cluster (reverse (take l.read l.log.entries)) l.objects;
  few : l.read ≤ length l.log.entries;
}
