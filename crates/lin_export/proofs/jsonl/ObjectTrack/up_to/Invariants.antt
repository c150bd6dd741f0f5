use Rattle.lin_export.proofs.Tellings.{before}
use Rattle.lin_export.specs.Jsonl.{IsObjectTrackOf}
use Rattle.lin_export.proofs.jsonl.ObjectTrack.up_to.Given as goal

abbrev pub invariant-loop-index : goal.invariant-loop-index
invariant-loop-index l = IsObjectTrackOf l.fn.cluster (before l.fn.log.entries l.index) l.objects
