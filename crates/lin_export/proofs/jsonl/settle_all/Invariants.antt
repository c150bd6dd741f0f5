use Rattle.std.proofs.Common.{◌≡◌, ◌<◌, ℕ, drop}
use Rattle.std.specs.Prelude.{slice_index}
use Rattle.lin_export.specs.Jsonl.{settled_all}
use Rattle.lin_export.proofs.jsonl.settle_all.Given as goal

abbrev pub invariant-loop-event : goal.invariant-loop-event
invariant-loop-event l = (h : ℕ) → h < 256 → settled_all h (drop l.event-index l.events) (slice_index l.last h) ≡ settled_all h l.events (slice_index l.initial.last h)
