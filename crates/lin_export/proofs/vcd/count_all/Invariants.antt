use Rattle.std.proofs.Common.{◌≡◌, ◌<◌, ℕ, drop}
use Rattle.std.specs.Prelude.{slice_index}
use Rattle.lin_export.specs.Vcd.{counted_all}
use Rattle.lin_export.proofs.vcd.count_all.Given as goal

abbrev pub invariant-loop-event : goal.invariant-loop-event
invariant-loop-event l = (h : ℕ) → h < 256 → counted_all h (drop l.event-index l.events) (slice_index l.counts h) ≡ counted_all h l.events (slice_index l.initial.counts h)
