use Rattle.std.proofs.Common.{◌≡◌, ℕ, ◌<◌, length}
use Rattle.std.specs.Prelude.{slice_index_or}
use Rattle.lin_export.specs.Timings.{IsFrameTiming, no_frame}
use Rattle.lin_export.proofs.cluster_lists.timings.frame_timings.Given as goal

abbrev pub invariant-loop-frame : goal.invariant-loop-frame
invariant-loop-frame l =
    (length l.all.items ≡ l.frame)
    × ((f : ℕ) → f < length l.all.items → IsFrameTiming l.cluster l.table f (slice_index_or l.all.items f no_frame))
