use Rattle.std.proofs.Common.{◌≡◌, ℕ, ◌<◌, ◌≤◌, length}
use Rattle.std.specs.Prelude.{slice_index}
use Rattle.lin_parts.specs.Cluster.{frames_with}
use Rattle.lin_export.proofs.cluster_lists.timings.all_first_alike.Given as goal

abbrev pub invariant-loop-signal : goal.invariant-loop-signal
invariant-loop-signal l =
    (length l.all.items ≡ l.signal)
    × ((s : ℕ) → s < length l.all.items → frames_with l.cluster (slice_index l.all.items s) ≡ frames_with l.cluster s)
    × ((s : ℕ) → s < length l.all.items → slice_index l.all.items s ≤ s)
