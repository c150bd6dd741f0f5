use Rattle.std.proofs.Common.{◌≡◌, ◌<◌, ◌≤◌, ℕ, [], length, vec_capacity}
use Rattle.lin_parts.specs.Cluster.{frame_of}
use Rattle.lin_core.proofs.signals.room_for_frames.Given as goal

abbrev pub invariant-loop-frame : goal.invariant-loop-frame
invariant-loop-frame l = record {
  empty : l.room.items ≡ [];
  room : (f : ℕ) → f < l.frame → length (frame_of l.cluster f).signals ≤ vec_capacity l.room;
}
