use Rattle.std.proofs.Common.{◌≡◌, take}
use Rattle.lin_cluster.specs.SlotTimes.{greatest_bytes}
use Rattle.lin_export.proofs.cluster_lists.slot_times.greatest_bytes.Given as goal

abbrev pub invariant-loop-frame : goal.invariant-loop-frame
invariant-loop-frame l = l.greatest ≡ greatest_bytes l.fn.cluster (take l.frame-index l.frames)
