use Rattle.std.proofs.Common.{◌≡◌, filter}
use Rattle.std.specs.List.{range_with_len}
use Rattle.lin_cluster.specs.Described.{is_concerned_by}
use Rattle.lin_cluster.proofs.described.error_signals.frames_concerning.Given as goal

abbrev pub invariant-loop-frame : goal.invariant-loop-frame
invariant-loop-frame l = l.found.items ≡ filter (is_concerned_by l.node l.subscribed l.frames) (range_with_len 0 l.frame)
