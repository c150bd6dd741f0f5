use Rattle.std.proofs.Common.{◌≡◌, filter}
use Rattle.std.specs.List.{range_with_len}
use Rattle.lin_parts.specs.Cluster.{has_signal}
use Rattle.lin_parts.proofs.carriers.frames_with.Given as goal

abbrev pub invariant-loop-frame : goal.invariant-loop-frame
invariant-loop-frame l =
    l.found.items ≡ filter (has_signal l.parts l.signal) (range_with_len 0 l.frame)
