use Rattle.std.proofs.Common.{◌≡◌, map, take}
use Rattle.std.specs.List.{enumerate_from}
use Rattle.lin_cluster.specs.Described.{described_frame}
use Rattle.lin_cluster.proofs.described.frames.frames_of.Given as goal

abbrev pub invariant-loop-number : goal.invariant-loop-number
invariant-loop-number l = l.made.items ≡ map (described_frame l.d) (enumerate_from 0 (take l.number l.frames))
