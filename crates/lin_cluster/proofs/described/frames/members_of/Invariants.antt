use Rattle.std.proofs.Common.{◌≡◌, map, take}
use Rattle.lin_cluster.specs.Described.{frame_number}
use Rattle.lin_cluster.proofs.described.frames.members_of.Given as goal

abbrev pub invariant-loop-name : goal.invariant-loop-name
invariant-loop-name l = l.members.items ≡ map (frame_number l.d) (take l.name-index l.names)
