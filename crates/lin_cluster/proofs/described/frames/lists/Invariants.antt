use Rattle.std.proofs.Common.{◌≡◌, take, false}
use Rattle.std.specs.Prelude.{◌==◌}
use Rattle.std.specs.List.{list_any}
use Rattle.lin_cluster.specs.Described.{frame_number}
use Rattle.lin_cluster.proofs.described.frames.lists.Given as goal

abbrev pub invariant-loop-member : goal.invariant-loop-member
invariant-loop-member l = list_any (λ m. frame_number l.d m == l.frame) (take l.member-index l.members) ≡ false
