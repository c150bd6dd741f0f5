use Rattle.std.proofs.Common.{◌≡◌, take, false}
use Rattle.std.specs.Prelude.{◌==◌}
use Rattle.std.specs.List.{list_any}
use Rattle.lin_cluster.specs.Described.{frame_number}
use Rattle.lin_cluster.proofs.described.frames.is_member.Given as goal

abbrev pub invariant-loop-event : goal.invariant-loop-event
invariant-loop-event l = list_any (λ e. list_any (λ m. frame_number l.d m == l.frame) e.members) (take l.event-index l.events) ≡ false
