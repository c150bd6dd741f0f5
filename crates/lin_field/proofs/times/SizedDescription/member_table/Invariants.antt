use Rattle.std.proofs.Common.{◌≡◌, map, take}
use Rattle.std.specs.Prelude.{filter, is_some}
use Rattle.lin_cluster.specs.FindingsNames.{frame_named}
use Rattle.lin_field.specs.Times.{member_entry}
use Rattle.lin_field.proofs.times.SizedDescription.member_table.Given as goal

abbrev pub invariant-loop-member : goal.invariant-loop-member
invariant-loop-member l =
    l.entries.items
    ≡ map (member_entry l.self l.event.id l.delay)
    (filter (λ m. is_some (frame_named l.self m)) (take l.member-index l.event.members))
