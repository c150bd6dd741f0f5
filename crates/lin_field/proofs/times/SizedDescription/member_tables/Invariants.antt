use Rattle.std.proofs.Common.{◌≡◌, map, take}
use Rattle.std.specs.Prelude.{filter}
use Rattle.lin_field.specs.Tables.{is_members_name}
use Rattle.lin_field.specs.Times.{member_table}
use Rattle.lin_field.proofs.times.SizedDescription.member_tables.Given as goal

abbrev pub invariant-loop-event : goal.invariant-loop-event
invariant-loop-event l =
    l.made.items
    ≡ map (member_table l.self l.tables)
    (filter (λ e. is_members_name e.table) (take l.event-index l.self.events))
