use Rattle.std.proofs.Common.{◌≡◌, take}
use Rattle.std.specs.List.{flat_map}
use Rattle.lin_field.specs.Times.{tight_slot}
use Rattle.lin_field.proofs.times.SizedDescription.tight_slots.Given as goal

abbrev pub invariant-loop-table : goal.invariant-loop-table
invariant-loop-table l =
    l.tight.items ≡ flat_map (λ t. flat_map (tight_slot l.self) t.entries) (take l.table-index l.self.tables)
