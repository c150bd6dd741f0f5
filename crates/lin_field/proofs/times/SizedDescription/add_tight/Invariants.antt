use Rattle.std.proofs.Common.{◌≡◌, ◌++◌, take}
use Rattle.std.specs.List.{flat_map}
use Rattle.lin_field.specs.Times.{tight_slot}
use Rattle.lin_field.proofs.times.SizedDescription.add_tight.Given as goal

abbrev pub invariant-loop-entry : goal.invariant-loop-entry
invariant-loop-entry l = l.tight.items ≡ l.fn.tight.items ++ flat_map (tight_slot l.self) (take l.entry-index l.entries)
