use Rattle.std.proofs.Common.{◌≡◌, ◌++◌, map}
use Rattle.std.specs.List.{flat_map}
use Rattle.lin_field.specs.Times.{timed_entry, delay_warnings}
use Rattle.lin_field.proofs.times.SizedDescription.time_entries.Given as goal

abbrev pub invariant-loop-entry : goal.invariant-loop-entry
invariant-loop-entry l = record {
  timed : l.timed.items ≡ map (timed_entry l.self) l.yielded;
  warned : l.warned.items ≡ l.fn.warned.items ++ flat_map (delay_warnings l.self) l.yielded;
  whole : l.yielded ++ l.entry-iterator.rest.items ≡ l.fn.entries;
}
