use Rattle.std.proofs.Common.{◌≡◌, ◌++◌}
use Rattle.lin_field.specs.Times.{timed_tables, timing_warnings}
use Rattle.lin_field.proofs.times.SizedDescription.time_tables.Given as goal

abbrev pub invariant-loop-table : goal.invariant-loop-table
invariant-loop-table l = record {
  timed : l.timed.items ≡ timed_tables l.self l.yielded;
  warned : l.warned.items ≡ l.fn.warned.items ++ timing_warnings l.self l.yielded;
  whole : l.yielded ++ l.table-iterator.rest.items ≡ l.fn.tables.items;
}
