use Rattle.std.proofs.Common.{◌≡◌, ◌++◌}
use Rattle.lin_field.specs.Times.{member_tables, timed_tables}
use Rattle.lin_field.proofs.times.all_tables.Given as goal

abbrev pub invariant-loop-table : goal.invariant-loop-table
invariant-loop-table l = record {
  made : l.timed.items ≡ l.initial.timed.items ++ l.yielded;
  whole : l.yielded ++ l.table-iterator.rest.items ≡ member_tables l.description (timed_tables l.description l.fn.tables.items);
}
