use Rattle.std.proofs.Common.{◌≡◌, ◌++◌, map, filter}
use Rattle.std.specs.Prelude.{not}
use Rattle.std.specs.List.{flat_map}
use Rattle.lin_field.specs.Tables.{plain_table, is_left_out, kept_tables, table_warnings, table_warnings_of}
use Rattle.lin_field.proofs.tables.keep_tables.Given as goal

abbrev pub invariant-loop-table : goal.invariant-loop-table
invariant-loop-table l = record {
  settled : l.kept.items ++ map plain_table (filter (λ t. not (is_left_out l.fn.tables t)) l.table-iterator.rest.items) ≡ kept_tables l.fn.tables;
  warned : l.warned.items ++ flat_map (table_warnings_of l.fn.tables) l.table-iterator.rest.items ≡ l.fn.warned.items ++ table_warnings l.fn.tables;
}
