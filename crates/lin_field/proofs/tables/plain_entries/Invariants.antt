use Rattle.std.proofs.Common.{◌≡◌, ◌++◌, map}
use Rattle.std.specs.List.{flat_map}
use Rattle.lin_field.specs.Tables.{plain_entry, entry_rounded}
use Rattle.lin_field.proofs.tables.plain_entries.Given as goal

abbrev pub invariant-loop-entry : goal.invariant-loop-entry
invariant-loop-entry l = record {
  settled : l.plain.items ++ map plain_entry l.entry-iterator.rest.items ≡ map plain_entry l.fn.entries;
  warned : l.warned.items ++ flat_map entry_rounded l.entry-iterator.rest.items ≡ l.fn.warned.items ++ flat_map entry_rounded l.fn.entries;
}
