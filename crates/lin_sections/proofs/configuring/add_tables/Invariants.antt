use Rattle.std.proofs.Common.{◌≡◌, ◌++◌, flat_map, length}
use Rattle.lin_sections.specs.Configuring.{table_requests, table_command_warnings}
use Rattle.lin_sections.specs.Statements.{statements}
use Rattle.lin_sections.proofs.configuring.add_tables.Given as goal

abbrev pub invariant-loop-parser : goal.invariant-loop-parser
invariant-loop-parser l = record {
  tables : l.tables.items ++ flat_map (table_requests l.cluster l.identities) (statements l.parser) ≡ l.fn.tables.items ++ flat_map (table_requests l.cluster l.identities) (statements l.fn.parser);
  warned : l.warned.items ++ flat_map (table_command_warnings l.cluster l.identities) (statements l.parser) ≡ l.fn.warned.items ++ flat_map (table_command_warnings l.cluster l.identities) (statements l.fn.parser);
}

abbrev pub decreases-loop-parser : goal.decreases-loop-parser
decreases-loop-parser l = length l.parser
