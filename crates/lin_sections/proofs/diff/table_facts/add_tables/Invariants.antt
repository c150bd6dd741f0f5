use Rattle.std.proofs.Common.{◌≡◌, ◌++◌, flat_map, length}
use Rattle.lin_sections.specs.Statements.{statements}
use Rattle.lin_sections.specs.Things.{named_lines}
use Rattle.lin_sections.proofs.diff.table_facts.add_tables.Given as goal

abbrev pub invariant-loop-parser : goal.invariant-loop-parser
invariant-loop-parser l =
    l.tables.items ++ flat_map named_lines (statements l.parser) ≡ l.fn.tables.items ++ flat_map named_lines (statements l.fn.parser)

abbrev pub decreases-loop-parser : goal.decreases-loop-parser
decreases-loop-parser l = length l.parser
