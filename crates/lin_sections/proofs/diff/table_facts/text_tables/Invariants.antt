use Rattle.std.proofs.Common.{◌≡◌, ◌++◌, flat_map, length}
use Rattle.lin_sections.specs.Statements.{statements}
use Rattle.lin_sections.specs.Things.{section_tables}
use Rattle.lin_ldf.specs.Stream.{start_of}
use Rattle.lin_ldf.specs.Symbols.{symbols_in}
use Rattle.lin_sections.proofs.diff.table_facts.text_tables.Given as goal

abbrev pub invariant-loop-parser : goal.invariant-loop-parser
invariant-loop-parser l =
    l.tables.items ++ flat_map section_tables (statements l.parser) ≡ flat_map section_tables (statements (symbols_in l.fn.source (start_of l.fn.source).tokens))

abbrev pub decreases-loop-parser : goal.decreases-loop-parser
decreases-loop-parser l = length l.parser
