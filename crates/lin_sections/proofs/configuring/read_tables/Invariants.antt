use Rattle.std.proofs.Common.{◌≡◌, ◌++◌, flat_map, length}
use Rattle.lin_ldf.specs.Stream.{start_of}
use Rattle.lin_ldf.specs.Symbols.{symbols_in}
use Rattle.lin_sections.specs.Configuring.{section_requests, section_warnings}
use Rattle.lin_sections.specs.Statements.{statements}
use Rattle.lin_sections.proofs.configuring.read_tables.Given as goal

abbrev pub invariant-loop-parser : goal.invariant-loop-parser
invariant-loop-parser l = record {
  tables : l.tables.items ++ flat_map (section_requests l.cluster l.identities) (statements l.parser) ≡ flat_map (section_requests l.cluster l.identities) (statements (symbols_in l.fn.source (start_of l.fn.source).tokens));
  warned : l.warned.items ++ flat_map (section_warnings l.cluster l.identities) (statements l.parser) ≡ l.fn.warned.items ++ flat_map (section_warnings l.cluster l.identities) (statements (symbols_in l.fn.source (start_of l.fn.source).tokens));
}

abbrev pub decreases-loop-parser : goal.decreases-loop-parser
decreases-loop-parser l = length l.parser
