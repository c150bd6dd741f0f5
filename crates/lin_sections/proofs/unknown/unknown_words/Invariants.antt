use Rattle.std.proofs.Common.{◌≡◌, ◌++◌, flat_map, length}
use Rattle.lin_ldf.specs.Symbols.{symbols_in}
use Rattle.lin_ldf.specs.Stream.{start_of}
use Rattle.lin_sections.specs.Statements.{statements}
use Rattle.lin_sections.specs.Unknown.{unknown_of_section, unknown_words}
use Rattle.lin_sections.proofs.unknown.unknown_words.Given as goal

abbrev pub invariant-loop-parser : goal.invariant-loop-parser
invariant-loop-parser l = l.found.items ++ flat_map unknown_of_section (statements l.parser) ≡ unknown_words (symbols_in l.fn.source (start_of l.fn.source).tokens)

abbrev pub decreases-loop-parser : goal.decreases-loop-parser
decreases-loop-parser l = length l.parser
