use Rattle.std.proofs.Common.{◌≡◌, length}
use Rattle.std.specs.Prelude.{codes, find}
use Rattle.lin_ldf.specs.Stream.{start_of}
use Rattle.lin_ldf.specs.Symbols.{symbols_in}
use Rattle.lin_ldf.specs.Words.{is_word_next}
use Rattle.lin_sections.specs.Statements.{statements}
use Rattle.lin_sections.proofs.attribute_values.header_version.Given as goal

abbrev pub invariant-loop-parser : goal.invariant-loop-parser
invariant-loop-parser l = find (is_word_next (codes "LIN_protocol_version")) (statements l.parser) ≡ find (is_word_next (codes "LIN_protocol_version")) (statements (symbols_in l.fn.source (start_of l.fn.source).tokens))

abbrev pub decreases-loop-parser : goal.decreases-loop-parser
decreases-loop-parser l = length l.parser
