use Rattle.std.proofs.Common.{◌≡◌, ◌++◌, length}
use Rattle.std.specs.Prelude.{not, take_while}
use Rattle.lin_ldf.specs.Stream.{start_of}
use Rattle.lin_ldf.specs.Symbols.{symbols_in}
use Rattle.lin_sections.specs.Statements.{is_group, statements}
use Rattle.lin_sections.specs.TokenTexts.{lines_of_header}
use Rattle.lin_sections.proofs.diff.tokens.header_lines.Given as goal

abbrev pub invariant-loop-parser : goal.invariant-loop-parser
invariant-loop-parser l =
    l.lines.items ++ take_while (λ us. not (is_group us)) (statements l.parser) ≡ lines_of_header (symbols_in l.fn.source (start_of l.fn.source).tokens)

abbrev pub decreases-loop-parser : goal.decreases-loop-parser
decreases-loop-parser l = length l.parser
