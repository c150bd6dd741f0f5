use Rattle.std.proofs.Common.{◌∙◌, List, [], ◌∷◌, ◌++◌, ap, sym}
use Rattle.std.specs.Prelude.{not}
use Rattle.lin_ldf.specs.Stream.{start_of}
use Rattle.lin_ldf.specs.Symbols.{Symbol, symbols_in}
use Rattle.lin_sections.specs.Statements.{is_group}
use Rattle.lin_sections.specs.TokenTexts.{lines_of_header}
use Rattle.lin_sections.proofs.HeaderLines.{passing-all, passing-more, passing-no-more}
use Rattle.lin_sections.proofs.StatementSteps.{statement-less}
use Rattle.lin_sections.proofs.diff.tokens.header_lines.Goals as goal

pub loop-parser-preserved : goal.loop-parser-preserved
loop-parser-preserved c =
    passing-more (λ us. not (is_group us)) c.loop-parser.parser c.pass_statement.new.parser c.loop-parser.lines.items c.push.new.self.items
    (lines_of_header (symbols_in c.args.source.now (start_of c.args.source.now).tokens))
    (sym c.has_line.ensures ∙ c.loop-parser-test.true) (ap not (sym c.is_group.ensures ∙ c.if-is_group.false)) c.in_ok-pass_statement.ensures
    (c.in_ok-push.ensures.items ∙ ap (λ (x : List Symbol). c.loop-parser.lines.items ++ x ∷ []) c.attribute_here.ensures) c.loop-parser.invariant

pub loop-parser-smaller : goal.loop-parser-smaller
loop-parser-smaller c =
    statement-less c.loop-parser.parser c.pass_statement.new.parser (sym c.has_line.ensures ∙ c.loop-parser-test.true) c.in_ok-pass_statement.ensures

pub returns-then-is_group : goal.returns-then-is_group
returns-then-is_group c =
    passing-no-more (λ us. not (is_group us)) c.loop-parser.parser c.loop-parser.lines.items
    (lines_of_header (symbols_in c.args.source.now (start_of c.args.source.now).tokens))
    (sym c.has_line.ensures ∙ c.loop-parser-test.true) (ap not (sym c.is_group.ensures ∙ c.if-is_group.true)) c.loop-parser.invariant

pub returns : goal.returns
returns c =
    passing-all (λ us. not (is_group us)) c.loop-parser.parser c.loop-parser.lines.items
    (lines_of_header (symbols_in c.args.source.now (start_of c.args.source.now).tokens))
    (sym c.has_line.ensures ∙ c.loop-parser-test.false) c.loop-parser.invariant
