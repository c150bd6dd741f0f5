use Rattle.std.proofs.Common.{◌∙◌, [], ◌∷◌, ◌++◌, ap, sym}
use Rattle.lin_sections.specs.Statements.{statements}
use Rattle.lin_sections.proofs.StatementSteps.{noted-more, noted-all, statement-less}
use Rattle.lin_sections.proofs.attribute_blocks.attributes.Goals as goal

pub loop-found-preserved : goal.loop-found-preserved
loop-found-preserved c =
    noted-more c.loop-found.parser c.pass_statement.new.parser c.loop-found.found.items c.push.new.self.items (statements c.args.parser.now) (sym c.has_line.ensures ∙ c.loop-found-test.true) c.in_ok-pass_statement.ensures (c.in_ok-push.ensures.items ∙ ap (λ x. c.loop-found.found.items ++ x ∷ []) c.attribute_here.ensures) c.loop-found.invariant

pub loop-found-smaller : goal.loop-found-smaller
loop-found-smaller c =
    statement-less c.loop-found.parser c.pass_statement.new.parser (sym c.has_line.ensures ∙ c.loop-found-test.true) c.in_ok-pass_statement.ensures

pub returns : goal.returns
returns c =
    noted-all c.loop-found.parser c.loop-found.found.items (statements c.args.parser.now) (sym c.has_line.ensures ∙ c.loop-found-test.false) c.loop-found.invariant
