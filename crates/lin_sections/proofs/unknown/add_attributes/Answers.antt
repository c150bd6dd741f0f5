use Rattle.std.proofs.Common.{◌∙◌, ◌++◌, flat_map, sym}
use Rattle.lin_ldf.specs.Known.{known_attributes}
use Rattle.lin_sections.specs.Statements.{statements}
use Rattle.lin_sections.specs.Unknown.{unknown_among}
use Rattle.lin_sections.proofs.StatementSteps.{found-more, found-all, statement-less}
use Rattle.lin_sections.proofs.unknown.add_attributes.Goals as goal

pub loop-parser-preserved : goal.loop-parser-preserved
loop-parser-preserved c =
    found-more (unknown_among known_attributes) c.loop-parser.parser c.pass_statement.new.parser c.loop-parser.found.items c.add_unknown.new.found.items (c.args.found.now.items ++ flat_map (unknown_among known_attributes) (statements c.args.parser.now)) (sym c.has_line.ensures ∙ c.loop-parser-test.true) c.in_ok-pass_statement.ensures (rw (c.is_attribute.ensures, c.text.ensures) at c.in_ok-add_unknown.ensures) c.loop-parser.invariant

pub loop-parser-smaller : goal.loop-parser-smaller
loop-parser-smaller c =
    statement-less c.loop-parser.parser c.pass_statement.new.parser (sym c.has_line.ensures ∙ c.loop-parser-test.true) c.in_ok-pass_statement.ensures

pub returns : goal.returns
returns c =
    found-all (unknown_among known_attributes) c.loop-parser.parser c.loop-parser.found.items (c.args.found.now.items ++ flat_map (unknown_among known_attributes) (statements c.args.parser.now)) (sym c.has_line.ensures ∙ c.loop-parser-test.false) c.loop-parser.invariant
