use Rattle.std.proofs.Common.{◌∙◌, ◌++◌, flat_map, sym}
use Rattle.lin_sections.specs.Attributes.{block_of}
use Rattle.lin_sections.specs.Statements.{statements}
use Rattle.lin_sections.proofs.StatementSteps.{found-more, found-all, statement-less}
use Rattle.lin_sections.proofs.attribute_blocks.add_blocks.Goals as goal

pub loop-parser-preserved : goal.loop-parser-preserved
loop-parser-preserved c =
    found-more block_of c.loop-parser.parser c.pass_statement.new.parser c.loop-parser.blocks.items c.add_block.new.blocks.items (c.args.blocks.now.items ++ flat_map block_of (statements c.args.parser.now)) (sym c.has_line.ensures ∙ c.loop-parser-test.true) c.in_ok-pass_statement.ensures c.in_ok-add_block.ensures c.loop-parser.invariant

pub loop-parser-smaller : goal.loop-parser-smaller
loop-parser-smaller c =
    statement-less c.loop-parser.parser c.pass_statement.new.parser (sym c.has_line.ensures ∙ c.loop-parser-test.true) c.in_ok-pass_statement.ensures

pub returns : goal.returns
returns c =
    found-all block_of c.loop-parser.parser c.loop-parser.blocks.items (c.args.blocks.now.items ++ flat_map block_of (statements c.args.parser.now)) (sym c.has_line.ensures ∙ c.loop-parser-test.false) c.loop-parser.invariant
