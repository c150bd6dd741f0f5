use Rattle.std.proofs.Common.{◌∙◌, sym}
use Rattle.lin_ldf.specs.Forms.{tail}
use Rattle.lin_sections.specs.Configured.{with_node_block}
use Rattle.lin_sections.proofs.ReadingSteps.{lines_from, line-more, line-shrinks, lines-done}
use Rattle.lin_sections.proofs.ConfiguredSteps.{block-takes}
use Rattle.lin_sections.proofs.configurable_lists.add_blocks.Goals as goal

pub loop-parser-preserved : goal.loop-parser-preserved
loop-parser-preserved c =
    line-more with_node_block block-takes (c.loop-parser.parser, c.loop-parser.all.items) (c.add_block.new.parser, c.add_block.new.all.items) (lines_from with_node_block (tail c.args.parser.now, c.args.all.now.items)) (sym c.has_line.ensures ∙ c.loop-parser-test.true) c.in_ok-add_block.ensures c.loop-parser.invariant

pub loop-parser-smaller : goal.loop-parser-smaller
loop-parser-smaller c =
    line-shrinks with_node_block block-takes (c.loop-parser.parser, c.loop-parser.all.items) (c.add_block.new.parser, c.add_block.new.all.items) (sym c.has_line.ensures ∙ c.loop-parser-test.true) c.in_ok-add_block.ensures

pub returns : goal.returns
returns c =
    let done = lines-done with_node_block block-takes (c.loop-parser.parser, c.loop-parser.all.items) (lines_from with_node_block (tail c.args.parser.now, c.args.all.now.items)) (sym c.has_line.ensures ∙ c.loop-parser-test.false) c.loop-parser.invariant in
    rw (c.pass_closing.ensures, done)
