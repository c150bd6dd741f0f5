use Rattle.std.proofs.Common.{◌∙◌, sym, [], refl}
use Rattle.lin_ldf.specs.Forms.{tail}
use Rattle.lin_sections.specs.Configured.{with_attribute}
use Rattle.lin_sections.proofs.ReadingSteps.{lines_from, line-more, line-shrinks, lines-done}
use Rattle.lin_sections.proofs.ConfiguredSteps.{attribute-takes}
use Rattle.lin_sections.proofs.configurable_lists.listed_names.Goals as goal

pub loop-parser-preserved : goal.loop-parser-preserved
loop-parser-preserved c =
    line-more with_attribute attribute-takes (c.loop-parser.parser, c.loop-parser.names.items) (c.add_attribute.new.parser, c.add_attribute.new.names.items) (lines_from with_attribute (tail c.args.parser.now, [])) (sym c.has_line.ensures ∙ c.loop-parser-test.true) c.in_ok-add_attribute.ensures c.loop-parser.invariant

pub loop-parser-smaller : goal.loop-parser-smaller
loop-parser-smaller c =
    line-shrinks with_attribute attribute-takes (c.loop-parser.parser, c.loop-parser.names.items) (c.add_attribute.new.parser, c.add_attribute.new.names.items) (sym c.has_line.ensures ∙ c.loop-parser-test.true) c.in_ok-add_attribute.ensures

pub returns : goal.returns
returns c =
    let done = lines-done with_attribute attribute-takes (c.loop-parser.parser, c.loop-parser.names.items) (lines_from with_attribute (tail c.args.parser.now, [])) (sym c.has_line.ensures ∙ c.loop-parser-test.false) c.loop-parser.invariant in
    rw (c.pass_closing.ensures, done) refl
