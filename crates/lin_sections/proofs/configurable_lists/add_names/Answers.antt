use Rattle.std.proofs.Common.{◌∙◌, sym}
use Rattle.lin_ldf.specs.Forms.{tail}
use Rattle.lin_sections.specs.Configured.{with_listed_name}
use Rattle.lin_sections.proofs.ReadingSteps.{lines_from, line-more, line-shrinks, lines-done}
use Rattle.lin_sections.proofs.ConfiguredSteps.{name-takes}
use Rattle.lin_sections.proofs.configurable_lists.add_names.Goals as goal

pub loop-parser-preserved : goal.loop-parser-preserved
loop-parser-preserved c =
    line-more with_listed_name name-takes (c.loop-parser.parser, c.loop-parser.names.items) (c.add_name.new.parser, c.add_name.new.names.items) (lines_from with_listed_name (tail c.args.parser.now, c.args.names.now.items)) (sym c.has_line.ensures ∙ c.loop-parser-test.true) c.in_ok-add_name.ensures c.loop-parser.invariant

pub loop-parser-smaller : goal.loop-parser-smaller
loop-parser-smaller c =
    line-shrinks with_listed_name name-takes (c.loop-parser.parser, c.loop-parser.names.items) (c.add_name.new.parser, c.add_name.new.names.items) (sym c.has_line.ensures ∙ c.loop-parser-test.true) c.in_ok-add_name.ensures

pub returns : goal.returns
returns c =
    let done = lines-done with_listed_name name-takes (c.loop-parser.parser, c.loop-parser.names.items) (lines_from with_listed_name (tail c.args.parser.now, c.args.names.now.items)) (sym c.has_line.ensures ∙ c.loop-parser-test.false) c.loop-parser.invariant in
    rw (c.pass_closing.ensures, done)
