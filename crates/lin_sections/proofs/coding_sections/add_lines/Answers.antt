use Rattle.std.proofs.Common.{◌∙◌, sym}
use Rattle.lin_ldf.specs.Forms.{tail}
use Rattle.lin_sections.specs.Reading.{found_of}
use Rattle.lin_sections.proofs.ReadingSteps.{lines_from, line-more, line-shrinks, lines-done, one_line, line-takes}
use Rattle.lin_sections.proofs.coding_sections.add_lines.Goals as goal

pub loop-parser-preserved : goal.loop-parser-preserved
loop-parser-preserved c =
    line-more one_line line-takes (c.loop-parser.parser, found_of c.loop-parser.found) (c.add_line.new.parser, found_of c.add_line.new.found) (lines_from one_line (tail c.args.parser.now, found_of c.args.found.now)) (sym c.has_line.ensures ∙ c.loop-parser-test.true) c.in_ok-add_line.ensures c.loop-parser.invariant

pub loop-parser-smaller : goal.loop-parser-smaller
loop-parser-smaller c =
    line-shrinks one_line line-takes (c.loop-parser.parser, found_of c.loop-parser.found) (c.add_line.new.parser, found_of c.add_line.new.found) (sym c.has_line.ensures ∙ c.loop-parser-test.true) c.in_ok-add_line.ensures

pub returns : goal.returns
returns c =
    let done = lines-done one_line line-takes (c.loop-parser.parser, found_of c.loop-parser.found) (lines_from one_line (tail c.args.parser.now, found_of c.args.found.now)) (sym c.has_line.ensures ∙ c.loop-parser-test.false) c.loop-parser.invariant in
    rw (c.pass_closing.ensures, done)
