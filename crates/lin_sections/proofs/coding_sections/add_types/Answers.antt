use Rattle.std.proofs.Common.{◌∙◌, sym}
use Rattle.lin_ldf.specs.Forms.{tail}
use Rattle.lin_sections.specs.Reading.{found_of}
use Rattle.lin_sections.proofs.ReadingSteps.{lines_from, line-more, line-shrinks, lines-done, one_type, type-takes}
use Rattle.lin_sections.proofs.coding_sections.add_types.Goals as goal

pub loop-parser-preserved : goal.loop-parser-preserved
loop-parser-preserved c =
    line-more (one_type c.args.most) (type-takes c.args.most) (c.loop-parser.parser, found_of c.loop-parser.found) (c.add_type.new.parser, found_of c.add_type.new.found) (lines_from (one_type c.args.most) (tail c.args.parser.now, found_of c.args.found.now)) (sym c.has_line.ensures ∙ c.loop-parser-test.true) c.in_ok-add_type.ensures c.loop-parser.invariant

pub loop-parser-smaller : goal.loop-parser-smaller
loop-parser-smaller c =
    line-shrinks (one_type c.args.most) (type-takes c.args.most) (c.loop-parser.parser, found_of c.loop-parser.found) (c.add_type.new.parser, found_of c.add_type.new.found) (sym c.has_line.ensures ∙ c.loop-parser-test.true) c.in_ok-add_type.ensures

pub returns : goal.returns
returns c =
    let done = lines-done (one_type c.args.most) (type-takes c.args.most) (c.loop-parser.parser, found_of c.loop-parser.found) (lines_from (one_type c.args.most) (tail c.args.parser.now, found_of c.args.found.now)) (sym c.has_line.ensures ∙ c.loop-parser-test.false) c.loop-parser.invariant in
    rw (c.pass_closing.ensures, done)
