use Rattle.std.proofs.Common.{◌∙◌, [], refl, sym}
use Rattle.lin_sections.specs.Reading.{with_item}
use Rattle.lin_sections.proofs.ReadingSteps.{lines_from, line-more, line-shrinks, lines-done, item-takes}
use Rattle.lin_sections.proofs.coding_sections.items.Goals as goal

pub loop-parser-preserved : goal.loop-parser-preserved
loop-parser-preserved c =
    line-more (with_item c.args.most) (item-takes c.args.most) (c.loop-parser.parser, (c.loop-parser.items.items, c.loop-parser.bad.items)) (c.add_item.new.parser, (c.add_item.new.items.items, c.add_item.new.bad.items)) (lines_from (with_item c.args.most) (c.args.parser.now, ([], c.args.bad.now.items))) (sym c.has_line.ensures ∙ c.loop-parser-test.true) c.in_ok-add_item.ensures c.loop-parser.invariant

pub loop-parser-smaller : goal.loop-parser-smaller
loop-parser-smaller c =
    line-shrinks (with_item c.args.most) (item-takes c.args.most) (c.loop-parser.parser, (c.loop-parser.items.items, c.loop-parser.bad.items)) (c.add_item.new.parser, (c.add_item.new.items.items, c.add_item.new.bad.items)) (sym c.has_line.ensures ∙ c.loop-parser-test.true) c.in_ok-add_item.ensures

pub returns : goal.returns
returns c =
    let done = lines-done (with_item c.args.most) (item-takes c.args.most) (c.loop-parser.parser, (c.loop-parser.items.items, c.loop-parser.bad.items)) (lines_from (with_item c.args.most) (c.args.parser.now, ([], c.args.bad.now.items))) (sym c.has_line.ensures ∙ c.loop-parser-test.false) c.loop-parser.invariant in
    rw (c.pass_closing.ensures, done) refl
