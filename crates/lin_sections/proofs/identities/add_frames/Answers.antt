use Rattle.std.proofs.Common.{◌∙◌, ◌++◌, flat_map, map, refl, sym}
use Rattle.lin_sections.specs.Identities.{configurable_frame, frame_line_warnings}
use Rattle.lin_sections.specs.Lines.{token_lines}
use Rattle.lin_sections.proofs.LineSteps.{each-all, each-more, line-less, lines-all, lines-more}
use Rattle.lin_sections.proofs.identities.add_frames.Goals as goal

pub loop-parser-init : goal.loop-parser-init
loop-parser-init c = record { frames = refl; warned = refl }

pub loop-parser-preserved : goal.loop-parser-preserved
loop-parser-preserved c =
    let h = sym c.has_line.ensures ∙ c.loop-parser-test.true in
    record {
      frames = each-more configurable_frame c.loop-parser.parser c.pass_line.new.parser c.loop-parser.frames.items c.add_frame.new.frames.items (c.args.frames.now.items ++ map configurable_frame (token_lines c.args.parser.now)) h c.pass_line.ensures c.in_ok-add_frame.ensures.frames c.loop-parser.invariant.frames;
      warned = lines-more frame_line_warnings c.loop-parser.parser c.pass_line.new.parser c.loop-parser.warned.items c.add_frame.new.warned.items (c.args.warned.now.items ++ flat_map frame_line_warnings (token_lines c.args.parser.now)) h c.pass_line.ensures c.in_ok-add_frame.ensures.warned c.loop-parser.invariant.warned;
    }

pub loop-parser-smaller : goal.loop-parser-smaller
loop-parser-smaller c = line-less c.loop-parser.parser c.pass_line.new.parser (sym c.has_line.ensures ∙ c.loop-parser-test.true) c.pass_line.ensures

pub returns : goal.returns
returns c =
    let h = sym c.has_line.ensures ∙ c.loop-parser-test.false in
    record {
      frames = each-all configurable_frame c.loop-parser.parser c.loop-parser.frames.items (c.args.frames.now.items ++ map configurable_frame (token_lines c.args.parser.now)) h c.loop-parser.invariant.frames;
      warned = lines-all frame_line_warnings c.loop-parser.parser c.loop-parser.warned.items (c.args.warned.now.items ++ flat_map frame_line_warnings (token_lines c.args.parser.now)) h c.loop-parser.invariant.warned;
    }
