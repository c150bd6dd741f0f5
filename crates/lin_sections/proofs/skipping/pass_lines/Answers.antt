use Rattle.std.proofs.Common.{◌∙◌, sym}
use Rattle.lin_sections.specs.Passed.{behind_lines}
use Rattle.lin_sections.proofs.PassedSteps.{one-line, no-line, shorter}
use Rattle.lin_sections.proofs.skipping.pass_lines.Goals as goal

pub loop-parser-smaller : goal.loop-parser-smaller
loop-parser-smaller c = rw c.pass_line.ensures (shorter c.loop-parser.parser (sym c.has_line.ensures ∙ c.loop-parser-test.true))

pub loop-parser-preserved : goal.loop-parser-preserved
loop-parser-preserved c = one-line c.loop-parser.parser c.pass_line.new.parser (behind_lines c.args.parser.now) (sym c.has_line.ensures ∙ c.loop-parser-test.true) c.pass_line.ensures c.loop-parser.invariant

pub returns : goal.returns
returns c = sym (no-line c.loop-parser.parser (behind_lines c.args.parser.now) (sym c.has_line.ensures ∙ c.loop-parser-test.false) c.loop-parser.invariant)
