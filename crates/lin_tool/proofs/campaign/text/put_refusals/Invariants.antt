use Rattle.std.proofs.Common.{drop, map}
use Rattle.std.specs.Prelude.{codes}
use Rattle.lin_tool.specs.campaign.Row.{is_same_refusal}
use Rattle.lin_tool.specs.Separated.{with_separators}
use Rattle.lin_tool.specs.campaign.Text.{refusal_text, refusals_text, without}
use Rattle.lin_tool.proofs.Remaining.{PutsUpTo}
use Rattle.lin_tool.proofs.campaign.text.put_refusals.Given as goal

abbrev pub invariant-loop-one : goal.invariant-loop-one
invariant-loop-one g l =
    PutsUpTo g.W.Write.contents l.initial.out l.out (refusals_text l.known l.refused)
    (with_separators l.mark (codes ", ") (map refusal_text (without is_same_refusal l.known (drop l.one-index l.refused))))
