use Rattle.std.proofs.Common.{drop, map}
use Rattle.std.specs.Prelude.{codes}
use Rattle.lin_tool.specs.campaign.Row.{is_same_loss}
use Rattle.lin_tool.specs.Separated.{with_separators}
use Rattle.lin_tool.specs.campaign.Text.{loss_text, losses_text, without}
use Rattle.lin_tool.proofs.Remaining.{PutsUpTo}
use Rattle.lin_tool.proofs.campaign.text.put_losses.Given as goal

abbrev pub invariant-loop-one : goal.invariant-loop-one
invariant-loop-one g l =
    PutsUpTo g.W.Write.contents l.initial.out l.out (losses_text l.cluster l.known l.lost)
    (with_separators l.mark (codes ", ") (map (loss_text l.cluster) (without is_same_loss l.known (drop l.one-index l.lost))))
