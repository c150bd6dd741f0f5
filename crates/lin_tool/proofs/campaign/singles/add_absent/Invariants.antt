use Rattle.std.proofs.Common.{◌≡◌, ◌++◌, false, get_or, map}
use Rattle.std.specs.Prelude.{filter}
use Rattle.lin_frame.specs.Words.{numbers}
use Rattle.lin_tool.proofs.CampaignSingles.{absence}
use Rattle.lin_tool.proofs.campaign.singles.add_absent.Given as goal

abbrev pub invariant-loop-node : goal.invariant-loop-node
invariant-loop-node l = l.singles.items ≡ l.initial.singles.items ++ map (absence l.first l.goes_on) (filter (λ n. get_or l.answered n false) (numbers l.node))
