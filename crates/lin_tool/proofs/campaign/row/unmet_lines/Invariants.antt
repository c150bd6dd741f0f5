use Rattle.std.proofs.Common.{◌≡◌, ◌++◌, drop}
use Rattle.lin_tool.specs.campaign.Row.{unmet_after, unmet_lines}
use Rattle.lin_tool.proofs.campaign.row.unmet_lines.Given as goal

abbrev pub invariant-loop-one : goal.invariant-loop-one
invariant-loop-one l = l.lines.items ++ unmet_after l.lines.items (drop l.one-index l.judgements) ≡ unmet_lines l.judgements
