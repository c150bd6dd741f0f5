use Rattle.std.proofs.Common.{◌≡◌, ◌++◌, [], List, drop, take}
use Rattle.lin_tool.specs.campaign.Row.{refused_after}
use Rattle.lin_tool.specs.declared.campaign.row.RefusedStep.{RefusedStep}
use Rattle.lin_tool.proofs.campaign.row.add_refused.Given as goal

abbrev pub invariant-loop-index : goal.invariant-loop-index
invariant-loop-index l =
    (added : List RefusedStep) × (l.refused.items ≡ l.initial.refused.items ++ added)
    × (added ++ refused_after added l.line (drop l.index (take l.to l.log.entries)) ≡ refused_after [] l.line (drop l.from (take l.to l.log.entries)))
