use Rattle.std.proofs.Common.{◌≡◌, ◌++◌, drop, map}
use Rattle.std.specs.Borrow.{Bor}
use Rattle.lin_bench.specs.declared.got.Judgement.{Judgement}
use Rattle.lin_tool.specs.campaign.Checks.{first_checks, firsts_after}
use Rattle.lin_tool.proofs.campaign.checks.first_checks.Given as goal

abbrev pub invariant-loop-one : goal.invariant-loop-one
invariant-loop-one l =
    map (λ (j : Bor Judgement). j.now) l.firsts.items ++ firsts_after l.cluster l.failed l.before.items (drop l.one-index l.judgements)
    ≡ first_checks l.cluster l.failed l.judgements
