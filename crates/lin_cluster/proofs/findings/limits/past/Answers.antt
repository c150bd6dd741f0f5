use Rattle.std.proofs.Common.{ap, Some, ◌∙◌, ◌++◌, ◌∷◌, []}
use Rattle.lin_cluster.specs.FindingsNames.{at_name}
use Rattle.lin_cluster.specs.Limits.{past}
use Rattle.lin_cluster.specs.declared.finding.FindingKind.TheVariants.{LimitPassed}
use Rattle.lin_cluster.proofs.FindingsLists.{past_none}
use Rattle.lin_cluster.proofs.NamesFound.{lent-at}
use Rattle.lin_cluster.proofs.findings.limits.past.Goals as goal

pub returns-in_ok-push-in-Some : goal.returns-in_ok-push-in-Some
returns-in_ok-push-in-Some g c =
    let found = c.args.found.now.items in
    c.in_ok-push-in-Some.ensures.items
    ∙ ap (λ f. found ++ f ∷ []) (c.at_name.ensures ∙ ap (at_name LimitPassed) c.name.ensures)
    ∙ ap (λ o. found ++ past g.T.Named.name_of o) (lent-at c.args.all.now c.args.limit (Some c.in-Some.one) c.in-Some.ensures.lookup)

pub returns-in-None : goal.returns-in-None
returns-in-None g c = past_none g.T.Named.name_of c.args.all.now c.args.limit c.args.found.now.items c.in-None.ensures.lookup.3
