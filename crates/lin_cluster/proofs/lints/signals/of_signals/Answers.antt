use Rattle.std.proofs.Common.{◌≡◌, ◌++◌, ap, ◌∙◌, subst}
use Rattle.std.specs.Prelude.{OnOk, flat_map}
use Rattle.lin_cluster.specs.Lint.{of_signal}
use Rattle.lin_cluster.specs.LintNames.{has_text}
use Rattle.lin_cluster.proofs.lints.signals.of_signals.Goals as goal

pub returns : goal.returns
returns c =
    let placed = has_text c.in_ok-signals.signals.names in
    subst (λ fs. OnOk c.each.result (c.each.new.found.items ≡ c.args.found.now.items ++ fs))
    (ap (flat_map (of_signal placed)) c.signals.ensures ∙ (λ i. flat_map (of_signal (λ q. c.in_ok-signals.ensures q i)) c.args.description.now.signals))
    c.each.ensures
