use Rattle.std.proofs.Common.{◌≡◌, ◌++◌, ap, ◌∙◌, subst}
use Rattle.std.specs.Prelude.{OnOk}
use Rattle.lin_cluster.specs.LintNames.{has_event_of, has_sporadic_of, has_text, is_resolving}
use Rattle.lin_cluster.proofs.LintMembers.{entries_found}
use Rattle.lin_cluster.proofs.lints.resolving.of_entries.Goals as goal

pub returns : goal.returns
returns c =
    let table = c.args.table.now in
    let whole = c.whole-description.ensures in
    subst (λ fs. OnOk c.each.result (c.each.new.found.items ≡ c.args.found.now.items ++ fs))
    (entries_found c.args.uses.now table (has_text c.in_ok-events.events.names) (has_text c.in_ok-sporadic.sporadic.names) c.is_resolving-is_resolving.result c.as_slice.result.now (λ q. c.in_ok-events.ensures q ∙ ap (λ d. has_event_of d table q) whole) (λ q. c.in_ok-sporadic.ensures q ∙ ap (λ d. has_sporadic_of d table q) whole) (c.is_resolving-is_resolving.ensures ∙ ap (λ d. is_resolving d table) whole) c.as_slice.ensures)
    c.each.ensures
