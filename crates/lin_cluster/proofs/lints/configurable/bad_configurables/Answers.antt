use Rattle.std.proofs.Common.{◌≡◌, ◌++◌, subst}
use Rattle.std.specs.Prelude.{OnOk}
use Rattle.lin_cluster.specs.LintNames.{has_text}
use Rattle.lin_cluster.proofs.LintNodes.{configurables_found}
use Rattle.lin_cluster.proofs.lints.configurable.bad_configurables.Goals as goal

pub returns : goal.returns
returns c =
    subst (λ fs. OnOk c.each.result (c.each.new.found.items ≡ c.args.found.now.items ++ fs))
    (configurables_found c.args.description.now c.args.configurable.now (has_text c.in_ok-frames.frames.names) (has_text c.in_ok-lists.lists.names) c.as_slice-names.result.now c.if-not-is_node.ensures c.as_slice-names.ensures c.in_ok-frames.ensures c.in_ok-lists.ensures)
    c.each.ensures
