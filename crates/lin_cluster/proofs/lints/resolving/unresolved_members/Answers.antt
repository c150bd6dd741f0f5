use Rattle.std.proofs.Common.{◌++◌, sym, ap, ◌∙◌, append-nil}
use Rattle.lin_cluster.proofs.LintMembers.{none_found}
use Rattle.lin_cluster.proofs.lints.resolving.unresolved_members.Goals as goal

pub returns-in_default : goal.returns-in_default
returns-in_default c =
    sym (append-nil c.args.found.now.items)
    ∙ ap (λ ws. c.args.found.now.items ++ ws) (none_found c.args.uses.now c.args.event.now c.in_default.ensures)
