use Rattle.lin_cluster.specs.LintNames.{has_text}
use Rattle.lin_cluster.proofs.LintMembers.{events_added}
use Rattle.lin_cluster.proofs.lints.resolving.event_members.Goals as goal

pub returns : goal.returns
returns c = λ q.
    events_added c.args.description.now c.args.table.now (has_text c.in_ok-entries.entries.names) (has_text c.in_ok-names.names.names q) (has_text c.add_each.new.names.names q) c.events.result.now q
    c.in_ok-entries.ensures (c.in_ok-names.ensures q) (c.in_ok-add_each.ensures q) c.events.ensures
