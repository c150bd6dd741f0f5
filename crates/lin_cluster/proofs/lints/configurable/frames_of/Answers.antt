use Rattle.lin_cluster.specs.LintNames.{has_text}
use Rattle.lin_cluster.proofs.LintNodes.{frames_added}
use Rattle.lin_cluster.proofs.lints.configurable.frames_of.Goals as goal

pub returns : goal.returns
returns c = λ q.
    frames_added c.args.description.now c.args.node.now (has_text c.in_ok-signals.signals.names) (has_text c.in_ok-names.names.names q) (has_text c.add_each.new.names.names q) c.frames.result.now q
    c.in_ok-signals.ensures (c.in_ok-names.ensures q) (c.in_ok-add_each.ensures q) c.frames.ensures
