use Rattle.std.proofs.Common.{◌≡◌, take, false}
use Rattle.std.specs.List.{list_any}
use Rattle.lin_cluster.specs.Models.{is_lin_1}
use Rattle.lin_cluster.proofs.findings.facts.has_lin_1.Given as goal

abbrev pub invariant-loop-node : goal.invariant-loop-node
invariant-loop-node l = list_any (is_lin_1 l.known) (take l.node-index l.signal.subscribers) ≡ false
