use Rattle.std.proofs.Common.{◌≡◌, ◌≤◌, length, filter}
use Rattle.lin_frame.specs.Words.{numbers}
use Rattle.lin_core.specs.kept.Slots.{is_due_of}
use Rattle.lin_core.proofs.due.due_nodes.Given as goal

abbrev pub invariant-loop-node : goal.invariant-loop-node
invariant-loop-node l = record {
  due : l.nodes.items ≡ filter (is_due_of l.cluster l.pending l.waits l.responder l.due) (numbers l.node);
  few : length l.nodes.items ≤ l.node;
}
