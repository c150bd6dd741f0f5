use Rattle.std.proofs.Common.{◌≤◌}
use Rattle.lin_threads.specs.Nodes.{FollowsList}
use Rattle.lin_threads.specs.States.{IsFurther, node_state}
use Rattle.lin_threads.proofs.node_threads.answer_all.Given as goal

abbrev pub invariant-loop : goal.invariant-loop
invariant-loop g l = record {
  further : IsFurther (node_state l.initial.port) (node_state l.port);
  listed : FollowsList l.leave l.due l.initial.port (node_state l.port);
  few : l.due ≤ l.counter;
}
