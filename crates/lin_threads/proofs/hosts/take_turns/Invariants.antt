use Rattle.lin_threads.specs.States.{IsFurther, host_state}
use Rattle.lin_threads.proofs.hosts.take_turns.Given as goal

abbrev pub invariant-loop : goal.invariant-loop
invariant-loop g l = IsFurther (host_state l.initial.port) (host_state l.port)
