use Rattle.lin_threads.specs.Runs.{Advances, bus_steps}
use Rattle.lin_threads.proofs.run_slots.all_slots.Given as goal

abbrev pub invariant-loop-number : goal.invariant-loop-number
invariant-loop-number l = Advances l.initial.pump l.pump (bus_steps l.hurt l.number)
