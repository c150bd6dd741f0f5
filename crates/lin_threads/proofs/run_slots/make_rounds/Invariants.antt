use Rattle.std.proofs.Common.{[]}
use Rattle.lin_threads.specs.Runs.{Advances, MakesAtMost}
use Rattle.lin_threads.proofs.run_slots.make_rounds.Given as goal

abbrev pub invariant-loop : goal.invariant-loop
invariant-loop l = record {
  advances : Advances l.initial.pump l.pump [];
  most : MakesAtMost l.counter l.initial.pump l.pump;
}
