use Rattle.std.proofs.Common.{[]}
use Rattle.lin_threads.specs.Runs.{Advances}
use Rattle.lin_threads.proofs.ending.make_last_rounds.Given as goal

abbrev pub invariant-loop : goal.invariant-loop
invariant-loop g l = Advances l.initial.pump l.pump []
