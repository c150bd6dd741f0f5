use Rattle.std.proofs.Common.{◌≡◌, ◌++◌, map}
use Rattle.lin_core.specs.Core.{past_of}
use Rattle.lin_bench.specs.Ons.{looked_now, reactions_of}
use Rattle.lin_bench.proofs.ons.look.Given as goal

abbrev pub invariant-loop-watched : goal.invariant-loop-watched
invariant-loop-watched l = record {
  steps : l.steps.items ≡ l.fn.steps.items ++ reactions_of l.core.cluster (past_of l.core) l.offs l.yielded;
  ons : l.ons ≡ map (looked_now l.core.cluster (past_of l.core)) l.yielded;
  whole : l.yielded ++ l.watched-iterator.rest.items ≡ l.fn.ons;
}
