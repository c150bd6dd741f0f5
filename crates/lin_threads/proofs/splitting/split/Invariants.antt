use Rattle.std.proofs.Common.{◌≡◌, ◌++◌, length}
use Rattle.lin_threads.specs.Splitting.{IsSplit}
use Rattle.lin_threads.proofs.splitting.split.Given as goal

abbrev pub invariant-loop-port : goal.invariant-loop-port
invariant-loop-port l = record {
  split : IsSplit l.fn.nodes l.yielded l.lists.items;
  index : l.index ≡ length l.yielded;
  whole : l.yielded ++ l.port-iterator.rest.items ≡ l.fn.steps.items;
}
