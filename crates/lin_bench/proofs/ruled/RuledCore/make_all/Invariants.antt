use Rattle.std.proofs.Common.{◌≡◌, ◌++◌}
use Rattle.lin_bench.specs.Adding.{AreAdded}
use Rattle.lin_bench.proofs.ruled.RuledCore.make_all.Given as goal

abbrev pub invariant-loop-by : goal.invariant-loop-by
invariant-loop-by l = record {
  added : AreAdded l.fn.self.core l.yielded l.self.core;
  rules : l.self.rules ≡ l.fn.self.rules;
  whole : l.yielded ++ l.by-iterator.rest.items ≡ l.fn.steps.items;
}
