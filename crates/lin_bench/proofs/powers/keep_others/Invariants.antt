use Rattle.std.proofs.Common.{◌≡◌, ◌++◌}
use Rattle.lin_bench.specs.Rules.{without_node}
use Rattle.lin_bench.proofs.powers.keep_others.Given as goal

abbrev pub invariant-loop-off : goal.invariant-loop-off
invariant-loop-off l = record {
  kept : l.offs ≡ without_node l.yielded l.node;
  whole : l.yielded ++ l.off-iterator.rest.items ≡ l.fn.offs;
}
