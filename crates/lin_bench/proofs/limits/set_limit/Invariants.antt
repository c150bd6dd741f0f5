use Rattle.std.proofs.Common.{◌≡◌, ◌++◌, not}
use Rattle.std.specs.Prelude.{filter}
use Rattle.lin_bench.specs.Rules.{is_limit_of}
use Rattle.lin_bench.proofs.limits.set_limit.Given as goal

abbrev pub invariant-loop-limit : goal.invariant-loop-limit
invariant-loop-limit l = record {
  kept : l.limits ≡ filter (λ x. not (is_limit_of l.node x)) l.yielded;
  whole : l.yielded ++ l.limit-iterator.rest.items ≡ l.fn.limits;
}
