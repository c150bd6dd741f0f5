use Rattle.std.proofs.Common.{◌≡◌, ◌++◌, not}
use Rattle.std.specs.Prelude.{filter}
use Rattle.lin_bench.specs.Rules.{is_state_of}
use Rattle.lin_bench.proofs.states.keep_others.Given as goal

abbrev pub invariant-loop-state : goal.invariant-loop-state
invariant-loop-state l = record {
  kept : l.states ≡ filter (λ x. not (is_state_of l.node x)) l.yielded;
  whole : l.yielded ++ l.state-iterator.rest.items ≡ l.fn.states;
}
