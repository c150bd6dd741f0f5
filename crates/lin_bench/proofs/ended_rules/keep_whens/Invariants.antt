use Rattle.std.proofs.Common.{◌≡◌, ◌++◌, not}
use Rattle.std.specs.Prelude.{filter}
use Rattle.lin_bench.specs.Rules.{is_ended_when}
use Rattle.lin_bench.proofs.ended_rules.keep_whens.Given as goal

abbrev pub invariant-loop-when : goal.invariant-loop-when
invariant-loop-when l = record {
  kept : l.whens ≡ filter (λ x. not (is_ended_when l.end x)) l.yielded;
  whole : l.yielded ++ l.when-iterator.rest.items ≡ l.fn.whens;
}
