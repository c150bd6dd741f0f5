use Rattle.std.proofs.Common.{◌≡◌, ◌++◌, not}
use Rattle.std.specs.Prelude.{filter}
use Rattle.lin_bench.specs.Rules.{is_ended_every}
use Rattle.lin_bench.proofs.ended_rules.keep_everies.Given as goal

abbrev pub invariant-loop-repeated : goal.invariant-loop-repeated
invariant-loop-repeated l = record {
  kept : l.everies ≡ filter (λ x. not (is_ended_every l.end x)) l.yielded;
  whole : l.yielded ++ l.repeated-iterator.rest.items ≡ l.fn.everies;
}
