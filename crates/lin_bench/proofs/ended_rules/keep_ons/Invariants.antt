use Rattle.std.proofs.Common.{◌≡◌, ◌++◌, not}
use Rattle.std.specs.Prelude.{filter}
use Rattle.lin_bench.specs.Rules.{is_ended_on}
use Rattle.lin_bench.proofs.ended_rules.keep_ons.Given as goal

abbrev pub invariant-loop-watched : goal.invariant-loop-watched
invariant-loop-watched l = record {
  kept : l.ons ≡ filter (λ x. not (is_ended_on l.end x)) l.yielded;
  whole : l.yielded ++ l.watched-iterator.rest.items ≡ l.fn.ons;
}
