use Rattle.std.proofs.Common.{◌≡◌, ◌++◌, not}
use Rattle.std.specs.Prelude.{filter}
use Rattle.lin_bench.specs.Rules.{is_noted_of}
use Rattle.lin_bench.proofs.powers.drop_noted.Given as goal

abbrev pub invariant-loop-one : goal.invariant-loop-one
invariant-loop-one l = record {
  kept : l.noted ≡ filter (λ m. not (is_noted_of l.node m)) l.yielded;
  whole : l.yielded ++ l.one-iterator.rest.items ≡ l.fn.noted;
}
