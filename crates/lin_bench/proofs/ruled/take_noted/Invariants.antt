use Rattle.std.proofs.Common.{◌≡◌, ◌++◌, map}
use Rattle.lin_bench.specs.Added.{send_of}
use Rattle.lin_bench.specs.Rules.{kept_at, sent_at}
use Rattle.lin_bench.proofs.ruled.take_noted.Given as goal

abbrev pub invariant-loop-one : goal.invariant-loop-one
invariant-loop-one l = record {
  steps : l.steps.items ≡ l.fn.steps.items ++ map send_of (sent_at l.fn.time l.yielded);
  noted : l.noted ≡ kept_at l.fn.time l.yielded;
  whole : l.yielded ++ l.one-iterator.rest.items ≡ l.fn.noted;
}
