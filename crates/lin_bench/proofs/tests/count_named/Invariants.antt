use Rattle.std.proofs.Common.{◌≡◌, ◌≤◌, count_by, length}
use Rattle.std.specs.Str.{bytes_eq}
use Rattle.lin_bench.specs.Tests.{AreNumbered}
use Rattle.lin_bench.specs.declared.tests.TestName.{TestName}
use Rattle.lin_bench.proofs.tests.count_named.Given as goal

-- no test behind those that are left has the name
abbrev pub invariant-loop-left : goal.invariant-loop-left
invariant-loop-left l = record {
  same : count_by (λ (t : TestName). bytes_eq t.name l.name) l.left ≡ count_by (λ (t : TestName). bytes_eq t.name l.name) l.tests;
  numbered : AreNumbered l.left;
  short : length l.left ≤ length l.tests;
}

abbrev pub decreases-loop-left : goal.decreases-loop-left
decreases-loop-left l = length l.left
