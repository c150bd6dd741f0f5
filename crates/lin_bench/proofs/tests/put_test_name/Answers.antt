use Rattle.std.proofs.Common.{◌≡◌, ◌++◌, ◌+◌, ◌<◌, ◌==◌, arith, codes, decimal, false, refl}
use Rattle.std.proofs.lemmas.Bool.Decides.{nat_tests}
use Rattle.lin_text.proofs.Growing.{grows-more, same-growth}
use Rattle.lin_bench.specs.Tests.{test_text}
use Rattle.lin_bench.specs.declared.tests.TestName.{TestName}
use Rattle.lin_bench.proofs.tests.put_test_name.Goals as goal

named-again : (t : TestName) → 0 < t.before → t.name ++ (codes " #" ++ decimal (t.before + 1)) ≡ test_text t
named-again t h = let some : (t.before == 0) ≡ false = grind (arith, nat_tests) in rw some refl

pub returns-then-test-gt0 : goal.returns-then-test-gt0
returns-then-test-gt0 g c =
    same-growth (named-again c.args.test.now (omega (arith, c.if-test-gt0.true)))
    (grows-more (rw c.as_slice.ensures at c.put.ensures) (grows-more c.put_text.ensures c.put_number.ensures))
