use Rattle.std.proofs.Common.{◌≡◌, ◌∙◌, ◌+◌, ◌++◌, ◌<◌, ◌≤◌, [], ◌∷◌, ℕ, List, ap, ap₂, arith, drop, length, refl}
use Rattle.lin_bench.specs.declared.tests.TestName.{TestName}
use Rattle.lin_export.proofs.Puttings.{puts-all}
use Rattle.lin_export.proofs.Slots.{drop-end, drop-next}
use Rattle.lin_tool.specs.Junit.{test_case_text, test_case_texts}
use Rattle.lin_tool.specs.declared.junit.TestCase.{TestCase}
use Rattle.lin_tool.proofs.Remaining.{broke-off, none-put, put-all, put-whole, same-rest}
use Rattle.lin_tool.proofs.junit.put_tests.Goals as goal

pub loop-i-init : goal.loop-i-init
loop-i-init g c = none-put c.args.out.now _

-- one test more
next-test : (file : List ℕ) (ts : List TestName) (ks : List TestCase) (i : ℕ) (t : TestName) (k : TestCase) → drop i ts ≡ t ∷ drop (i + 1) ts → drop i ks ≡ k ∷ drop (i + 1) ks
    → test_case_texts file (drop i ts) (drop i ks) ≡ test_case_text file t k ++ test_case_texts file (drop (i + 1) ts) (drop (i + 1) ks)
next-test file ts ks i t k e f = ap₂ (test_case_texts file) e f

no-test : (file : List ℕ) (ts : List TestName) (ks : List TestCase) (i : ℕ) → length ts ≤ i → test_case_texts file (drop i ts) (drop i ks) ≡ []
no-test file ts ks i h = ap (λ l. test_case_texts file l (drop i ks)) (drop-end ts i h)

pub returns-in_err-put_test : goal.returns-in_err-put_test
returns-in_err-put_test g c =
    let ts = c.args.tests.now in
    let ks = c.args.cases.now in
    let i = c.loop-i.i in
    let t = c.index-tests-i.result in
    let k = c.index-cases-i.result in
    let there : i < length ts = omega arith in
    let more : i < length ks = omega arith in
    let next = next-test c.args.file.now ts ks i t k (drop-next ts i t c.index-tests-i.is there) (drop-next ks i k c.index-cases-i.is more) in
    broke-off (test_case_texts c.args.file.now (drop (i + 1) ts) (drop (i + 1) ks)) c.from_residual.ensures.0 (same-rest next c.loop-i.invariant) c.put_test.ensures

pub loop-i-preserved : goal.loop-i-preserved
loop-i-preserved g c =
    let ts = c.args.tests.now in
    let ks = c.args.cases.now in
    let i = c.loop-i.i in
    let t = c.index-tests-i.result in
    let k = c.index-cases-i.result in
    let there : i < length ts = omega arith in
    let more : i < length ks = omega arith in
    let next = next-test c.args.file.now ts ks i t k (drop-next ts i t c.index-tests-i.is there) (drop-next ks i k c.index-cases-i.is more) in
    put-all (test_case_texts c.args.file.now (drop (i + 1) ts) (drop (i + 1) ks)) (same-rest next c.loop-i.invariant) (rw c.in_ok-put_test.was at c.put_test.ensures)

pub returns : goal.returns
returns g c = puts-all refl (put-whole (same-rest (no-test c.args.file.now c.args.tests.now c.args.cases.now c.loop-i.i (omega arith)) c.loop-i.invariant))
