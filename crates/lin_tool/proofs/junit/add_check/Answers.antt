use Rattle.std.proofs.Common.{◌≡◌, ◌∙◌, ◌++◌, ◌∷◌, [], ◌+◌, ◌-◌, ◌<◌, ap, arith, get_or, length, set, sym}
use Rattle.lin_tool.specs.Junit.{in_test, test_case}
use Rattle.lin_tool.specs.declared.junit.TestCase.{TestCase}
use Rattle.lin_tool.proofs.TestCases.{case-at, few-in-test, length-cases, none-added, on-ok, one-added}
use Rattle.lin_tool.proofs.junit.add_check.Goals as goal

pub returns-then-test-eq0 : goal.returns-then-test-eq0
returns-then-test-eq0 c = λ log told tests js few is.
    is
    ∙ sym (none-added c.args.names.script.now c.args.names.files.now c.args.cluster.now log 1 tests js c.args.judgement.now (λ i lt. let none = c.if-test-eq0.true in omega arith))

pub returns-then-cases-test : goal.returns-then-cases-test
returns-then-cases-test c = λ log told tests js few is.
    let file = c.args.names.script.now in
    let fs = c.args.names.files.now in
    let all : length c.args.cases.now ≡ tests = ap length is ∙ length-cases file fs c.args.cluster.now log 1 tests js in
    is ∙ sym (none-added file fs c.args.cluster.now log 1 tests js c.args.judgement.now (λ i lt. let above = c.if-cases-test.true in omega (arith, all)))

pub returns : goal.returns
returns c = λ log told tests js few is.
    let file = c.args.names.script.now in
    let fs = c.args.names.files.now in
    let x = c.args.cluster.now in
    let j = c.args.judgement.now in
    let t = j.place.test in
    let all : length c.args.cases.now ≡ tests = ap length is ∙ length-cases file fs x log 1 tests js in
    let some = c.if-test-eq0.false in
    let there : t - 1 < tests = omega (arith, all) in
    let here : 1 + (t - 1) ≡ t = omega arith in
    let old : get_or c.args.cases.now (t - 1) c.index-cases-test.result ≡ test_case file fs x log (in_test t js) =
    ap (λ l. get_or l (t - 1) c.index-cases-test.result) is ∙ case-at file fs x log 1 tests js (t - 1) c.index-cases-test.result there
    ∙ ap (λ u. test_case file fs x log (in_test u js)) here in
    on-ok c.add.result (c.add.ensures log told (in_test t js) (few-in-test t js few) old)
    (λ e. ap (λ k. set c.args.cases.now (t - 1) k) e ∙ ap (λ l. set l (t - 1) (test_case file fs x log (in_test t js ++ j ∷ []))) is
    ∙ sym (one-added file fs x log 1 tests js j (t - 1) there (sym here)))
