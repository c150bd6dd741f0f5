use Rattle.std.proofs.Common.{◌≡◌, ◌∙◌, ◌+◌, ap, arith, length, sym}
use Rattle.lin_tool.specs.declared.junit.TestCase.{TestCase}
use Rattle.lin_tool.proofs.TestCases.{case-met, case-unmet, case_of, on-ok}
use Rattle.lin_tool.proofs.junit.TestCase.add.Goals as goal

pub returns-then-not-is_unmet : goal.returns-then-not-is_unmet
returns-then-not-is_unmet c = λ log told js few is.
    let count = ap (λ (t : TestCase). t.checks) is in
    case-met c.args.names.script.now c.args.names.files.now c.args.cluster.now log js c.args.judgement.now c.args.self.now c.saturating_add-self.result
    (sym c.is_unmet.ensures ∙ c.if-not-is_unmet.true) is (omega (arith, count, few))

pub returns : goal.returns
returns c = λ log told js few is.
    let count = ap (λ (t : TestCase). t.checks) is in
    let text = c.in_ok-copied.ensures.copy ∙ c.as_slice.ensures.value ∙ c.in_ok-missed.ensures log told in
    on-ok c.push.result c.push.ensures
    (λ e. ap (case_of c.saturating_add-self.result) e
    ∙ case-unmet c.args.names.script.now c.args.names.files.now c.args.cluster.now log js c.args.judgement.now c.args.self.now c.saturating_add-self.result _
    (sym c.is_unmet.ensures ∙ c.if-not-is_unmet.false) text is (omega (arith, count, few)))
