use Rattle.std.proofs.Common.{◌≡◌, ◌∙◌, ◌+◌, ◌++◌, ◌∷◌, [], suc, ap, arith}
use Rattle.lin_tool.specs.Junit.{test_case, test_cases}
use Rattle.lin_tool.proofs.TestCases.{no-cases}
use Rattle.lin_tool.proofs.junit.no_checks.Goals as goal

pub loop-preserved : goal.loop-preserved
loop-preserved c = λ file fs x log.
    let next : suc c.loop.counter ≡ c.loop.counter + 1 = omega arith in
    c.in_ok-push.ensures.items ∙ ap (λ v. c.loop.cases.items ++ v ∷ []) (c.new.ensures file fs x log)
    ∙ ap (λ l. l ++ test_case file fs x log [] ∷ []) (c.loop.invariant file fs x log) ∙ no-cases file fs x log 1 c.loop.counter
    ∙ ap (λ n. test_cases file fs x log 1 n []) next
