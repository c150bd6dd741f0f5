use Rattle.std.proofs.Common.{◌≡◌, ◌∙◌, ◌==◌, ◌++◌, Bool, true, false, ℕ, List, ap, if◌then◌else◌, length, refl, sym}
use Rattle.std.specs.Prelude.{codes}
use Rattle.std.specs.Fmt.{decimal}
use Rattle.lin_text.proofs.Growing.{grows-more, same-growth}
use Rattle.lin_tool.specs.Junit.{test_end, xml_texts}
use Rattle.lin_tool.specs.declared.junit.TestCase.{TestCase}
use Rattle.lin_tool.proofs.junit.put_test_end.Goals as goal

abbrev failed_end : ℕ → TestCase → List (List ℕ) → List ℕ
failed_end n case missed =
    codes ">\n<failure message=\""
    ++ (decimal n ++ (codes " of " ++ (decimal case.checks ++ (codes " not met\">" ++ (xml_texts missed ++ codes "</failure>\n</testcase>\n")))))

-- its end, by whether a check failed
passed : (case : TestCase) (missed : List (List ℕ)) → missed ≡ case.missed → (length missed == 0) ≡ true → codes "/>\n" ≡ test_end case
passed case missed e h =
    ap (λ (b : Bool). if b then codes "/>\n" else failed_end (length case.missed) case case.missed) (sym (ap (λ m. length m == 0) (sym e) ∙ h))

failed : (case : TestCase) (missed : List (List ℕ)) (n : ℕ) → missed ≡ case.missed → n ≡ length missed → (length missed == 0) ≡ false → failed_end n case missed ≡ test_end case
failed case missed n e is h =
    ap (λ k. failed_end k case missed) is ∙ ap (λ m. failed_end (length m) case m) e
    ∙ ap (λ (b : Bool). if b then codes "/>\n" else failed_end (length case.missed) case case.missed) (sym (ap (λ m. length m == 0) (sym e) ∙ h))

pub returns-then-is_empty : goal.returns-then-is_empty
returns-then-is_empty g c =
    same-growth (passed c.args.case.now c.as_slice-missed.result.now c.as_slice-missed.ensures (sym c.is_empty.ensures ∙ c.if-is_empty.true)) c.put_text.ensures

pub returns : goal.returns
returns g c =
    same-growth (failed c.args.case.now c.as_slice-missed.result.now (length c.as_slice-missed.result.now) c.as_slice-missed.ensures refl (sym c.is_empty.ensures ∙ c.if-is_empty.false))
    (grows-more c.put_text-2.ensures
    (grows-more c.put_number.ensures
    (grows-more c.put_text-3.ensures (grows-more c.put_number-2.ensures (grows-more c.put_text-4.ensures (grows-more c.put_texts.ensures c.put_text-5.ensures))))))
