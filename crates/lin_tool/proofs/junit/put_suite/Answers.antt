use Rattle.std.proofs.Common.{◌≡◌, ◌+◌, ◌++◌, ◌∙◌, ℕ, List, ap, length, refl}
use Rattle.std.specs.List.{count_by}
use Rattle.lin_parts.specs.declared.parts.Parts.{Parts}
use Rattle.lin_core.specs.declared.log.LogEntry.{LogEntry}
use Rattle.lin_bench.specs.declared.files.ScriptFile.{ScriptFile}
use Rattle.lin_bench.specs.declared.got.Judgement.{Judgement}
use Rattle.lin_bench.specs.declared.tests.TestName.{TestName}
use Rattle.lin_text.proofs.Growing.{grows-more, grows-nothing, same-growth}
use Rattle.lin_export.proofs.Puttings.{puts-all, puts-some}
use Rattle.lin_tool.specs.Junit.{has_failed, is_failed_untested, is_untested, shown_suite, suite_head, test_case_texts, test_cases}
use Rattle.lin_tool.specs.declared.junit.TestCase.{TestCase}
use Rattle.lin_tool.specs.declared.junit.TheConstants.{SUITE_TAIL}
use Rattle.lin_tool.proofs.CampaignTexts.{broke-before, grows-whole, puts-behind, same-puts}
use Rattle.lin_tool.proofs.TestCases.{length-cases}
use Rattle.lin_tool.proofs.junit.put_suite.Goals as goal

-- the start of a suite, by its cases
same-head : (file : List ℕ) (fs : List ScriptFile) (c : Parts) (log : List LogEntry) (ts : List TestName) (js : List Judgement) (ks : List TestCase) → ks ≡ test_cases file fs c log 1 (length ts) js
    → suite_head file (count_by is_untested js + length ks) (count_by is_failed_untested js + count_by has_failed ks) 0
    ≡ suite_head file (count_by is_untested js + length ts) (count_by is_failed_untested js + count_by has_failed (test_cases file fs c log 1 (length ts) js)) 0
same-head file fs c log ts js ks e =
    ap (λ (l : List TestCase). suite_head file (count_by is_untested js + length l) (count_by is_failed_untested js + count_by has_failed l) 0) e
    ∙ ap (λ n. suite_head file (count_by is_untested js + n) (count_by is_failed_untested js + count_by has_failed (test_cases file fs c log 1 (length ts) js)) 0)
    (length-cases file fs c log 1 (length ts) js)

pub returns-in_err-cases : goal.returns-in_err-cases
returns-in_err-cases g c = puts-some (shown_suite c.args.shown.now c.args.script.now c.args.core.now) c.from_residual.ensures.0 refl (grows-nothing c.args.out.now)

pub returns-in_err-put_untested_cases : goal.returns-in_err-put_untested_cases
returns-in_err-put_untested_cases g c =
    let x = c.cluster-cluster.result.now in
    let log = c.log-log.result.now.entries in
    let s = c.args.shown.now in
    let file = c.args.script.now in
    let head = same-growth (same-head file s.files.now x log s.tests.now s.judgements.now c.as_slice.result.now (c.as_slice.ensures.value ∙ c.in_ok-cases.ensures)) c.put_play_head.ensures in
    let tail = test_case_texts file s.tests.now (test_cases file s.files.now x log 1 (length s.tests.now) s.judgements.now) ++ SUITE_TAIL.now in
    rw (c.cluster-cluster.ensures, c.log-log.ensures.entries) at (puts-behind head (broke-before tail c.from_residual-in_err-put_untested_cases.ensures.0 c.put_untested_cases.ensures))

pub put_tests-requires : goal.put_tests-requires
put_tests-requires g c =
    let s = c.args.shown.now in
    ap length (c.as_slice-2.ensures.value ∙ c.in_ok-cases.ensures)
    ∙ length-cases c.args.script.now s.files.now c.cluster-cluster.result.now c.log-log.result.now.entries 1 (length s.tests.now) s.judgements.now

pub returns-in_err-put_tests : goal.returns-in_err-put_tests
returns-in_err-put_tests g c =
    let x = c.cluster-cluster.result.now in
    let log = c.log-log.result.now.entries in
    let s = c.args.shown.now in
    let file = c.args.script.now in
    let head = same-growth (same-head file s.files.now x log s.tests.now s.judgements.now c.as_slice.result.now (c.as_slice.ensures.value ∙ c.in_ok-cases.ensures)) c.put_play_head.ensures in
    let tests = same-puts (ap (test_case_texts file s.tests.now) (c.as_slice-2.ensures.value ∙ c.in_ok-cases.ensures)) c.put_tests.ensures in
    rw (c.cluster-cluster.ensures, c.log-log.ensures.entries) at
    (puts-behind head (puts-behind (grows-whole c.in_ok-put_untested_cases.was c.put_untested_cases.ensures) (broke-before SUITE_TAIL.now c.from_residual-in_err-put_tests.ensures.0 tests)))

pub returns : goal.returns
returns g c =
    let x = c.cluster-cluster.result.now in
    let log = c.log-log.result.now.entries in
    let s = c.args.shown.now in
    let file = c.args.script.now in
    let head = same-growth (same-head file s.files.now x log s.tests.now s.judgements.now c.as_slice.result.now (c.as_slice.ensures.value ∙ c.in_ok-cases.ensures)) c.put_play_head.ensures in
    let tests = grows-whole c.in_ok-put_tests.was (same-puts (ap (test_case_texts file s.tests.now) (c.as_slice-2.ensures.value ∙ c.in_ok-cases.ensures)) c.put_tests.ensures) in
    puts-all refl
    (rw (c.cluster-cluster.ensures, c.log-log.ensures.entries) at
    (grows-more head (grows-more (grows-whole c.in_ok-put_untested_cases.was c.put_untested_cases.ensures) (grows-more tests c.put_text.ensures))))
