use Rattle.std.proofs.Common.{◌≡◌, ◌∙◌, [], List, ℕ, Option, Some, ap, refl, sym}
use Rattle.std.specs.Option.{option_map_or}
use Rattle.lin_log.specs.Words.{spaced_word}
use Rattle.lin_bench.specs.Texts.{what_text}
use Rattle.lin_text.proofs.Growing.{grows-more, grows-nothing, same-growth}
use Rattle.lin_export.proofs.Puttings.{puts-all, puts-some}
use Rattle.lin_tool.specs.Junit.{case_end, case_text}
use Rattle.lin_tool.specs.Placing.{placed_missed}
use Rattle.lin_tool.proofs.Reports.{found-met, found-unmet}
use Rattle.lin_tool.proofs.junit.put_case.Goals.{then-is_unmet+in_ok-found+in_ok-missed, else-is_unmet}
use Rattle.lin_tool.proofs.junit.put_case.Goals as goal

pub returns-in_err-missed : goal.returns-in_err-missed
returns-in_err-missed g c = λ log told.
    puts-some (case_text c.args.names.script.now c.args.names.files.now c.args.cluster.now log c.args.judgement.now) c.from_residual-in_err-missed.ensures.0 refl (grows-nothing c.args.out.now)

pub returns : goal.returns
returns g c = λ log told.
    let x = c.args.cluster.now in
    let j = c.args.judgement.now in
    let missed = placed_missed c.args.names.script.now c.args.names.files.now x log j in
    elim c.if-is_unmet.branch [
      | then-is_unmet+in_ok-found+in_ok-missed w ↦
          let found = found-unmet x j.judged (sym c.is_unmet.ensures ∙ w.if-is_unmet.true) in
          let is : w.in_ok-found.found.items ≡ spaced_word found.0 =
          w.in_ok-found.ensures ∙ ap (λ (o : Option (List ℕ)). option_map_or spaced_word o []) found.1 in
          let end : case_end w.as_slice-then-is_unmet-2.result.now (Some found.0) ≡ case_end missed _ =
          ap (λ (m : List ℕ). case_end m (Some found.0)) (w.as_slice-then-is_unmet-2.ensures.value ∙ w.in_ok-missed.ensures log told) ∙ ap (case_end missed) (sym found.1) in
          rw w.out-is
          (puts-all refl
          (grows-more (w.put_name.ensures (what_text x j.judged) (w.as_slice.ensures.value ∙ c.in_ok-what.ensures))
          (same-growth end (w.put_failure.ensures found.0 (w.as_slice-then-is_unmet.ensures.value ∙ is)))))
      | else-is_unmet w ↦
          let none = found-met x j.judged (sym c.is_unmet.ensures ∙ w.if-is_unmet.false) in
          rw w.out-is
          (puts-all refl
          (grows-more (w.put_name-else-is_unmet.ensures (what_text x j.judged) (w.as_slice-else-is_unmet.ensures.value ∙ c.in_ok-what.ensures))
          (same-growth (ap (case_end missed) (sym none)) w.put_text.ensures)))
    ]
