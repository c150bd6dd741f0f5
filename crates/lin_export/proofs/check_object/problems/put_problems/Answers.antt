use Rattle.std.proofs.Common.{List, ℕ, codes, map, sym, ap, arith}
use Rattle.std.proofs.lemmas.List.{take_all}
use Rattle.lin_text.proofs.Growing.{grows-more, same-growth}
use Rattle.lin_export.specs.declared.check_object.problems.Problem.{Problem}
use Rattle.lin_export.specs.CheckObject.{problem_object}
use Rattle.lin_export.specs.Found.{problem_data}
use Rattle.lin_export.specs.Json.{with_commas}
use Rattle.lin_export.proofs.Objects.{grows-list, joined-more}
use Rattle.lin_export.proofs.check_object.problems.put_problems.Goals as goal

pub loop-place-preserved : goal.loop-place-preserved
loop-place-preserved g c =
    let says : Problem → List ℕ = λ p. problem_object (problem_data p) in
    same-growth (sym (joined-more says c.args.problems.now c.loop-place.place c.index-problems-place.result (omega arith)))
    (grows-more c.loop-place.invariant (grows-more c.put_separator.ensures (same-growth (ap says c.index-problems-place.is) c.put_problem.ensures)))

pub returns : goal.returns
returns g c =
    let all = take_all c.loop-place.place c.args.problems.now (omega arith) in
    grows-list (codes "told") _ c.put_list.ensures (same-growth (ap (λ l. with_commas (map (λ p. problem_object (problem_data p)) l)) all) c.loop-place.invariant) c.put_byte.ensures
