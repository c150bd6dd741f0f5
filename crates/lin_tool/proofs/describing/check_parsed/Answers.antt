use Rattle.std.proofs.Common.{◌∙◌, Option, IsPermutation, [], map, subst, true}
use Rattle.lin_field.specs.Checks.{remark}
use Rattle.lin_tool.specs.Coding.{with_lints}
use Rattle.lin_tool.proofs.Texts.{coded_answer}
use Rattle.lin_values.specs.declared.codings.Codings.{Codings}
use Rattle.lin_tool.proofs.describing.check_parsed.Goals as goal

pub returns : goal.returns
returns c = λ source same h.
    let (described, says) = rw c.in_ok-description.was at h in
    let words : IsPermutation (map (remark true) c.in_ok-description.sections.found) c.in_ok-words.words =
    rw (c.new-none.ensures ∙ c.new.ensures.items, c.as_slice.ensures) at c.in_ok-words.ensures.all in
    let odd : IsPermutation (with_lints c.in_ok-description.description [] c.in_ok-description.sections.configurables c.in_ok-description.sections.codings c.in_ok-words.words)
    c.in_ok-warnings.warnings =
    subst (λ (k : Option Codings). IsPermutation (with_lints c.in_ok-description.description [] c.in_ok-description.sections.configurables k c.in_ok-words.words)
    c.in_ok-warnings.warnings) c.as_ref.ensures.value c.in_ok-warnings.ensures.all in
    coded_answer c.args.extras c.coded_noted.result source c.args.text.now c.in_ok-description.description c.in_ok-cluster.cluster c.in_ok-checked.checked.cluster
    c.in_ok-description.sections c.in_ok-words.words c.in_ok-warnings.warnings c.in_ok-checked.checked.warnings c.coded_noted.new.notes.warnings same described
    c.in_ok-cluster.ensures.said says words odd c.in_ok-checked.ensures.cluster c.in_ok-checked.ensures.warnings
    c.coded_noted.ensures.cluster c.coded_noted.ensures.coded c.coded_noted.ensures.limits c.coded_noted.ensures.warnings c.coded_noted.ensures.memory
