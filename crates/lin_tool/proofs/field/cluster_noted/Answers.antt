use Rattle.std.proofs.Common.{◌++◌, List, Option, IsPermutation, map, subst, true}
use Rattle.lin_ldf.specs.Stream.{start_of}
use Rattle.lin_ldf.specs.Symbols.{symbols_in}
use Rattle.lin_field.specs.Checks.{remark}
use Rattle.lin_tool.specs.Coding.{with_lints}
use Rattle.lin_parts.specs.declared.description.Name.{Name}
use Rattle.lin_tool.proofs.FieldTexts.{described_answer}
use Rattle.lin_values.specs.declared.codings.Codings.{Codings}
use Rattle.lin_tool.proofs.field.cluster_noted.Goals as goal

pub returns-in_ok-checked-in-Ok : goal.returns-in_ok-checked-in-Ok
returns-in_ok-checked-in-Ok c =
    let odd : IsPermutation (with_lints c.args.settled.now.description c.args.settled.now.placed_elsewhere c.args.sections.configurables c.args.sections.codings c.in_ok-words-in-Ok.words)
    c.in_ok-warnings-in-Ok.warnings =
    subst (λ (e : List Name). IsPermutation (with_lints c.args.settled.now.description e c.args.sections.configurables c.args.sections.codings c.in_ok-words-in-Ok.words)
    c.in_ok-warnings-in-Ok.warnings) c.as_slice-in-Ok.ensures
    (subst (λ (k : Option Codings). IsPermutation (with_lints c.args.settled.now.description c.as_slice-in-Ok.result.now c.args.sections.configurables k c.in_ok-words-in-Ok.words)
    c.in_ok-warnings-in-Ok.warnings) c.as_ref.ensures.value c.in_ok-warnings-in-Ok.ensures.all) in
    let words : IsPermutation (c.in-Ok.field-0.warnings ++ map (remark true) c.args.sections.found) c.in_ok-words-in-Ok.words =
    rw c.as_slice.ensures at c.in_ok-words-in-Ok.ensures.all in
    described_answer c.args.extras c.args.settled.now c.in-Ok.field-0 c.args.sections (symbols_in c.args.texts.mended.now (start_of c.args.texts.mended.now).tokens)
    c.in_ok-checked-in-Ok.checked.cluster c.in_ok-words-in-Ok.words c.in_ok-warnings-in-Ok.warnings c.in_ok-checked-in-Ok.checked.warnings
    c.coded_noted.result c.coded_noted.new.notes.warnings c.in-Ok.ensures words odd c.in_ok-checked-in-Ok.ensures.cluster c.in_ok-checked-in-Ok.ensures.warnings
    c.coded_noted.ensures.cluster c.coded_noted.ensures.coded c.coded_noted.ensures.limits c.coded_noted.ensures.warnings c.coded_noted.ensures.memory
