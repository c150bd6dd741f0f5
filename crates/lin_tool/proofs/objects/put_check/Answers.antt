use Rattle.std.proofs.Common.{◌≡◌, ◌∙◌, Bool, true, false, List, [], ℕ, Option, Some, None, refl, sym, ap, drop}
use Rattle.std.specs.Prelude.{if◌then◌else◌}
use Rattle.std.specs.Option.{option_map_or}
use Rattle.lin_parts.specs.declared.parts.Parts.{Parts}
use Rattle.lin_core.specs.declared.log.LogEntry.{LogEntry}
use Rattle.lin_log.specs.Words.{spaced_word}
use Rattle.lin_text.proofs.Growing.{grows-nothing}
use Rattle.lin_export.specs.Jsonl.{unmet_line}
use Rattle.lin_export.proofs.Puttings.{puts-all, puts-some}
use Rattle.lin_bench.specs.Played.{is_unmet}
use Rattle.lin_bench.specs.Texts.{found_text, what_text}
use Rattle.lin_bench.specs.declared.got.Judgement.{Judgement}
use Rattle.lin_bench.specs.declared.tests.TestName.{TestName}
use Rattle.lin_tool.specs.Objects.{failed_check_object, test_named}
use Rattle.lin_tool.proofs.objects.put_check.Goals as goal

abbrev text_or_none : Option (List ℕ) → List ℕ
text_or_none o = option_map_or (λ text. text) o []

behind-space : (o : Option (List ℕ)) → drop 1 (option_map_or spaced_word o []) ≡ text_or_none o
behind-space None = refl
behind-space (Some text) = refl

-- the object of a check that failed
abbrev failed_line : Parts → List ℕ → List TestName → List LogEntry → Judgement → List ℕ
failed_line c script ts past j =
    unmet_line c past script j.place.line (test_named ts j.place.test) (what_text c j.judged) (text_or_none (found_text c j.judged))

unmet-object : (c : Parts) (script : List ℕ) (ts : List TestName) (past : List LogEntry) (j : Judgement) (test : Option (List ℕ)) (what got : List ℕ) → is_unmet j.judged ≡ true
    → test ≡ test_named ts j.place.test → what ≡ what_text c j.judged → got ≡ text_or_none (found_text c j.judged)
    → unmet_line c past script j.place.line test what got ≡ failed_check_object c script ts past j
unmet-object c script ts past j test what got h d e f =
    ap (λ n. unmet_line c past script j.place.line n what got) d
    ∙ ap (λ w. unmet_line c past script j.place.line (test_named ts j.place.test) w got) e
    ∙ ap (λ t. unmet_line c past script j.place.line (test_named ts j.place.test) (what_text c j.judged) t) f
    ∙ ap (λ (b : Bool). if b then failed_line c script ts past j else []) (sym h)

met-object : (c : Parts) (script : List ℕ) (ts : List TestName) (past : List LogEntry) (j : Judgement) → is_unmet j.judged ≡ false → [] ≡ failed_check_object c script ts past j
met-object c script ts past j h = ap (λ (b : Bool). if b then failed_line c script ts past j else []) (sym h)

pub returns-then-not-is_unmet : goal.returns-then-not-is_unmet
returns-then-not-is_unmet g c = λ past told.
    puts-all (met-object c.args.cluster.now c.args.names.script.now c.args.names.tests.now past c.args.judgement.now (sym c.is_unmet.ensures ∙ c.if-not-is_unmet.true)) (grows-nothing c.args.out.now)

pub returns-in_err-what : goal.returns-in_err-what
returns-in_err-what g c = λ past told.
    puts-some (failed_check_object c.args.cluster.now c.args.names.script.now c.args.names.tests.now past c.args.judgement.now) c.from_residual.ensures.0 refl (grows-nothing c.args.out.now)

pub returns-in_err-got : goal.returns-in_err-got
returns-in_err-got g c = λ past told.
    puts-some (failed_check_object c.args.cluster.now c.args.names.script.now c.args.names.tests.now past c.args.judgement.now) c.from_residual-in_err-got.ensures.0 refl (grows-nothing c.args.out.now)

pub returns-in_err-name : goal.returns-in_err-name
returns-in_err-name g c = λ past told.
    puts-some (failed_check_object c.args.cluster.now c.args.names.script.now c.args.names.tests.now past c.args.judgement.now) c.from_residual-in_err-name.ensures.0 refl (grows-nothing c.args.out.now)

pub returns : goal.returns
returns g c = λ past told.
    let x = c.args.cluster.now in
    let j = c.args.judgement.now in
    puts-all
    (c.unmet_of-unmet.ensures x past ∙ unmet-object x c.args.names.script.now c.args.names.tests.now past j _ _ _ (sym c.is_unmet.ensures ∙ c.if-not-is_unmet.false)
    (c.bytes_of-test.ensures ∙ c.in_ok-name.ensures)
    (c.without_space.ensures ∙ ap (drop 1) (c.as_slice.ensures.value ∙ c.in_ok-what.ensures))
    (c.without_space-2.ensures ∙ ap (drop 1) (c.as_slice-2.ensures.value ∙ c.in_ok-got.ensures) ∙ behind-space (found_text x j.judged)))
    (c.put_unmet.ensures x past told)
