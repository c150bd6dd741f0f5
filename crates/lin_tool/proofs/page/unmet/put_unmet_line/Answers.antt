use Rattle.std.proofs.Common.{◌≡◌, ◌∙◌, ap, sym, refl, true, false, Bool, ℕ, List, [], ◌∷◌, Option}
use Rattle.std.specs.Prelude.{codes, if◌then◌else◌}
use Rattle.std.specs.Borrow.{Bor}
use Rattle.std.specs.Fmt.{decimal}
use Rattle.lin_bench.specs.declared.files.ScriptFile.{ScriptFile}
use Rattle.lin_parts.specs.declared.parts.Parts.{Parts}
use Rattle.lin_core.specs.declared.log.LogEntry.{LogEntry}
use Rattle.lin_log.specs.Words.{line}
use Rattle.lin_text.proofs.Growing.{grows-more, grows-nothing}
use Rattle.lin_export.proofs.Puttings.{puts-all, puts-some}
use Rattle.lin_bench.specs.Played.{is_unmet}
use Rattle.lin_bench.specs.declared.got.Judgement.{Judgement}
use Rattle.lin_tool.specs.Page.{unmet_data_line}
use Rattle.lin_tool.specs.PageFields.{field}
use Rattle.lin_tool.specs.Placing.{missed_line}
use Rattle.lin_tool.proofs.page.unmet.put_unmet_line.Goals as goal

unmet-line : (named : Option (Bor (List ℕ))) (fs : List ScriptFile) (c : Parts) (log : List LogEntry) (j : Judgement) (t : List ℕ)
    → is_unmet j.judged ≡ true → t ≡ missed_line named fs c log j
    → line (codes "unmet" ∷ decimal j.entries ∷ field t ∷ []) ≡ unmet_data_line named fs c log j
unmet-line named fs c log j t h e =
    ap (λ s. line (codes "unmet" ∷ decimal j.entries ∷ field s ∷ [])) e
    ∙ ap (λ (b : Bool). if b then line (codes "unmet" ∷ decimal j.entries ∷ field (missed_line named fs c log j) ∷ []) else []) (sym h)

met-line : (named : Option (Bor (List ℕ))) (fs : List ScriptFile) (c : Parts) (log : List LogEntry) (j : Judgement) → is_unmet j.judged ≡ false
    → [] ≡ unmet_data_line named fs c log j
met-line named fs c log j h =
    ap (λ (b : Bool). if b then line (codes "unmet" ∷ decimal j.entries ∷ field (missed_line named fs c log j) ∷ []) else []) (sym h)

pub returns-then-not-is_unmet : goal.returns-then-not-is_unmet
returns-then-not-is_unmet g c = λ log told.
    puts-all (met-line c.args.shown.now.script c.args.shown.now.files.now c.args.cluster.now log c.args.judgement.now (sym c.is_unmet.ensures ∙ c.if-not-is_unmet.true)) (grows-nothing c.args.out.now)

pub returns-in_err-text : goal.returns-in_err-text
returns-in_err-text g c = λ log told.
    puts-some (unmet_data_line c.args.shown.now.script c.args.shown.now.files.now c.args.cluster.now log c.args.judgement.now) c.from_residual.ensures.0 refl (grows-nothing c.args.out.now)

pub returns : goal.returns
returns g c = λ log told.
    puts-all (unmet-line c.args.shown.now.script c.args.shown.now.files.now c.args.cluster.now log c.args.judgement.now c.as_slice.result.now
    (sym c.is_unmet.ensures ∙ c.if-not-is_unmet.false) (c.as_slice.ensures.value ∙ c.in_ok-text.ensures log told))
    (grows-more c.put_text.ensures (grows-more c.put_number.ensures
    (grows-more c.put_byte.ensures (grows-more c.put_field.ensures c.put_byte-2.ensures))))
