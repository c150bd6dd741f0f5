use Rattle.std.proofs.Common.{ℕ, List, Err, ap, sym, subst, ◌∙◌}
use Rattle.std.proofs.lemmas.Result.{err_from_is_err_and}
use Rattle.lin_ldf.specs.Tokens.{IsLexFault, mark_len, behind_mark}
use Rattle.lin_ldf.specs.declared.token.Token.{Token}
use Rattle.lin_ldf.proofs.Unique.{only_tokens, only_fault}
use Rattle.lin_ldf.proofs.Parsed.{no_fault}
use Rattle.lin_field.specs.Bytes.{field_bytes}
use Rattle.lin_field.specs.Describes.{ReadsIn}
use Rattle.lin_field.specs.Marks.{AreExtraMarks, text_with_blanks}
use Rattle.lin_field.proofs.Spelled.{seen_blanked, read_spelled, only_memory, reads_once}
use Rattle.lin_field.proofs.field_text.read_field.Goals as goal

-- ---- no mark is left out

pub returns-then-not-has_suspect-clause-only : goal.returns-then-not-has_suspect-clause-only
returns-then-not-has_suspect-clause-only c = λ t h. c.read_unmarked.ensures.only t (subst (λ (s : List ℕ). ReadsIn s t) (sym c.read_over_bytes.ensures) h)

pub returns-then-not-has_suspect-clause-one : goal.returns-then-not-has_suspect-clause-one
returns-then-not-has_suspect-clause-one c = reads_once c.args.bytes.now

-- ---- a fault of the tokens

pub returns-in_err-marks-clause-only : goal.returns-in_err-marks-clause-only
returns-in_err-marks-clause-only c =
    let source = field_bytes c.args.bytes.now in
    let f = c.in_err-marks.field-0.0 in
    let is : IsLexFault source f = rw c.read_over_bytes.ensures at c.in_err-marks.ensures.fault in
    let p = err_from_is_err_and c.from_residual.result c.from_residual.ensures.1 in
    λ t h. rw (p.1, p.2) (only_tokens {V = List Token} (λ v. v) (mark_len source) (behind_mark source) (Err f) tt is h.0 h.1)

pub returns-in_err-marks-clause-one : goal.returns-in_err-marks-clause-one
returns-in_err-marks-clause-one c = reads_once c.args.bytes.now

pub returns-in_err-marks-clause-first : goal.returns-in_err-marks-clause-first
returns-in_err-marks-clause-first c =
    let source = field_bytes c.args.bytes.now in
    let f = c.in_err-marks.field-0.0 in
    let is : IsLexFault source f = rw c.read_over_bytes.ensures at c.in_err-marks.ensures.fault in
    let p = err_from_is_err_and c.from_residual.result c.from_residual.ensures.1 in
    λ e is' other. rw (p.1, p.2) (only_fault {V = List Token} (λ v. v) (mark_len source) (behind_mark source) (Err f) tt is e is' other)

-- ---- a fault of the grammar

pub returns-in_err-loose-clause-only : goal.returns-in_err-loose-clause-only
returns-in_err-loose-clause-only c =
    let source = field_bytes c.args.bytes.now in
    let marks : AreExtraMarks source c.in_ok-marks.marks.items = rw c.read_over_bytes.ensures at c.in_ok-marks.ensures.marks in
    let seen = seen_blanked source _ _ _ _ _ c.read_over_bytes.ensures c.read_over_marks.ensures c.as_slice.ensures.value c.new.ensures in
    let p = err_from_is_err_and c.from_residual-in_err-loose.result c.from_residual-in_err-loose.ensures.1 in
    λ t h. rw (p.1, p.2) (only_memory source _ marks c.in_err-loose.field-0.0 _ seen c.in_err-loose.ensures h.0 h.1 t.loose h.3)

pub returns-in_err-loose-clause-one : goal.returns-in_err-loose-clause-one
returns-in_err-loose-clause-one c = reads_once c.args.bytes.now

pub returns-in_err-loose-clause-first : goal.returns-in_err-loose-clause-first
returns-in_err-loose-clause-first c =
    let source = field_bytes c.args.bytes.now in
    let marks : AreExtraMarks source c.in_ok-marks.marks.items = rw c.read_over_bytes.ensures at c.in_ok-marks.ensures.marks in
    λ e is other. absurd (no_fault source marks.0 marks.1 e is other)

-- ---- what was read

pub returns-clause-found : goal.returns-clause-found
returns-clause-found c =
    let source = field_bytes c.args.bytes.now in
    let marks : AreExtraMarks source c.in_ok-marks.marks.items = rw c.read_over_bytes.ensures at c.in_ok-marks.ensures.marks in
    let seen = seen_blanked source _ _ _ _ _ c.read_over_bytes.ensures c.read_over_marks.ensures c.as_slice.ensures.value c.new.ensures in
    (marks.0, marks.1, c.new-2.ensures ∙ marks.2, read_spelled source _ marks c.in_ok-loose.loose c.file.new.parser _ seen c.in_ok-loose.ensures)

pub returns-clause-only : goal.returns-clause-only
returns-clause-only c = λ t h. reads_once c.args.bytes.now (record { loose = c.in_ok-loose.loose; marks = c.new-2.result }) t (returns-clause-found c) h

pub returns-clause-one : goal.returns-clause-one
returns-clause-one c = reads_once c.args.bytes.now

pub returns-clause-first : goal.returns-clause-first
returns-clause-first c =
    let source = field_bytes c.args.bytes.now in
    let marks : AreExtraMarks source c.in_ok-marks.marks.items = rw c.read_over_bytes.ensures at c.in_ok-marks.ensures.marks in
    λ e is other. no_fault source marks.0 marks.1 e is other

pub returns-clause-left : goal.returns-clause-left
returns-clause-left c =
    c.read_over_marks.ensures ∙ ap (λ (b : List ℕ). text_with_blanks b c.as_slice.result.now) c.read_over_bytes.ensures
    ∙ ap (text_with_blanks (field_bytes c.args.bytes.now)) (c.as_slice.ensures.value ∙ sym c.new-2.ensures)
