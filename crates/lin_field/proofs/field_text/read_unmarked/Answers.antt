use Rattle.std.proofs.Common.{List, [], Err, ◌∙◌}
use Rattle.std.proofs.lemmas.Result.{err_from_is_err_and}
use Rattle.lin_ldf.specs.Stream.{start_of}
use Rattle.lin_ldf.specs.Tokens.{mark_len, behind_mark}
use Rattle.lin_ldf.specs.declared.token.Token.{Token}
use Rattle.lin_ldf.proofs.Unique.{only_tokens, only_fault}
use Rattle.lin_ldf.proofs.Parsed.{no_fault}
use Rattle.lin_field.proofs.Spelled.{read_spelled, only_memory, read_once}
use Rattle.lin_field.proofs.Unmarked.{no_marks, read_whole}
use Rattle.lin_field.proofs.field_text.read_unmarked.Goals as goal

-- ---- a fault of the tokens

pub returns-in_err-extra_marks-in-Err-clause-only : goal.returns-in_err-extra_marks-in-Err-clause-only
returns-in_err-extra_marks-in-Err-clause-only c =
    let source = c.args.source.now in
    let f = c.in_err-extra_marks-in-Err.field-0.0 in
    let p = err_from_is_err_and c.from_residual.result c.from_residual.ensures.1 in
    λ t h. rw (p.1, p.2) (only_tokens {V = List Token} (λ v. v) (mark_len source) (behind_mark source) (Err f) tt c.in_err-extra_marks-in-Err.ensures.fault h.0 h.1)

pub returns-in_err-extra_marks-in-Err-clause-first : goal.returns-in_err-extra_marks-in-Err-clause-first
returns-in_err-extra_marks-in-Err-clause-first c =
    let source = c.args.source.now in
    let f = c.in_err-extra_marks-in-Err.field-0.0 in
    let p = err_from_is_err_and c.from_residual.result c.from_residual.ensures.1 in
    λ e is other. rw (p.1, p.2) (only_fault {V = List Token} (λ v. v) (mark_len source) (behind_mark source) (Err f) tt c.in_err-extra_marks-in-Err.ensures.fault e is other)

-- ---- a fault of the grammar

pub returns-in_ok-extra_marks-in-Err-clause-only : goal.returns-in_ok-extra_marks-in-Err-clause-only
returns-in_ok-extra_marks-in-Err-clause-only c =
    let source = c.args.source.now in
    let found = c.in_ok-extra_marks-in-Err.ensures.marks in
    let marks = no_marks source c.requires found.0 found.1 in
    λ t h. only_memory source [] marks c.in-Err.fault _ c.new.ensures c.in-Err.ensures h.0 h.1 t.loose h.3

pub returns-in_ok-extra_marks-in-Err-clause-first : goal.returns-in_ok-extra_marks-in-Err-clause-first
returns-in_ok-extra_marks-in-Err-clause-first c =
    let found = c.in_ok-extra_marks-in-Err.ensures.marks in
    λ e is other. absurd (no_fault c.args.source.now found.0 found.1 e is other)

-- ---- what was read

pub returns-in-Ok-clause-found : goal.returns-in-Ok-clause-found
returns-in-Ok-clause-found c =
    let source = c.args.source.now in
    let are = read_whole source c.in-Ok.loose c.file-read.new.parser _ c.new.ensures c.in-Ok.ensures in
    let marks = no_marks source c.requires (start_of source).tokens are in
    (marks.0, marks.1, c.new-in-Ok-2.ensures ∙ c.new-in-Ok.ensures.items ∙ marks.2, read_spelled source [] marks c.in-Ok.loose c.file-read.new.parser _ c.new.ensures c.in-Ok.ensures)

pub returns-in-Ok-clause-only : goal.returns-in-Ok-clause-only
returns-in-Ok-clause-only c = λ t h. read_once c.args.source.now (record { loose = c.in-Ok.loose; marks = c.new-in-Ok-2.result }) t (returns-in-Ok-clause-found c) h

pub returns-in-Ok-clause-first : goal.returns-in-Ok-clause-first
returns-in-Ok-clause-first c =
    let source = c.args.source.now in
    let are = read_whole source c.in-Ok.loose c.file-read.new.parser _ c.new.ensures c.in-Ok.ensures in
    λ e is other. no_fault source (start_of source).tokens are e is other
