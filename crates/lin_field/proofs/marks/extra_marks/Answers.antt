use Rattle.std.proofs.Common.{◌≡◌, ◌++◌, List, Some, ap, sym, ◌∙◌}
use Rattle.std.proofs.lemmas.List.{append-nil}
use Rattle.std.proofs.lemmas.Result.{err_from_is_err_and}
use Rattle.lin_ldf.specs.Stream.{Ahead, empty_ahead, start_of, still}
use Rattle.lin_ldf.specs.declared.token.Token.{Token}
use Rattle.lin_ldf.proofs.Stream.{nothing_pulled}
use Rattle.lin_ldf.proofs.Parsed.{lex_fault, all_tokens}
use Rattle.lin_field.proofs.ExtraSteps.{extra_behind, nothing_behind}
use Rattle.lin_field.proofs.marks.extra_marks.Goals as goal

pub returns-in_err-token-clause-fault : goal.returns-in_err-token-clause-fault
returns-in_err-token-clause-fault c =
    let e = c.in_err-token.field-0.0 in
    let some : (start_of c.args.source.now).fault ≡ Some e = c.loop-extra.invariant.fault ∙ ap (λ (r : Ahead). r.fault) c.in_err-token.ensures.pulls in
    let p = err_from_is_err_and c.from_residual.result c.from_residual.ensures.1 in
    rw (p.1, p.2) ((lex_fault c.args.source.now e some).0)

pub returns-clause-marks : goal.returns-clause-marks
returns-clause-marks c =
    let source = c.args.source.now in
    let marks = c.loop-extra.extra.items in
    let none : still c.loop-extra.lexer ≡ empty_ahead = nothing_pulled c.in_ok-token.field-0 c.loop-extra.lexer c.next.new.self c.in_default.not-Some c.in_ok-token.ensures.pulls in
    let last = c.loop-extra.last in
    let all = c.loop-extra.invariant.marks ∙ ap (λ (r : Ahead). marks ++ extra_behind last r.tokens) none ∙ ap (λ (ts : List Token). marks ++ ts) (nothing_behind last) ∙ append-nil marks in
    ((start_of source).tokens, all_tokens source (c.loop-extra.invariant.fault ∙ ap (λ (r : Ahead). r.fault) none), sym all)
