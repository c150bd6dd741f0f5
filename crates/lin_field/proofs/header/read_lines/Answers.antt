use Rattle.std.proofs.Common.{◌∙◌, not, ap, sym}
use Rattle.std.proofs.lemmas.Result.{err_from_is_err_and}
use Rattle.lin_ldf.proofs.GatherSteps.{gather_goes_on, gather_fails, gather_is_done}
use Rattle.lin_field.specs.Grammar.{lines_behind, no_line, no_lines, one_line}
use Rattle.lin_field.specs.GrammarLaws.{one_line_takes}
use Rattle.lin_field.proofs.header.read_lines.Goals as goal

pub loop-lines-preserved : goal.loop-lines-preserved
loop-lines-preserved c =
    gather_goes_on no_line (λ x. (one_line x).read) (λ x. (one_line_takes x).shrinks) c.loop-lines.lines c.loop-lines.parser c.add.new.self c.add.new.parser ((lines_behind no_lines).read c.keyword_before.new.self) (ap not (sym c.is_at_line.ensures ∙ c.loop-lines-test.true)) (rw (sym c.is_at_line.ensures ∙ c.loop-lines-test.true) c.in_ok-add.ensures) c.loop-lines.invariant

pub returns-in_err-add : goal.returns-in_err-add
returns-in_err-add c =
    let p = err_from_is_err_and c.from_residual-in_err-add.result c.from_residual-in_err-add.ensures.1 in
    rw (p.1, p.2, c.in_ok-keyword_before.ensures) (gather_fails no_line (λ x. (one_line x).read) (λ x. (one_line_takes x).shrinks) c.in_err-add.field-0.0 c.loop-lines.lines c.loop-lines.parser ((lines_behind no_lines).read c.keyword_before.new.self) (ap not (sym c.is_at_line.ensures ∙ c.loop-lines-test.true)) (rw (sym c.is_at_line.ensures ∙ c.loop-lines-test.true) c.in_err-add.ensures) c.loop-lines.invariant)

pub returns : goal.returns
returns c =
    rw c.in_ok-keyword_before.ensures (gather_is_done no_line (λ x. (one_line x).read) (λ x. (one_line_takes x).shrinks) c.loop-lines.lines c.loop-lines.parser ((lines_behind no_lines).read c.keyword_before.new.self) (ap not (sym c.is_at_line.ensures ∙ c.loop-lines-test.false)) c.loop-lines.invariant)

pub loop-lines-smaller : goal.loop-lines-smaller
loop-lines-smaller c = (one_line_takes c.loop-lines.lines).shrinks c.loop-lines.parser c.add.new.self c.add.new.parser (rw (sym c.is_at_line.ensures ∙ c.loop-lines-test.true) c.in_ok-add.ensures)
