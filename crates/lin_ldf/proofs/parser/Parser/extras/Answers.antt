use Rattle.std.proofs.Common.{◌∙◌, not, ap, sym}
use Rattle.std.proofs.lemmas.Result.{err_from_is_err_and}
use Rattle.lin_ldf.specs.Grammar.{extra, extras, no_extra}
use Rattle.lin_ldf.specs.GrammarLaws.{extra_takes}
use Rattle.lin_ldf.proofs.GatherSteps.{gather_goes_on, gather_fails, gather_is_done}
use Rattle.lin_ldf.proofs.parser.Parser.extras.Goals as goal

pub loop-self-preserved : goal.loop-self-preserved
loop-self-preserved c =
    gather_goes_on no_extra (λ x. extra.read) (λ x. extra_takes.shrinks) tt c.loop-self.self tt c.extra.new.self (extras.read c.args.self.now) (ap not (sym c.is_at_extra.ensures ∙ c.loop-self-test.true)) c.in_ok-extra.ensures c.loop-self.invariant

pub returns-in_err-extra : goal.returns-in_err-extra
returns-in_err-extra c =
    let p = err_from_is_err_and c.from_residual.result c.from_residual.ensures.1 in
    rw (p.1, p.2) (gather_fails no_extra (λ x. extra.read) (λ x. extra_takes.shrinks) c.in_err-extra.field-0.0 tt c.loop-self.self (extras.read c.args.self.now) (ap not (sym c.is_at_extra.ensures ∙ c.loop-self-test.true)) c.in_err-extra.ensures c.loop-self.invariant)

pub returns : goal.returns
returns c =
    gather_is_done no_extra (λ x. extra.read) (λ x. extra_takes.shrinks) tt c.loop-self.self (extras.read c.args.self.now) (ap not (sym c.is_at_extra.ensures ∙ c.loop-self-test.false)) c.loop-self.invariant

pub loop-self-smaller : goal.loop-self-smaller
loop-self-smaller c = extra_takes.shrinks c.loop-self.self tt c.extra.new.self c.in_ok-extra.ensures
