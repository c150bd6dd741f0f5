use Rattle.std.proofs.Common.{sym, ◌∙◌, arith}
use Rattle.lin_values.proofs.Places.{after-big}
use Rattle.lin_values.proofs.script_decimals.whole.Goals as goal

pub returns-then-n-ge-LIMIT-clause-same : goal.returns-then-n-ge-LIMIT-clause-same
returns-then-n-ge-LIMIT-clause-same c =
    sym (sym c.loop-i.invariant.same ∙ after-big c.args.text.now c.loop-i.i c.loop-i.n (omega arith) (sym c.is_ascii_digit.ensures.value ∙ c.if-not-is_ascii_digit.false) (omega (arith, c.from.ensures, c.if-n-ge-LIMIT.true)))
