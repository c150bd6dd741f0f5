use Rattle.std.proofs.Common.{sym}
use Rattle.lin_values.proofs.SpelledSteps.{on-ok, pair-read}
use Rattle.lin_values.proofs.spelled.coded_pairs.Goals as goal

pub loop-rest-preserved : goal.loop-rest-preserved
loop-rest-preserved c =
    pair-read c.args.text.now c.loop-rest.bytes.items c.try_push.new.self.items c.loop-rest.rest.now c.in-len2-up.len_at_least c.loop-rest.invariant
    (sym c.if-not-is_ascii_digit.ensures.value) (sym c.if-not-is_ascii_digit-2.ensures.value)
    (on-ok c.try_push.result c.if-is_err.ensures.negation c.try_push.ensures.ok)
