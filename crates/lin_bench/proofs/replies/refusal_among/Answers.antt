use Rattle.std.proofs.Common.{◌∙◌, sym, arith}
use Rattle.lin_bench.proofs.Stricts.{refused-next, done-next}
use Rattle.lin_bench.proofs.replies.refusal_among.Goals as goal

pub returns-in-Some : goal.returns-in-Some
returns-in-Some c =
    refused-next c.args.log.now.entries c.loop-index.index c.args.to c.entry.result.now c.in-Some.refusal c.entry.ensures (omega arith) c.requires
    (sym c.refusal_in.ensures ∙ c.in-Some.is)
    ∙ c.loop-index.invariant

pub loop-index-preserved : goal.loop-index-preserved
loop-index-preserved c =
    sym (done-next c.args.log.now.entries c.loop-index.index c.args.to c.entry.result.now c.entry.ensures (omega arith) c.requires
    (sym c.refusal_in.ensures ∙ c.in_default.is))
    ∙ c.loop-index.invariant
