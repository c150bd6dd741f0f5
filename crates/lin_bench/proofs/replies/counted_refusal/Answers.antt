use Rattle.std.proofs.Common.{◌∙◌, ap}
use Rattle.lin_bench.specs.Strict.{first_refusal}
use Rattle.lin_bench.proofs.Stricts.{last-dropped}
use Rattle.lin_bench.proofs.replies.counted_refusal.Goals as goal

pub returns-then-is_told : goal.returns-then-is_told
returns-then-is_told c =
    rw c.if-is_told.true
    ((rw (c.saturating_sub.ensures, c.len.ensures.len) at c.refusal_among.ensures) ∙ ap first_refusal (last-dropped c.args.from c.args.log.now.entries))
