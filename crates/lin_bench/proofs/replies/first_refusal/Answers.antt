use Rattle.std.proofs.Common.{◌∙◌}
use Rattle.lin_bench.proofs.Stricts.{all-entries}
use Rattle.lin_bench.proofs.replies.first_refusal.Goals as goal

pub returns : goal.returns
returns c = (rw c.len.ensures.len at c.refusal_among.ensures) ∙ all-entries c.args.from c.args.log.now.entries
