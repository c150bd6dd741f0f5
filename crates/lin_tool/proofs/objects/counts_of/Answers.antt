use Rattle.std.proofs.Common.{refl}
use Rattle.lin_tool.proofs.objects.counts_of.Goals as goal

pub returns : goal.returns
returns c =
    rw (c.unmet_in.ensures, c.steps_refused.ensures, c.log.ensures.entries, c.messages_lost.ensures, c.log-2.ensures.entries, c.waiting_in.ensures) refl
