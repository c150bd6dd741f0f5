use Rattle.std.proofs.Common.{refl}
use Rattle.lin_export.proofs.Puttings.{writes-more, written-short}
use Rattle.lin_tool.proofs.play_command.tell.Goals as goal

pub returns-in_err-tell_unmet : goal.returns-in_err-tell_unmet
returns-in_err-tell_unmet g c = written-short _ c.from_residual.ensures.0 refl c.tell_unmet.ensures

pub returns : goal.returns
returns g c = writes-more (rw c.in_ok-tell_unmet.was at c.tell_unmet.ensures) c.tell_counts.ensures
