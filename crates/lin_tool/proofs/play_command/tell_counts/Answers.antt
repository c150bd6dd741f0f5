use Rattle.std.proofs.Common.{refl, sym, append-nil}
use Rattle.lin_export.proofs.Puttings.{writes-more, written-all, written-short}
use Rattle.lin_tool.proofs.play_command.tell_counts.Goals as goal

pub returns-in_err-write_missed_faults : goal.returns-in_err-write_missed_faults
returns-in_err-write_missed_faults g c = written-short _ c.from_residual.ensures.0 refl c.write_missed_faults.ensures

pub returns-then-script : goal.returns-then-script
returns-then-script g c = rw c.if-script.true (writes-more (rw c.in_ok-write_missed_faults.was at c.write_missed_faults.ensures) c.write_tally.ensures)

pub returns-else-script : goal.returns-else-script
returns-else-script g c = rw c.if-script.false (written-all (sym (append-nil _)) (rw c.in_ok-write_missed_faults.was at c.write_missed_faults.ensures))
