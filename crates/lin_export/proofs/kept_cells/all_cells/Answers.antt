use Rattle.lin_export.proofs.KeptMore.{none-kept}
use Rattle.lin_export.proofs.kept_cells.all_cells.Goals as goal

pub loop-signal-init : goal.loop-signal-init
loop-signal-init c = rw c.in_ok-kept.ensures.items (none-kept c.args.coded.now)
