use Rattle.std.proofs.Common.{sym}
use Rattle.lin_text.proofs.Growing.{grows-more, same-growth}
use Rattle.lin_export.specs.Csv.{signal_names}
use Rattle.lin_export.specs.WhereTold.{given_coding}
use Rattle.lin_export.proofs.Rows.{cells-more}
use Rattle.lin_export.proofs.csv.put_signal_names.Goals as goal

pub loop-signal-preserved : goal.loop-signal-preserved
loop-signal-preserved g c =
    same-growth (sym (cells-more (signal_names c.args.cluster.now (given_coding c.args.coded)) c.loop-signal.signal)) (grows-more c.loop-signal.invariant c.put_signal_name.ensures)
