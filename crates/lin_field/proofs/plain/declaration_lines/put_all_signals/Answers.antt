use Rattle.std.proofs.Common.{arith}
use Rattle.lin_text.proofs.Growing.{grows-next}
use Rattle.lin_field.specs.Plain.{signal_text}
use Rattle.lin_field.proofs.plain.declaration_lines.put_all_signals.Goals as goal

pub loop-signal-preserved : goal.loop-signal-preserved
loop-signal-preserved g c =
    grows-next signal_text c.args.signals.now c.loop-signal.signal-index c.signal-item.result c.signal-item.is (omega arith) c.loop-signal.invariant c.put_signal.ensures
