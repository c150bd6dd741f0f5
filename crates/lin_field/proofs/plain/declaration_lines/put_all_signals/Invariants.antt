use Rattle.std.proofs.Common.{flat_map, take}
use Rattle.lin_text.specs.Written.{Grows}
use Rattle.lin_field.specs.Plain.{signal_text}
use Rattle.lin_field.proofs.plain.declaration_lines.put_all_signals.Given as goal

abbrev pub invariant-loop-signal : goal.invariant-loop-signal
invariant-loop-signal g l = Grows g.W.Write.contents l.initial.out l.out (flat_map signal_text (take l.signal-index l.signals))
