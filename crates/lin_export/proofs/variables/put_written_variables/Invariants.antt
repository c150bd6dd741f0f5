use Rattle.std.proofs.Common.{flat_map}
use Rattle.lin_frame.specs.Words.{numbers}
use Rattle.lin_text.specs.Written.{Grows}
use Rattle.lin_export.specs.Vcd.{written_variable}
use Rattle.lin_export.proofs.variables.put_written_variables.Given as goal

abbrev pub invariant-loop-signal : goal.invariant-loop-signal
invariant-loop-signal g l = Grows g.W.Write.contents l.initial.out l.out (flat_map (written_variable l.cluster) (numbers l.signal))
