use Rattle.std.proofs.Common.{flat_map}
use Rattle.lin_frame.specs.Words.{numbers}
use Rattle.lin_text.specs.Written.{Grows}
use Rattle.lin_export.specs.Vcd.{physical_variable}
use Rattle.lin_export.proofs.variables.put_physical_variables.Given as goal

abbrev pub invariant-loop-signal : goal.invariant-loop-signal
invariant-loop-signal g l = Grows g.W.Write.contents l.initial.out l.out (flat_map (physical_variable l.cluster l.coded) (numbers l.signal))
