use Rattle.std.proofs.Common.{flat_map}
use Rattle.lin_frame.specs.Words.{numbers}
use Rattle.lin_text.specs.Written.{Grows}
use Rattle.lin_export.specs.Vcd.{first_waiting}
use Rattle.lin_export.proofs.variables.put_waiting_values.Given as goal

abbrev pub invariant-loop-host : goal.invariant-loop-host
invariant-loop-host g l = Grows g.W.Write.contents l.initial.out l.out (flat_map (first_waiting l.cluster) (numbers l.host))
