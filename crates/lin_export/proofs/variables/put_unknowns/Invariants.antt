use Rattle.std.proofs.Common.{flat_map}
use Rattle.lin_frame.specs.Words.{numbers}
use Rattle.lin_text.specs.Written.{Grows}
use Rattle.lin_export.specs.Vcd.{unknown_change}
use Rattle.lin_export.proofs.variables.put_unknowns.Given as goal

abbrev pub invariant-loop-variable : goal.invariant-loop-variable
invariant-loop-variable g l = Grows g.W.Write.contents l.initial.out l.out (flat_map unknown_change (numbers l.variable))
