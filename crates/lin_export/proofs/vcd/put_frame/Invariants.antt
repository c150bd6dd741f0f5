use Rattle.std.proofs.Common.{take, flat_map}
use Rattle.lin_text.specs.Written.{Grows}
use Rattle.lin_export.specs.Vcd.{place_change}
use Rattle.lin_export.proofs.Places.{places_of}
use Rattle.lin_export.proofs.vcd.put_frame.Given as goal

abbrev pub invariant-loop-place : goal.invariant-loop-place
invariant-loop-place g l = Grows g.W.Write.contents l.initial.out l.out (flat_map (place_change l.fn.cluster l.fn.answer) (take l.place (places_of l.fn.cluster l.fn.frame)))
