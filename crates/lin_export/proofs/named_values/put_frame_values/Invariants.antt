use Rattle.std.proofs.Common.{take, flat_map}
use Rattle.lin_text.specs.Written.{Grows}
use Rattle.lin_export.specs.Named.{named_line, place_values}
use Rattle.lin_export.proofs.Places.{places_of}
use Rattle.lin_export.proofs.named_values.put_frame_values.Given as goal

abbrev pub invariant-loop-place : goal.invariant-loop-place
invariant-loop-place g l =
    Grows g.W.Write.contents l.initial.out l.out (flat_map (named_line l.fn.cluster) (flat_map (place_values l.fn.cluster l.fn.coded l.fn.answer) (take l.place (places_of l.fn.cluster l.fn.frame))))
