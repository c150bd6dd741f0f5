use Rattle.std.proofs.Common.{take, map}
use Rattle.lin_text.specs.Written.{Grows}
use Rattle.lin_export.specs.Json.{with_commas}
use Rattle.lin_export.specs.Jsonl.{signal_member}
use Rattle.lin_export.proofs.Places.{places_of}
use Rattle.lin_export.proofs.slot_object.put_frame_signals.Given as goal

abbrev pub invariant-loop-place : goal.invariant-loop-place
invariant-loop-place g l = Grows g.W.Write.contents l.initial.out l.out (with_commas (map (signal_member l.fn.cluster l.fn.answer) (take l.place (places_of l.fn.cluster l.fn.frame))))
