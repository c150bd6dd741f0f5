use Rattle.std.proofs.Common.{flat_map, take}
use Rattle.lin_text.specs.Written.{Grows}
use Rattle.lin_field.specs.Plain.{frame_text}
use Rattle.lin_field.proofs.plain.declaration_lines.put_all_frames.Given as goal

abbrev pub invariant-loop-frame : goal.invariant-loop-frame
invariant-loop-frame g l = Grows g.W.Write.contents l.initial.out l.out (flat_map frame_text (take l.frame-index l.frames))
