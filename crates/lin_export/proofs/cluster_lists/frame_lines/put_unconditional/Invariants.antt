use Rattle.std.proofs.Common.{flat_map}
use Rattle.lin_frame.specs.Words.{numbers}
use Rattle.lin_text.specs.Written.{Grows}
use Rattle.lin_export.specs.ListedFrames.{frame_lines}
use Rattle.lin_export.proofs.cluster_lists.frame_lines.put_unconditional.Given as goal

abbrev pub invariant-loop-frame : goal.invariant-loop-frame
invariant-loop-frame g l = Grows g.W.Write.contents l.initial.out l.out (flat_map (frame_lines l.fn.cluster) (numbers l.frame))
