use Rattle.std.proofs.Common.{flat_map}
use Rattle.lin_frame.specs.Words.{numbers}
use Rattle.lin_text.specs.Written.{Grows}
use Rattle.lin_export.specs.ListedFrames.{sporadic_line}
use Rattle.lin_export.proofs.cluster_lists.frame_lines.put_sporadics.Given as goal

abbrev pub invariant-loop-sporadic : goal.invariant-loop-sporadic
invariant-loop-sporadic g l = Grows g.W.Write.contents l.initial.out l.out (flat_map (sporadic_line l.fn.cluster) (numbers l.sporadic))
