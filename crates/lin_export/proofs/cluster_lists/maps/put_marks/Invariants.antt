use Rattle.std.proofs.Common.{take}
use Rattle.lin_parts.specs.Cluster.{frame_of}
use Rattle.lin_text.specs.Written.{Grows}
use Rattle.lin_export.specs.ListedFrames.{places}
use Rattle.lin_export.specs.ListedMaps.{mark_line}
use Rattle.lin_export.specs.Listing.{numbered_lines}
use Rattle.lin_export.proofs.cluster_lists.maps.put_marks.Given as goal

abbrev pub invariant-loop-index : goal.invariant-loop-index
invariant-loop-index g l = Grows g.W.Write.contents l.initial.out l.out (numbered_lines (mark_line l.fn.cluster l.fn.frame) 0 (take l.index (places (frame_of l.fn.cluster l.fn.frame))))
