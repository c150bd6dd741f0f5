use Rattle.std.proofs.Common.{flat_map, take}
use Rattle.lin_parts.specs.Cluster.{frame_of}
use Rattle.lin_text.specs.Written.{Grows}
use Rattle.lin_export.specs.ListedFrames.{place_line, places}
use Rattle.lin_export.proofs.cluster_lists.frame_lines.put_places.Given as goal

abbrev pub invariant-loop-index : goal.invariant-loop-index
invariant-loop-index g l = Grows g.W.Write.contents l.initial.out l.out (flat_map (place_line l.fn.cluster l.fn.frame) (take l.index (places (frame_of l.fn.cluster l.fn.frame))))
