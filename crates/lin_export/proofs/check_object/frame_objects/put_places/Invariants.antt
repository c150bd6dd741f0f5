use Rattle.std.proofs.Common.{take}
use Rattle.lin_parts.specs.Cluster.{frame_of}
use Rattle.lin_text.specs.Written.{Grows}
use Rattle.lin_export.specs.ClusterObject.{numbered_values, placed_object}
use Rattle.lin_export.specs.Json.{with_commas}
use Rattle.lin_export.specs.ListedFrames.{places}
use Rattle.lin_export.proofs.check_object.frame_objects.put_places.Given as goal

abbrev pub invariant-loop-index : goal.invariant-loop-index
invariant-loop-index g l =
    Grows g.W.Write.contents l.initial.out l.out
    (with_commas (numbered_values (placed_object l.fn.cluster l.fn.description l.fn.frame) 0 (take l.index (places (frame_of l.fn.cluster l.fn.frame)))))
