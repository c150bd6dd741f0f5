use Rattle.std.proofs.Common.{flat_map}
use Rattle.lin_frame.specs.Words.{numbers}
use Rattle.lin_text.specs.Written.{Grows}
use Rattle.lin_export.specs.ListedMaps.{map_lines}
use Rattle.lin_export.proofs.cluster_lists.maps.put_maps.Given as goal

abbrev pub invariant-loop-frame : goal.invariant-loop-frame
invariant-loop-frame g l = Grows g.W.Write.contents l.initial.out l.out (flat_map (map_lines l.fn.cluster) (numbers l.frame))
