use Rattle.std.proofs.Common.{flat_map}
use Rattle.lin_frame.specs.Words.{numbers}
use Rattle.lin_text.specs.Written.{Grows}
use Rattle.lin_export.specs.ListedMaps.{bits_line}
use Rattle.lin_export.proofs.cluster_lists.maps.put_bytes.Given as goal

abbrev pub invariant-loop-byte : goal.invariant-loop-byte
invariant-loop-byte g l = Grows g.W.Write.contents l.initial.out l.out (flat_map (bits_line l.fn.layout l.fn.frame) (numbers l.byte))
