use Rattle.std.proofs.Common.{take, map}
use Rattle.lin_text.specs.Written.{Grows}
use Rattle.lin_parts.specs.Cluster.{frame_name}
use Rattle.lin_export.specs.Json.{quoted_text}
use Rattle.lin_export.specs.Json.{with_commas}
use Rattle.lin_export.proofs.check_object.frame_objects.put_members_of.Given as goal

abbrev pub invariant-loop-place : goal.invariant-loop-place
invariant-loop-place g l = Grows g.W.Write.contents l.initial.out l.out (with_commas (map (λ f. quoted_text (frame_name l.fn.cluster f)) (take l.place l.frames)))
