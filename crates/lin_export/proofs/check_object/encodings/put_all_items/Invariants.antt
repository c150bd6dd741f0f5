use Rattle.std.proofs.Common.{take, map}
use Rattle.lin_text.specs.Written.{Grows}
use Rattle.lin_export.specs.ClusterObject.{item_object}
use Rattle.lin_export.specs.Json.{with_commas}
use Rattle.lin_export.proofs.check_object.encodings.put_all_items.Given as goal

abbrev pub invariant-loop-place : goal.invariant-loop-place
invariant-loop-place g l = Grows g.W.Write.contents l.initial.out l.out (with_commas (map (λ p. item_object p.item) (take l.place l.items)))
