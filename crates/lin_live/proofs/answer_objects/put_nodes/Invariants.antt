use Rattle.std.proofs.Common.{map}
use Rattle.lin_frame.specs.Words.{numbers}
use Rattle.lin_text.specs.Written.{Grows}
use Rattle.lin_export.specs.Json.{with_commas}
use Rattle.lin_live.specs.Values.{node_value}
use Rattle.lin_live.proofs.answer_objects.put_nodes.Given as goal

abbrev pub invariant-loop-node : goal.invariant-loop-node
invariant-loop-node g l = Grows g.W.Write.contents l.initial.out l.out (with_commas (map (node_value l.cluster) (numbers l.node)))
