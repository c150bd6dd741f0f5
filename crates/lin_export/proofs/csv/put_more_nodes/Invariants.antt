use Rattle.std.proofs.Common.{take, flat_map}
use Rattle.lin_text.specs.Written.{Grows}
use Rattle.lin_export.specs.Csv.{spaced_name}
use Rattle.lin_export.proofs.csv.put_more_nodes.Given as goal

abbrev pub invariant-loop-put : goal.invariant-loop-put
invariant-loop-put g l = Grows g.W.Write.contents l.initial.out l.out (flat_map (spaced_name l.cluster) (take l.put-index l.puts))
