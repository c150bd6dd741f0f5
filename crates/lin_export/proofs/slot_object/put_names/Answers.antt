use Rattle.std.proofs.Common.{sym, arith}
use Rattle.lin_text.proofs.Growing.{grows-more, same-growth}
use Rattle.lin_export.specs.Jsonl.{node_text}
use Rattle.lin_export.proofs.Objects.{joined-more}
use Rattle.lin_export.proofs.slot_object.put_names.Goals as goal

pub loop-place-preserved : goal.loop-place-preserved
loop-place-preserved g c =
    same-growth (sym (joined-more (node_text c.args.cluster.now) c.args.which.now c.loop-place.place 0 (omega arith)))
    (grows-more c.loop-place.invariant (grows-more c.put_separator.ensures c.put_node.ensures))
