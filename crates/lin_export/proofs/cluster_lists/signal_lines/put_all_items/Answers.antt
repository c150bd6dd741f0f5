use Rattle.std.proofs.Common.{arith}
use Rattle.lin_text.proofs.Growing.{grows-next, grows-nothing}
use Rattle.lin_values.specs.declared.codings.PlacedItem.{PlacedItem}
use Rattle.lin_export.specs.ListedSignals.{item_line}
use Rattle.lin_export.proofs.cluster_lists.signal_lines.put_all_items.Goals as goal

pub loop-one-init : goal.loop-one-init
loop-one-init g c = grows-nothing c.args.out.now

pub loop-one-preserved : goal.loop-one-preserved
loop-one-preserved g c =
    grows-next (λ (p : PlacedItem). item_line c.args.has_numbers c.args.signal p.item) c.args.items.now c.loop-one.one-index c.one-item.result c.one-item.is (omega arith) c.loop-one.invariant c.put_item.ensures
