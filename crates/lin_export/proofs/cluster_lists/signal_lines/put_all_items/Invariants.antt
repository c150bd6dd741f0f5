use Rattle.std.proofs.Common.{flat_map, take}
use Rattle.lin_text.specs.Written.{Grows}
use Rattle.lin_export.specs.ListedSignals.{item_line}
use Rattle.lin_values.specs.declared.codings.PlacedItem.{PlacedItem}
use Rattle.lin_export.proofs.cluster_lists.signal_lines.put_all_items.Given as goal

abbrev pub invariant-loop-one : goal.invariant-loop-one
invariant-loop-one g l = Grows g.W.Write.contents l.initial.out l.out (flat_map (λ (p : PlacedItem). item_line l.has_numbers l.signal p.item) (take l.one-index l.items))
