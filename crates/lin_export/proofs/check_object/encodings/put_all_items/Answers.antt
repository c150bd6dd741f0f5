use Rattle.std.proofs.Common.{List, ℕ, sym, arith}
use Rattle.lin_text.proofs.Growing.{grows-more, same-growth}
use Rattle.lin_values.specs.declared.codings.PlacedItem.{PlacedItem}
use Rattle.lin_export.specs.ClusterObject.{item_object}
use Rattle.lin_export.proofs.Objects.{joined-more}
use Rattle.lin_export.proofs.check_object.encodings.put_all_items.Goals as goal

pub loop-place-preserved : goal.loop-place-preserved
loop-place-preserved g c =
    let says : PlacedItem → List ℕ = λ p. item_object p.item in
    same-growth (sym (joined-more says c.args.items.now c.loop-place.place c.index-items-place.result (omega arith)))
    (grows-more c.loop-place.invariant (grows-more c.put_separator.ensures c.put_item.ensures))
