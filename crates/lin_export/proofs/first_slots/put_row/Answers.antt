use Rattle.std.proofs.Common.{◌∷◌, ◌++◌, [], ap, sym, append_assoc, flat_map}
use Rattle.std.specs.Prelude.{codes}
use Rattle.std.specs.Fmt.{decimal}
use Rattle.lin_text.proofs.Growing.{grows-more, same-growth}
use Rattle.lin_export.specs.Csv.{marked_cell, slot_cells}
use Rattle.lin_export.specs.Open.{tracked_slot}
use Rattle.lin_export.proofs.first_slots.put_row.Goals as goal

pub returns : goal.returns
returns g c =
    let t = c.args.track.now in
    let cell = marked_cell (codes "<td>") in
    let cells = slot_cells c.args.cluster.now t.time (tracked_slot c.args.slot.now) in
    same-growth
    (rw (c.slots.ensures, c.time.ensures) (ap (λ l. codes "<tr>" ++ l) (sym (append_assoc (cell (decimal t.slots)) (flat_map cell cells) (10 ∷ [])))))
    (grows-more c.put.ensures (grows-more c.put_next.ensures (grows-more c.put_slot.ensures c.put_byte.ensures)))
