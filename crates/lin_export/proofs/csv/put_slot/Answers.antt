use Rattle.std.proofs.Common.{◌∷◌, sym}
use Rattle.lin_core.specs.History.{seen_of}
use Rattle.lin_text.proofs.Growing.{grows-more, same-growth}
use Rattle.lin_export.specs.Csv.{marked_cell, nodes_cell, response_cells, schedule_cells}
use Rattle.lin_export.specs.Open.{tracked_slot}
use Rattle.lin_export.proofs.Rows.{flat-append}
use Rattle.lin_export.proofs.csv.put_slot.Goals as goal

pub returns : goal.returns
returns g c =
    let x = c.args.cluster.now in
    let s = tracked_slot c.args.slot.now in
    same-growth
    (rw (c.puts.ensures, c.look.ensures)
    (sym (flat-append (marked_cell c.args.mark.now) (schedule_cells x c.args.at s) (nodes_cell x s.puts ∷ response_cells (seen_of s)))))
    (grows-more c.put_schedule.ensures (grows-more c.put_nodes.ensures c.put_response.ensures))
