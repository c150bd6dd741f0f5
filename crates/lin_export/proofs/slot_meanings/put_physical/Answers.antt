use Rattle.lin_export.specs.Jsonl.{column_member}
use Rattle.lin_export.specs.Open.{tracked_slot}
use Rattle.lin_export.specs.declared.slot_meanings.Column.TheVariants.{Quantities, Texts}
use Rattle.lin_export.proofs.Objects.{puts-more, puts-one}
use Rattle.lin_export.proofs.slot_meanings.put_physical.Goals as goal

pub returns-in-Some : goal.returns-in-Some
returns-in-Some g c =
    let x = c.args.cluster.now in
    let k = c.in-Some.coded.now in
    let s = tracked_slot c.args.slot.now in
    rw c.in-Some.is (puts-more (puts-one (column_member Texts x k s) c.put_column.ensures) (puts-one (column_member Quantities x k s) c.put_column-in-Some.ensures)).text
