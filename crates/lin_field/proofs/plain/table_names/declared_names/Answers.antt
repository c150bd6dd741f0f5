use Rattle.lin_field.proofs.PlainNames.{added, joined}
use Rattle.lin_field.proofs.plain.table_names.declared_names.Goals as goal

pub returns : goal.returns
returns c =
    joined _ _ _ _ _ c.in_ok-names.ensures
    (added _ _ _ _ _ c.in_ok-add_names.ensures c.signals.ensures)
    (added _ _ _ _ _ c.in_ok-add_names-2.ensures c.frames.ensures)
    (added _ _ _ _ _ c.in_ok-add_names-3.ensures c.sporadic.ensures)
    (added _ _ _ _ _ c.in_ok-add_names-4.ensures c.events.ensures)
    (added _ _ _ _ _ c.in_ok-add_names-5.ensures c.tables.ensures)
