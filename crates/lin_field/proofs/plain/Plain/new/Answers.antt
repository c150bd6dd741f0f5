use Rattle.std.proofs.Common.{◌∙◌, ap}
use Rattle.lin_field.specs.Plain.{parts}
use Rattle.lin_field.proofs.plain.Plain.new.Goals as goal

pub invariant_of-result : goal.invariant_of-result
invariant_of-result c =
    let all = c.in_ok-parts.ensures ∙ ap parts c.behind_head.ensures in (
      all,
      rw (c.as_slice.ensures.value, c.as_slice-2.ensures.value, all, c.in_ok-nodes.ensures) at c.in_ok-blocks.ensures,
      rw (c.as_slice-3.ensures.value, all) at c.in_ok-tables.ensures,
      rw (c.as_slice-4.ensures.value, c.in_ok-names.ensures, c.tables.ensures) at c.in_ok-table_names.ensures,
      rw (c.as_slice-5.ensures.value, c.in_ok-names.ensures, c.events.ensures) at c.in_ok-event_tables.ensures,
    )
