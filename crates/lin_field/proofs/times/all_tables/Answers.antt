use Rattle.std.proofs.Common.{ap, sym, ◌∙◌, append-nil}
use Rattle.lin_parts.specs.declared.description.Description.{Description}
use Rattle.lin_field.specs.Times.{is_timed, member_tables, timed_tables}
use Rattle.lin_field.proofs.Untimed.{untimed-tables, untimed-warnings}
use Rattle.lin_field.proofs.times.all_tables.Goals as goal

pub loop-table-init : goal.loop-table-init
loop-table-init c = record {
  made = sym (append-nil c.in_ok-timed.timed.items);
  whole =
      c.into_iter-table-iterator.ensures.into_iter_gives.0 ∙ c.in_ok-table-items.ensures
      ∙ ap (member_tables c.in_ok-slots.slots) (c.as_slice-2.ensures.value ∙ c.in_ok-timed.ensures.timed)
      ∙ ap (λ (d : Description). member_tables d (timed_tables d c.args.tables.items)) c.in_ok-slots.ensures;
}

pub returns-then-not-is_timed-clause-timed : goal.returns-then-not-is_timed-clause-timed
returns-then-not-is_timed-clause-timed c =
    let d = c.args.description.now in
    untimed-tables d c.args.tables.items
    (sym (c.is_timed.ensures ∙ ap (λ es. is_timed es c.as_slice.result.now) c.events.ensures ∙ ap (is_timed d.events) c.as_slice.ensures.value) ∙ c.if-not-is_timed.true)

pub returns-then-not-is_timed-clause-warned : goal.returns-then-not-is_timed-clause-warned
returns-then-not-is_timed-clause-warned c =
    let d = c.args.description.now in
    untimed-warnings d c.args.tables.items c.args.warned.now.items
    (sym (c.is_timed.ensures ∙ ap (λ es. is_timed es c.as_slice.result.now) c.events.ensures ∙ ap (is_timed d.events) c.as_slice.ensures.value) ∙ c.if-not-is_timed.true)
