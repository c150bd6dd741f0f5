use Rattle.std.proofs.Common.{sym, ◌∙◌}
use Rattle.lin_parts.specs.Cluster.{table_of}
use Rattle.lin_schedule.proofs.Rounds.{next_time-parts}
use Rattle.lin_schedule.proofs.waits.next_time.Goals as goal

pub returns-clause-value : goal.returns-clause-value
returns-clause-value c = λ n xs.
    c.ahead_of.ensures.value c.args.cluster.now n (xs, c.line_at.ensures.there)
    ∙ next_time-parts c.args.cluster.now c.args.awaited.now c.args.last.table c.args.last.slot c.args.times.now c.line_at.result c.entries-slots.result
    c.back_from-slot.result c.after.result.slots c.after.result.place c.after.result.times.now c.entries-slots.ensures.number
    c.back_from-slot.ensures.value c.line_at.ensures.line c.after.ensures.times c.after.ensures.slots
    (c.after.ensures.place (table_of c.args.cluster.now c.args.last.table) (sym c.entries-slots.ensures.number))
