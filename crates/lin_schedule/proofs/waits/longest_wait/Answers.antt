use Rattle.std.proofs.Common.{◌≡◌, ℕ, max, ap, sym, ◌∙◌, add-one}
use Rattle.lin_parts.specs.Cluster.{table_of}
use Rattle.lin_schedule.specs.Rounds.{greatest, longest_of}
use Rattle.lin_schedule.proofs.Rounds.{longest_of-parts}
use Rattle.lin_schedule.proofs.waits.longest_wait.Goals as goal

pub loop-slot-preserved : goal.loop-slot-preserved
loop-slot-preserved c = λ k xs.
    let f : ℕ → ℕ = longest_of c.args.cluster.now k c.args.last.table c.args.last.slot c.args.count c.args.times.now in
    let here : c.longest_from.result ≡ f c.loop-slot.slot =
    c.longest_from.ensures c.args.cluster.now k (xs, c.line_at-line.ensures.there)
    ∙ longest_of-parts c.args.cluster.now k c.args.last.table c.args.last.slot c.args.count c.args.times.now c.line_at-line.result c.entries-slots.result
    c.loop-slot.slot c.after-after.result.slots c.after-after.result.place c.after-after.result.times.now c.entries-slots.ensures.number
    c.line_at-line.ensures.line c.after-after.ensures.times c.after-after.ensures.slots
    (c.after-after.ensures.place (table_of c.args.cluster.now c.args.last.table) (sym c.entries-slots.ensures.number)) in
    c.max-longest.ensures
    ∙ ap (λ (x : ℕ). max x c.longest_from.result) (c.loop-slot.invariant k xs)
    ∙ ap (λ (x : ℕ). max (greatest f c.loop-slot.slot) x) here
    ∙ ap (greatest f) (sym (add-one c.loop-slot.slot))
