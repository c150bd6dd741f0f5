use Rattle.std.proofs.Common.{◌≡◌, ℕ, ◌<◌, length, None}
use Rattle.std.specs.Prelude.{slice_index_or}
use Rattle.lin_parts.specs.declared.parts.Entry.TheVariants.{Event}
use Rattle.lin_schedule.specs.Excursions.{HaveSmallSums, IsExcursionOf}
use Rattle.lin_schedule.proofs.excursion.excursions.Given as goal

abbrev pub invariant-loop-event : goal.invariant-loop-event
invariant-loop-event l =
    (length l.all.items ≡ l.event)
    × ((e : ℕ) → e < length l.all.items → IsExcursionOf l.cluster l.awaited l.count (Event e) (slice_index_or l.all.items e None))
    × HaveSmallSums l.all.items
