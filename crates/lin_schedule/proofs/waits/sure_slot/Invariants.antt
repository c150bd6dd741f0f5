use Rattle.std.proofs.Common.{◌≡◌, ℕ, ◌<◌, false}
use Rattle.lin_parts.specs.Cluster.{line_of}
use Rattle.lin_schedule.specs.Excursions.{AreExcursions}
use Rattle.lin_schedule.specs.Rounds.{is_sure}
use Rattle.lin_schedule.proofs.waits.sure_slot.Given as goal

abbrev pub invariant-loop-slot : goal.invariant-loop-slot
invariant-loop-slot l =
    (n : ℕ) → AreExcursions l.cluster l.awaited n l.excursions
    → (i : ℕ) → i < l.slot → is_sure l.cluster l.awaited (line_of l.cluster l.table i).entry ≡ false
