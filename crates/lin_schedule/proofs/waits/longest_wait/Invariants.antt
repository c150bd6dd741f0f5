use Rattle.std.proofs.Common.{◌≡◌}
use Rattle.lin_schedule.specs.Carriers.{Carriers}
use Rattle.lin_schedule.specs.Excursions.{AreExcursions}
use Rattle.lin_schedule.specs.Rounds.{greatest, longest_of}
use Rattle.lin_schedule.proofs.waits.longest_wait.Given as goal

abbrev pub invariant-loop-slot : goal.invariant-loop-slot
invariant-loop-slot l =
    (k : Carriers) → AreExcursions l.cluster k l.count l.excursions
    → l.longest ≡ greatest (longest_of l.cluster k l.last.table l.last.slot l.count l.times) l.slot
