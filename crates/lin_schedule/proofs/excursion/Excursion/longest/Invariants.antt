use Rattle.std.proofs.Common.{◌≡◌, max, take}
use Rattle.lin_schedule.specs.Excursions.{longest_open}
use Rattle.lin_schedule.specs.Rounds.{after_of}
use Rattle.lin_schedule.proofs.excursion.Excursion.longest.Given as goal

abbrev pub invariant-loop-open : goal.invariant-loop-open
invariant-loop-open l =
    l.longest ≡ max l.self.within (longest_open (take l.open l.self.starts.items) l.wanted (after_of l.after.times.now l.after.slots l.after.place))
