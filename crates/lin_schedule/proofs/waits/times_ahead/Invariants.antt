use Rattle.std.proofs.Common.{◌≡◌, ◌*◌, ◌≤◌, length}
use Rattle.std.specs.Prelude.{All}
use Rattle.lin_schedule.proofs.Rounds.{times_upto}
use Rattle.lin_schedule.proofs.waits.times_ahead.Given as goal

abbrev pub invariant-loop-made : goal.invariant-loop-made
invariant-loop-made l =
    (l.times.items ≡ times_upto l.cluster l.awaited l.last.table l.last.slot l._made)
    × All (λ time. time ≤ length l.times.items * 1025000000000) l.times.items
