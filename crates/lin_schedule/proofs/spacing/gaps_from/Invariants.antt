use Rattle.std.proofs.Common.{◌≡◌, ◌≤◌, ◌*◌}
use Rattle.lin_schedule.specs.Spacing.{AreStretches, least_before, most_before, gaps_after}
use Rattle.lin_schedule.proofs.spacing.gaps_from.Given as goal

abbrev pub invariant-loop-back : goal.invariant-loop-back
invariant-loop-back l = record {
  shortest : l.walked.next.shortest ≤ 1025000000000 * l.back;
  longest : l.walked.next.longest ≤ 1025000000000 * l.back;
  known : AreStretches l.cluster l.frame l.stretches
      → (l.walked.next.shortest ≡ least_before l.cluster l.table l.frame l.own l.back)
      × (l.walked.next.longest ≡ most_before l.cluster l.table l.frame l.own l.back)
      × (l.walked.gaps ≡ gaps_after l.cluster l.table l.frame l.own l.back);
}
