use Rattle.std.proofs.Common.{List, Option, sym, subst}
use Rattle.lin_schedule.specs.Spacing.{AreStretches}
use Rattle.lin_schedule.specs.declared.spacing.Stretch.{Stretch}
use Rattle.lin_schedule.proofs.Spaced.{answered}
use Rattle.lin_schedule.proofs.spacing.gaps.Goals as goal

pub returns-in_ok-stretches-in-Some : goal.returns-in_ok-stretches-in-Some
returns-in_ok-stretches-in-Some c =
    let own = rw c.in-Some.is at c.first_own.ensures in
    let each : AreStretches c.args.cluster.now c.args.frame c.as_slice.result.now =
    subst (λ (xs : List (Option Stretch)). AreStretches c.args.cluster.now c.args.frame xs)
    (sym c.as_slice.ensures.value) c.in_ok-stretches-in-Some.ensures.each in
    answered c.args.cluster.now c.sound.ensures.rules c.args.table c.requires c.args.frame c.in-Some.own own.0 own.1
    c.gaps_from.result (c.gaps_from.ensures each)
