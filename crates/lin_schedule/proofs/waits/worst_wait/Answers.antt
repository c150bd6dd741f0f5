use Rattle.std.proofs.Common.{ℕ, List, Option, length, sym, subst}
use Rattle.lin_parts.specs.Cluster.{table_of}
use Rattle.lin_schedule.specs.Ahead.{AreTimesAhead}
use Rattle.lin_schedule.specs.Excursions.{AreExcursions}
use Rattle.lin_schedule.specs.Rounds.{times_in}
use Rattle.lin_schedule.specs.Walk.{IsLongestWait}
use Rattle.lin_schedule.specs.declared.excursion.Excursion.{Excursion}
use Rattle.lin_schedule.proofs.Endless.{endless}
use Rattle.lin_schedule.proofs.Greatest.{greatest-wait}
use Rattle.lin_schedule.proofs.waits.worst_wait.Goals as goal

pub times_ahead-requires-clause-last : goal.times_ahead-requires-clause-last
times_ahead-requires-clause-last c =
    let each : AreExcursions c.args.cluster.now c.args.awaited.now c.args.count c.as_slice-excursions.result.now =
    subst (λ (xs : List (Option Excursion)). AreExcursions c.args.cluster.now c.args.awaited.now c.args.count xs)
    (sym c.as_slice-excursions.ensures.value) c.in_ok-excursions.ensures.each in
    (rw c.in-Some.is at (c.sure_slot.ensures c.args.count each)).0

pub times_ahead-requires-clause-sure : goal.times_ahead-requires-clause-sure
times_ahead-requires-clause-sure c =
    let each : AreExcursions c.args.cluster.now c.args.awaited.now c.args.count c.as_slice-excursions.result.now =
    subst (λ (xs : List (Option Excursion)). AreExcursions c.args.cluster.now c.args.awaited.now c.args.count xs)
    (sym c.as_slice-excursions.ensures.value) c.in_ok-excursions.ensures.each in
    (rw c.in-Some.is at (c.sure_slot.ensures c.args.count each)).1

pub returns-in-Some : goal.returns-in-Some
returns-in-Some c =
    let slots : ℕ = length (table_of c.args.cluster.now c.args.table) in
    let each : AreExcursions c.args.cluster.now c.args.awaited.now c.args.count c.as_slice-excursions.result.now =
    subst (λ (xs : List (Option Excursion)). AreExcursions c.args.cluster.now c.args.awaited.now c.args.count xs)
    (sym c.as_slice-excursions.ensures.value) c.in_ok-excursions.ensures.each in
    let known : AreTimesAhead c.args.cluster.now c.args.table c.args.awaited.now c.args.count (times_in slots c.in-Some.slot c.as_slice-times.result.now) =
    subst (λ (xs : List ℕ). AreTimesAhead c.args.cluster.now c.args.table c.args.awaited.now c.args.count (times_in slots c.in-Some.slot xs))
    (sym c.as_slice-times.ensures.value) c.in_ok-times-in-Some.ensures.times in
    subst (λ (worst : ℕ). IsLongestWait c.args.cluster.now c.args.table c.args.awaited.now c.args.count worst)
    (sym (c.longest_wait.ensures c.args.awaited.now each))
    (greatest-wait c.args.cluster.now c.sound.ensures.rules c.args.table c.requires.table c.args.awaited.now c.args.count c.requires.some
    (times_in slots c.in-Some.slot c.as_slice-times.result.now) known)

pub returns : goal.returns
returns c =
    let each : AreExcursions c.args.cluster.now c.args.awaited.now c.args.count c.as_slice-excursions.result.now =
    subst (λ (xs : List (Option Excursion)). AreExcursions c.args.cluster.now c.args.awaited.now c.args.count xs)
    (sym c.as_slice-excursions.ensures.value) c.in_ok-excursions.ensures.each in
    endless c.args.cluster.now c.sound.ensures.rules c.args.table c.requires.table c.args.awaited.now
    (rw c.in-None.is at (c.sure_slot.ensures c.args.count each)) c.args.count c.requires.some
