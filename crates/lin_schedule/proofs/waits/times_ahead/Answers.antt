use Rattle.std.proofs.Common.{◌≡◌, ℕ, ◌*◌, ◌<◌, length, ap, subst, arith}
use Rattle.lin_parts.specs.Cluster.{table_of}
use Rattle.lin_schedule.proofs.Rounds.{rows-AreRows, rows-first, rows-few, rows-none, rows-times, rows-push, rows-short}
use Rattle.lin_schedule.proofs.waits.times_ahead.Goals as goal

pub next_time-time-requires-clause-rows : goal.next_time-time-requires-clause-rows
next_time-time-requires-clause-rows c =
    let lt : c.loop-made._made < length (table_of c.args.cluster.now c.args.last.table) * c.args.count =
    subst (λ (x : ℕ). c.loop-made._made < x * c.args.count) c.entries-slots.ensures.number c.loop-made-test.true in
    rw c.as_slice.ensures.value
    (rows-AreRows c.args.cluster.now c.args.awaited.now c.args.last.table c.args.last.slot c.loop-made._made c.args.count c.loop-made.times.items
    c.loop-made.invariant.0 (omega arith) c.requires.few (omega (arith, c.entries-slots.ensures.number, c.entries-slots.ensures.few))
    c.requires.last c.loop-made.invariant.1)

pub next_time-time-requires-clause-first : goal.next_time-time-requires-clause-first
next_time-time-requires-clause-first c =
    rw c.as_slice.ensures.value
    (rows-first c.args.cluster.now c.args.awaited.now c.args.last.table c.args.last.slot c.loop-made._made c.loop-made.times.items c.loop-made.invariant.0)

pub next_time-time-requires-clause-few : goal.next_time-time-requires-clause-few
next_time-time-requires-clause-few c =
    let lt : c.loop-made._made < length (table_of c.args.cluster.now c.args.last.table) * c.args.count =
    subst (λ (x : ℕ). c.loop-made._made < x * c.args.count) c.entries-slots.ensures.number c.loop-made-test.true in
    rw c.as_slice.ensures.value
    (rows-few c.args.cluster.now c.args.awaited.now c.args.last.table c.args.last.slot c.loop-made._made c.args.count c.loop-made.times.items
    c.loop-made.invariant.0 lt c.requires.few)

pub next_time-time-requires-clause-done : goal.next_time-time-requires-clause-done
next_time-time-requires-clause-done c =
    rw c.as_slice.ensures.value
    (rows-none c.args.cluster.now c.args.awaited.now c.args.last.table c.args.last.slot c.loop-made._made c.loop-made.times.items c.loop-made.invariant.0)

pub loop-made-preserved : goal.loop-made-preserved
loop-made-preserved c = (
  rows-push c.args.cluster.now c.args.awaited.now c.args.last.table c.args.last.slot c.loop-made._made c.loop-made.times.items c.as_slice.result.now
      c.push.new.self.items c.next_time-time.result c.loop-made.invariant.0 c.as_slice.ensures.value
      (c.next_time-time.ensures.value c.args.count c.requires.excursions) c.in_ok-push.ensures.items,
  rows-short c.loop-made.times.items c.as_slice.result.now c.push.new.self.items c.next_time-time.result c.loop-made.invariant.1
      c.as_slice.ensures.value c.next_time-time.ensures.short c.in_ok-push.ensures.items,
)

pub returns-clause-times : goal.returns-clause-times
returns-clause-times c =
    let slots : ℕ = length (table_of c.args.cluster.now c.args.last.table) in
    let all : c.entries-slots.result * c.args.count ≡ slots * c.args.count = ap (λ (x : ℕ). x * c.args.count) c.entries-slots.ensures.number in
    rows-times c.args.cluster.now c.args.awaited.now c.args.last.table c.args.last.slot c.loop-made._made c.args.count c.loop-made.times.items
    c.loop-made.invariant.0 (omega (arith, all, c.loop-made-test.false, c.loop-made.auto._made-end)) c.requires.last c.requires.sure

pub returns-clause-rows : goal.returns-clause-rows
returns-clause-rows c =
    let slots : ℕ = length (table_of c.args.cluster.now c.args.last.table) in
    let all : c.entries-slots.result * c.args.count ≡ slots * c.args.count = ap (λ (x : ℕ). x * c.args.count) c.entries-slots.ensures.number in
    rows-AreRows c.args.cluster.now c.args.awaited.now c.args.last.table c.args.last.slot c.loop-made._made c.args.count c.loop-made.times.items
    c.loop-made.invariant.0 (omega (arith, all, c.loop-made.auto._made-end)) c.requires.few
    (omega (arith, c.entries-slots.ensures.number, c.entries-slots.ensures.few)) c.requires.last c.loop-made.invariant.1

pub returns-clause-done : goal.returns-clause-done
returns-clause-done c =
    rows-none c.args.cluster.now c.args.awaited.now c.args.last.table c.args.last.slot c.loop-made._made c.loop-made.times.items c.loop-made.invariant.0
