use Rattle.std.proofs.Common.{◌≡◌, ◌∙◌, ap, arith, reverse, sym}
use Rattle.std.specs.Prelude.{slice_index}
use Rattle.lin_bench.specs.Arrivals.{precedes}
use Rattle.lin_bench.specs.Verdicts.{times_taken}
use Rattle.lin_bench.proofs.Walks.{found-time, no-time}
use Rattle.lin_bench.proofs.arrivals.time_taken.Goals as goal

pub returns-in-Ok : goal.returns-in-Ok
returns-in-Ok c =
    let cl = c.args.cluster.now in
    let q = (precedes c.args.earlier) in
    let a = c.args.answer in
    let es = c.args.log.now.entries in
    let i = c.loop-index.index in
    let e = c.entry-entry.result.now in
    sym (ap (slice_index (times_taken cl q a (reverse es))) (sym c.loop-index.invariant.same)
    ∙ found-time cl q a es i e c.events_of.result.now c.loop-index.skip c.in-Ok.field-0.0.now (omega arith) c.entry-entry.ensures c.events_of.ensures c.in-Ok.ensures.0
    ∙ sym (c.time_since.ensures e c.entry-entry.ensures))

pub returns : goal.returns
returns c =
    let q = (precedes c.args.earlier) in
    let a = c.args.answer in
    let es = c.args.log.now.entries in
    let i = c.loop-index.index in
    sym (ap (slice_index (times_taken c.args.cluster.now q a (reverse es))) (sym c.loop-index.invariant.same) ∙ no-time c.args.cluster.now q a es i c.loop-index.skip (omega arith))
