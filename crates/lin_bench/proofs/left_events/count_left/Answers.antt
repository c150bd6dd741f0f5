use Rattle.std.proofs.Common.{ap, arith}
use Rattle.std.specs.Prelude.{count_by}
use Rattle.lin_core.specs.History.{events}
use Rattle.lin_bench.specs.Verdicts.{is_of_kind}
use Rattle.lin_bench.specs.declared.taken.LogPlace.{LogPlace}
use Rattle.lin_bench.proofs.Events.{events-of-log}
use Rattle.lin_bench.proofs.LeftEvents.{taken-at-most}
use Rattle.lin_bench.proofs.left_events.count_left.Goals as goal

pub overflow_sub-result : goal.overflow_sub-result
overflow_sub-result c =
    let count = rw c.last_end-end.ensures at c.count_from.ensures.count in
    let behind = ap (λ (p : LogPlace). p.events) c.last_end-end.ensures in
    omega (arith, count, behind, taken-at-most c.args.log.now.entries c.args.taken.now c.args.kind c.requires.known)

pub returns-clause-count : goal.returns-clause-count
returns-clause-count c =
    let es = c.args.log.now.entries in
    let kind = c.args.kind in
    let count = rw c.last_end-end.ensures at c.count_from.ensures.count in
    let all = ap (count_by (is_of_kind kind)) (events-of-log es) in
    let behind = ap (λ (p : LogPlace). p.events) c.last_end-end.ensures in
    omega (arith, count, all, behind, c.requires.known.taken kind)
