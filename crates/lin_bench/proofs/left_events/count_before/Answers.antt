use Rattle.std.proofs.Common.{◌≡◌, ◌+◌, ap, arith, take}
use Rattle.std.specs.Prelude.{count_by, flat_map}
use Rattle.lin_core.specs.History.{events}
use Rattle.lin_bench.specs.Verdicts.{is_of_kind}
use Rattle.lin_bench.proofs.Events.{with-entry}
use Rattle.lin_bench.proofs.left_events.count_before.Goals as goal

pub loop-index-preserved : goal.loop-index-preserved
loop-index-preserved c =
    let es = c.args.log.now.entries in
    let i = c.loop-index.index in
    let more = with-entry c.args.kind es i c.entry.result.now c.events_of.result.now (omega arith) c.entry.ensures c.events_of.ensures in
    record {
      count = omega (arith, c.loop-index.invariant.count, more, c.count_of.ensures);
      few = omega (arith, c.loop-index.invariant.few, c.count_of.type_inv);
    }

pub returns : goal.returns
returns c =
    let es = c.args.log.now.entries in
    let end : c.loop-index.index ≡ c.args.place.entry = omega arith in
    let all = ap (λ n. count_by (is_of_kind c.args.kind) (flat_map events (take n es))) end in
    omega (arith, c.loop-index.invariant.count, all)
