use Rattle.std.proofs.Common.{inr, refl, subst, ◌∙◌}
use Rattle.lin_parts.specs.Cluster.{nodes}
use Rattle.lin_parts.specs.Sound.{IsSound}
use Rattle.lin_threads.specs.Ports.{receipt_id, receipt_wiring}
use Rattle.lin_threads.proofs.GivenLemmas.{given_set}
use Rattle.lin_threads.proofs.LaneLemmas.{at_lane, port_of-same, all_serve, same_wirings, in_order, slice_get-set_same}
use Rattle.lin_threads.proofs.RoundLemmas.{prefix_same}
use Rattle.lin_threads.proofs.SettleLemmas.{wired_at, wired_none, kept_same, kept_serves, passed_set, settled_lanes, settles_at}
use Rattle.lin_threads.proofs.ports.pump.Pump.settle.Goals as goal

pub settle-requires : goal.settle-requires
settle-requires c =
    let p = c.args.self.now in
    let lane = c.index_mut-lane.result.now in
    let at = at_lane p c.in-Some.i lane c.in-Some.ensures.some.0 c.index_mut-lane.ensures.value in
    wired_at p (receipt_wiring c.args.receipt) c.in-Some.i lane c.requires at (c.in-Some.ensures.some.1 ∙ c.id.ensures)

pub unreachable-requires : goal.unreachable-requires
unreachable-requires c = wired_none c.args.self.now (receipt_wiring c.args.receipt) c.requires c.id.result c.id.ensures c.in-None.ensures.none

pub invariant_of-self : goal.invariant_of-self
invariant_of-self c =
    let p = c.args.self.now in
    let lane = c.index_mut-lane.result.now in
    let i = c.in-Some.i in
    let at = at_lane p i lane c.in-Some.ensures.some.0 c.index_mut-lane.ensures.value in
    let kept = c.settle.ensures.kept in
    record {
      begun = p.begun;
      count = p.count;
      few = p.few;
      serves = all_serve p.base p.core.log p.core.log p.lanes.items i c.settle.new.self p.serves (kept_serves p.base p.core.log lane c.settle.new.self kept (p.serves i lane at)) (λ j l n here s. s);
      order = in_order (nodes p.core.cluster) p.lanes.items i lane c.settle.new.self at (kept_same lane c.settle.new.self kept) p.order;
      own = p.own;
    }

pub returns-clause-settles : goal.returns-clause-settles
returns-clause-settles c =
    let p = c.args.self.now in
    let lane = c.index_mut-lane.result.now in
    let i = c.in-Some.i in
    let at = at_lane p i lane c.in-Some.ensures.some.0 c.index_mut-lane.ensures.value in
    settles_at _ i lane c.settle.new.self c.args.receipt c.settle.result (subst IsSound c.cluster.ensures c.sound.ensures.sound) c.log.ensures.history (slice_get-set_same p.lanes.items i lane c.settle.new.self at) c.settle.ensures.kept
    (wired_at p (receipt_wiring c.args.receipt) i lane c.requires at (c.in-Some.ensures.some.1 ∙ c.id.ensures)) c.settle.ensures.settles

pub returns-clause-pump : goal.returns-clause-pump
returns-clause-pump c =
    let p = c.args.self.now in
    let lane = c.index_mut-lane.result.now in
    let at = at_lane p c.in-Some.i lane c.in-Some.ensures.some.0 c.index_mut-lane.ensures.value in
    record { ports = same_wirings p.lanes.items c.in-Some.i lane c.settle.new.self at c.settle.ensures.kept.wiring; alike = (refl, refl, refl); start = refl; log = prefix_same p.core.log p.core.log refl }

pub returns-clause-stays : goal.returns-clause-stays
returns-clause-stays c r s =
    let p = c.args.self.now in
    let lane = c.index_mut-lane.result.now in
    let i = c.in-Some.i in
    let at = at_lane p i lane c.in-Some.ensures.some.0 c.index_mut-lane.ensures.value in (
      settled_lanes _ p.lanes.items _ r (passed_set p.lanes.items i lane c.settle.new.self (receipt_wiring r) at (kept_same lane c.settle.new.self c.settle.ensures.kept) s.passed) s,
      given_set p.lanes.items i lane c.settle.new.self (receipt_id r) at (port_of-same lane c.settle.new.self (kept_same lane c.settle.new.self c.settle.ensures.kept)) (inr c.settle.ensures.kept.notes),
    )
