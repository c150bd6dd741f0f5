use Rattle.std.proofs.Common.{drop, refl}
use Rattle.lin_parts.specs.Cluster.{nodes}
use Rattle.lin_threads.proofs.LaneLemmas.{at_lane, all_serve, same_wirings, in_order, told_more_lanes}
use Rattle.lin_threads.proofs.RoundLemmas.{prefix_same}
use Rattle.lin_threads.proofs.TellLemmas.{told_until}
use Rattle.lin_threads.proofs.SettleLemmas.{passed_set, settled_given, settled_lanes}
use Rattle.lin_threads.specs.Ports.{receipt_wiring}
use Rattle.lin_threads.proofs.ports.pump.Pump.tell.Goals as goal

pub invariant_of-self : goal.invariant_of-self
invariant_of-self c =
    let p = c.args.self.now in
    let lane = c.index_mut-lane.result.now in
    let at = at_lane p c.args.i lane c.requires c.index_mut-lane.ensures.value in
    record {
      begun = p.begun;
      count = p.count;
      few = p.few;
      serves = all_serve p.base p.core.log p.core.log p.lanes.items c.args.i c.tell.new.self p.serves (c.tell.ensures.serves p.base (p.serves c.args.i lane at)) (λ j l n here s. s);
      order = in_order (nodes p.core.cluster) p.lanes.items c.args.i lane c.tell.new.self at c.tell.ensures.same p.order;
      own = p.own;
    }

pub returns-clause-pump : goal.returns-clause-pump
returns-clause-pump c =
    let p = c.args.self.now in
    let at = at_lane p c.args.i c.index_mut-lane.result.now c.requires c.index_mut-lane.ensures.value in
    record { ports = same_wirings p.lanes.items c.args.i c.index_mut-lane.result.now c.tell.new.self at c.tell.ensures.same.wiring; alike = (refl, refl, refl); start = refl; log = prefix_same p.core.log p.core.log refl }

pub returns-clause-stays : goal.returns-clause-stays
returns-clause-stays c r s =
    let p = c.args.self.now in
    let lane = c.index_mut-lane.result.now in
    let at = at_lane p c.args.i lane c.requires c.index_mut-lane.ensures.value in
    let same = c.tell.ensures.same in (
      settled_lanes _ p.lanes.items _ r (passed_set p.lanes.items c.args.i lane c.tell.new.self (receipt_wiring r) at same s.passed) s,
      settled_given (nodes p.core.cluster) c.args.i p.lanes.items lane c.tell.new.self (receipt_wiring r) p.order at same c.tell.ensures.settled s.passed,
    )

pub returns-clause-told : goal.returns-clause-told
returns-clause-told c first =
    let p = c.args.self.now in
    let lane = c.index_mut-lane.result.now in
    let told = c.tell.ensures in
    let serves = told.serves p.base (p.serves c.args.i lane (at_lane p c.args.i lane c.requires c.index_mut-lane.ensures.value)) in
    told_more_lanes c.tell.result (drop p.base p.core.log) p.lanes.items c.args.i c.tell.new.self first (told_until p.base p.core.log c.tell.new.self c.tell.result serves told.until)
