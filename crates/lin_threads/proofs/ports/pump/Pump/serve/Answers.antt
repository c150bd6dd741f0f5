use Rattle.std.proofs.Common.{inr, refl, sym, ◌∙◌, subst}
use Rattle.lin_core.specs.declared.port.PortId.{PortId}
use Rattle.lin_parts.specs.Cluster.{nodes}
use Rattle.lin_threads.specs.Lanes.{Served, port_of}
use Rattle.lin_threads.proofs.PortLemmas.{port_at-apart}
use Rattle.lin_threads.proofs.LaneLemmas.{at_lane, port_of-same, all_serve, served_others, served_longer, served_own, same_wirings, in_order}
use Rattle.lin_threads.proofs.RoundLemmas.{served_prefix}
use Rattle.lin_threads.proofs.SettleLemmas.{served_settled}
use Rattle.lin_threads.proofs.GivenLemmas.{given_set}
use Rattle.lin_threads.specs.Ports.{receipt_id}
use Rattle.lin_threads.proofs.ports.pump.Pump.serve.Goals as goal

pub invariant_of-self : goal.invariant_of-self
invariant_of-self c =
    let p = c.args.self.now in
    let lane = c.index_mut-lane.result.now in
    let at = at_lane p c.args.i lane c.requires c.index_mut-lane.ensures.value in
    let cluster = c.serve.ensures.alike.0 in
    record {
      begun = served_longer p.base _ p.core c.serve.new.core c.serve.result p.begun c.serve.ensures.adds;
      count = rw cluster p.count;
      few = rw cluster p.few;
      serves = all_serve p.base p.core.log c.serve.new.core.log p.lanes.items c.args.i c.serve.new.self p.serves
          (c.serve.ensures.serves p.base (p.serves c.args.i lane at))
          (λ j l n here s. served_others p.base (port_of lane) p.core c.serve.new.core c.serve.result l
          (λ q. n (port_at-apart (nodes p.core.cluster) j c.args.i (sym (p.order j l here) ∙ q ∙ p.order c.args.i lane at))) c.serve.ensures.adds s);
      order = rw cluster (in_order (nodes p.core.cluster) p.lanes.items c.args.i lane c.serve.new.self at c.serve.ensures.same p.order);
      own = served_own p.base _ p.core c.serve.new.core c.serve.result p.begun c.serve.ensures.adds p.own;
    }

pub returns-clause-pump : goal.returns-clause-pump
returns-clause-pump c =
    let p = c.args.self.now in
    let lane = c.index_mut-lane.result.now in
    let at = at_lane p c.args.i lane c.requires c.index_mut-lane.ensures.value in
    record {
      ports = same_wirings p.lanes.items c.args.i lane c.serve.new.self at c.serve.ensures.same.wiring;
      alike = c.serve.ensures.alike;
      start = refl;
      log = served_prefix _ p.core c.serve.new.core c.serve.result c.serve.ensures.adds;
    }

pub returns-clause-adds : goal.returns-clause-adds
returns-clause-adds c =
    let p = c.args.self.now in
    let at = at_lane p c.args.i c.index_mut-lane.result.now c.requires c.index_mut-lane.ensures.value in
    subst (λ (q : PortId). Served q p.core c.serve.new.core c.serve.result) (p.order c.args.i _ at) c.serve.ensures.adds

pub returns-clause-stays : goal.returns-clause-stays
returns-clause-stays c r s =
    let p = c.args.self.now in
    let lane = c.index_mut-lane.result.now in
    let at = at_lane p c.args.i lane c.requires c.index_mut-lane.ensures.value in (
      served_settled p.base (nodes p.core.cluster) c.args.i p.lanes.items lane c.serve.new.self p.core c.serve.new.core c.serve.result r p.begun p.order at c.serve.ensures.same
          c.serve.ensures.adds c.serve.ensures.settled s,
      given_set p.lanes.items c.args.i lane c.serve.new.self (receipt_id r) at (port_of-same lane c.serve.new.self c.serve.ensures.same) (inr c.serve.ensures.notes),
    )
