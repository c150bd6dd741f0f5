use Rattle.std.proofs.Common.{refl}
use Rattle.lin_parts.specs.Cluster.{nodes}
use Rattle.lin_threads.proofs.LaneLemmas.{bus_serves, bus_longer, bus_own, bus_alike, bus_prefix}
use Rattle.lin_threads.proofs.SettleLemmas.{bus_settled}
use Rattle.lin_threads.proofs.ports.pump.Pump.own.Goals as goal

pub invariant_of-self : goal.invariant_of-self
invariant_of-self c =
    let p = c.args.self.now in
    let cluster = (bus_alike p.core c.step.new.self c.args.step c.step.result c.step.ensures.stepped).0 in
    record {
      begun = bus_longer p.base p.core c.step.new.self c.args.step c.step.result p.begun c.step.ensures.stepped;
      count = rw cluster p.count;
      few = rw cluster p.few;
      serves = bus_serves p.base (nodes p.core.cluster) p.lanes.items p.core c.step.new.self c.args.step c.step.result p.order p.serves c.step.ensures.stepped;
      order = rw cluster p.order;
      own = bus_own p.base p.core c.step.new.self c.args.step c.step.result p.begun p.own c.step.ensures.stepped;
    }

pub returns-clause-pump : goal.returns-clause-pump
returns-clause-pump c =
    let p = c.args.self.now in record {
      ports = refl;
      alike = bus_alike p.core c.step.new.self c.args.step c.step.result c.step.ensures.stepped;
      start = refl;
      log = bus_prefix p.core c.step.new.self c.args.step c.step.result c.step.ensures.stepped;
    }

pub returns-clause-stays : goal.returns-clause-stays
returns-clause-stays c r s =
    let p = c.args.self.now in
    (bus_settled p.base (nodes p.core.cluster) p.lanes.items p.core c.step.new.self c.args.step c.step.result r p.begun p.order c.step.ensures.stepped s, refl)
