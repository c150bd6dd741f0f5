use Rattle.std.proofs.Common.{arith, length, length-append, map, [], ◌∷◌}
use Rattle.lin_threads.specs.Lanes.{lane_wiring}
use Rattle.lin_threads.specs.Ports.{node_wiring}
use Rattle.lin_threads.specs.Steps.{port_at}
use Rattle.lin_threads.specs.Wired.{IsNewNode, IsNewLane}
use Rattle.lin_threads.specs.declared.ports.lane.Lane.{Lane}
use Rattle.lin_threads.specs.declared.ports.node_port.NodePort.{NodePort}
use Rattle.lin_threads.proofs.WireLemmas.{each_more, at_node, wired_more}
use Rattle.lin_threads.proofs.ports.wiring.open_nodes.Goals as goal

pub loop-number-preserved : goal.loop-number-preserved
loop-number-preserved c =
    let inv = c.loop-number.invariant in
    let count = inv.count in
    let counted = inv.ports.0 in
    let lane : Lane = c.in_ok-lane.lane in
    let port : NodePort = c.in_ok-lane.port in
    let lanes = c.in_ok-push.ensures.items in
    let ports = c.in_ok-push-2.ensures.items in
    record {
      lanes = rw lanes (each_more (λ i l. IsNewLane c.args.seen (port_at c.args.nodes i) l) c.loop-number.lanes.items lane inv.lanes
          (at_node c.args.nodes c.args.seen c.loop-number.number (length c.loop-number.lanes.items) lane (omega arith) c.in_ok-lane.ensures.lane));
      count = rw lanes (let q = length-append c.loop-number.lanes.items (lane ∷ []) in omega arith);
      ports = (
        rw ports (let q = length-append c.loop-number.ports.items (port ∷ []) in omega arith),
        rw ports (each_more (λ n p. IsNewNode c.args.ring n p) c.loop-number.ports.items port inv.ports.1 (rw counted c.in_ok-lane.ensures.port)),
      );
      wirings = rw (lanes, ports) (wired_more lane_wiring node_wiring c.loop-number.lanes.items c.loop-number.ports.items (map lane_wiring c.args.lanes.now.items) lane port inv.wirings c.in_ok-lane.ensures.wiring);
    }
