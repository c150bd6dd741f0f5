use Rattle.std.proofs.Common.{◌≡◌, ◌+◌, ◌++◌, length, map}
use Rattle.lin_threads.specs.Lanes.{lane_wiring}
use Rattle.lin_threads.specs.Ports.{node_wiring}
use Rattle.lin_threads.specs.Wired.{AreNodePorts, AreNewLanes}
use Rattle.lin_threads.proofs.ports.wiring.open_nodes.Given as goal

abbrev pub invariant-loop-number : goal.invariant-loop-number
invariant-loop-number l = record {
  lanes : AreNewLanes l.nodes l.seen l.lanes.items;
  count : length l.lanes.items ≡ l.nodes + l.number;
  ports : AreNodePorts l.ring l.number l.ports.items;
  wirings : map lane_wiring l.lanes.items ≡ map lane_wiring l.initial.lanes.items ++ map node_wiring l.ports.items;
}
