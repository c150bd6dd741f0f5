use Rattle.std.proofs.Common.{◌≡◌, length, map}
use Rattle.lin_threads.specs.Lanes.{lane_wiring}
use Rattle.lin_threads.specs.Ports.{host_wiring}
use Rattle.lin_threads.specs.Wired.{AreHostPorts, AreNewLanes}
use Rattle.lin_threads.proofs.ports.wiring.open_hosts.Given as goal

abbrev pub invariant-loop-number : goal.invariant-loop-number
invariant-loop-number l = record {
  lanes : AreNewLanes l.nodes l.seen l.lanes.items;
  count : length l.lanes.items ≡ l.number;
  ports : AreHostPorts l.ring l.number l.ports.items;
  wirings : map lane_wiring l.lanes.items ≡ map host_wiring l.ports.items;
}
