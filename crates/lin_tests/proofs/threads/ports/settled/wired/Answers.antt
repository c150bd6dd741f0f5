use Rattle.std.proofs.Common.{arith, ◌<◌, length, map}
use Rattle.lin_threads.specs.Ports.{node_wiring}
use Rattle.lin_tests.proofs.Wirings.{first-wired}
use Rattle.lin_tests.proofs.threads.ports.settled.wired.Goals as goal

pub returns : goal.returns
returns g c =
    let some : 0 < length c.in_ok-pump.hosts.items = omega (arith, c.swap_remove.ensures.len)
    in first-wired c.in_ok-pump.pump c.in_ok-pump.hosts.items c.swap_remove.result (map node_wiring c.in_ok-pump._nodes.items) c.in_ok-pump.ensures.ports some c.swap_remove.ensures.value
