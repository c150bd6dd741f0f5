-- Which ports are a pump's.
use Rattle.std.proofs.Common.{◌≡◌, ◌∙◌, ap, ◌<◌, List, [], ◌∷◌, ◌++◌, map, length, arith, sym, Some}
use Rattle.std.specs.List.{slice_get, slice_index_or}
use Rattle.lin_threads.specs.Ports.{Wiring, host_wiring}
use Rattle.lin_threads.specs.Pumps.{IsWired, wirings}
use Rattle.lin_threads.specs.declared.ports.host_port.HostPort.{HostPort}
use Rattle.lin_threads.specs.declared.ports.pump.Pump.{Pump}

first-port : (ports : List HostPort) (port : HostPort) (others : List Wiring) → 0 < length ports → port ≡ slice_index_or ports 0 port → slice_get (map host_wiring ports ++ others) 0 ≡ Some (host_wiring port)
first-port [] port others some e = absurd (omega arith)
first-port (p ∷ ports) port others some e = ap (λ q. Some (host_wiring q)) (sym e)

-- the first of the hosts' ports is one of the pump's
pub first-wired : (pump : Pump) (ports : List HostPort) (port : HostPort) (others : List Wiring) → wirings pump ≡ map host_wiring ports ++ others → 0 < length ports → port ≡ slice_index_or ports 0 port → IsWired pump (host_wiring port)
first-wired pump ports port others e some first = (0, ap (λ ws. slice_get ws 0) e ∙ first-port ports port others some first)
