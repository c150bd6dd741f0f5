-- Ports as a run is handed them, and the receipts that it hands back.
use Rattle.std.specs.Prelude.{◌≡◌, List, ◌++◌, map}
use mathlib.Core.List.{IsPrefix}
use Rattle.lin_core.specs.declared.log.LogEntry.{LogEntry}
use Rattle.lin_core.specs.declared.step.Step.{Step}
use Rattle.lin_threads.specs.Ports.{Wiring, host_wiring, host_put, host_took, node_wiring, node_put}
use Rattle.lin_threads.specs.Ports.{node_took, receipt_wiring, receipt_id, receipt_put}
use Rattle.lin_threads.specs.Ports.{receipt_took}
use Rattle.lin_threads.specs.Pumps.{wirings}
use Rattle.lin_threads.specs.Steps.{logged, notes}
use Rattle.lin_threads.specs.declared.ports.host_port.HostPort.{HostPort}
use Rattle.lin_threads.specs.declared.ports.node_port.NodePort.{NodePort}
use Rattle.lin_threads.specs.declared.ports.Receipt.{Receipt}
use Rattle.lin_threads.specs.declared.ports.pump.Pump.{Pump}
use Rattle.lin_threads.specs.declared.ports.steps.Note.{Note}

-- which port it is, the steps that it has put, and the notes that it has taken
pub record PortState : Type 0 where
  pub wiring : Wiring
  pub put : List Step
  pub took : List Note

abbrev pub host_state : HostPort → PortState
host_state p = record { wiring = host_wiring p; put = host_put p; took = host_took p }

abbrev pub node_state : NodePort → PortState
node_state p = record { wiring = node_wiring p; put = node_put p; took = node_took p }

abbrev pub receipt_state : Receipt → PortState
receipt_state r = record { wiring = receipt_wiring r; put = receipt_put r; took = receipt_took r }

-- the same port, which may have put more and taken more
pub record IsFurther (a b : PortState) : Type 0 where
  pub wiring : b.wiring ≡ a.wiring
  pub put : IsPrefix a.put b.put
  pub took : IsPrefix a.took b.took

-- the receipt of a port that was in this state
abbrev pub IsReceiptFrom : PortState → Receipt → Type 0
IsReceiptFrom port r = IsFurther port (receipt_state r)

-- these are the pump's ports: hosts by number, then nodes
abbrev pub ArePortsOf : Pump → List HostPort → List NodePort → Type 0
ArePortsOf pump hosts nodes = wirings pump ≡ map host_wiring hosts ++ map node_wiring nodes

-- the ports that a run is handed, hosts' before nodes'
abbrev pub handed_in : List HostPort → List NodePort → List PortState
handed_in hosts nodes = map host_state hosts ++ map node_state nodes

-- the receipt of a port that was in this state: all that it put is in these entries, in order and
-- each step once, and the notes that it took are the first of those that the entries name
pub record IsSettledReceipt (es : List LogEntry) (port : PortState) (r : Receipt) : Type 0 where
  pub further : IsReceiptFrom port r
  pub whole : logged es (receipt_id r) ≡ receipt_put r
  pub took : IsPrefix (receipt_took r) (notes es (receipt_id r))
