-- Ports and lanes that were just made.
use Rattle.std.specs.Prelude.{◌≡◌, ℕ, List, [], length, Some, false}
use Rattle.std.specs.List.{slice_get}
use Rattle.rtrb.specs.Ring.{sent}
use Rattle.lin_core.specs.declared.port.PortId.{PortId}
use Rattle.lin_core.specs.declared.port.PortId.TheVariants.{Host, Node}
use Rattle.lin_threads.specs.Lanes.{steps_from_ring, port_of}
use Rattle.lin_threads.specs.Steps.{port_at}
use Rattle.lin_threads.specs.Ports.{host_wiring, host_ring, host_put, host_took, node_wiring}
use Rattle.lin_threads.specs.Ports.{node_ring, node_put, node_took, ring_size}
use Rattle.lin_threads.specs.declared.ports.lane.Lane.{Lane}
use Rattle.lin_threads.specs.declared.ports.host_port.HostPort.{HostPort}
use Rattle.lin_threads.specs.declared.ports.node_port.NodePort.{NodePort}

-- what holds of each item and its place
module _ {X : Type 0} where
  abbrev pub Each : (ℕ → X → Type 0) → List X → Type 0
  Each P xs = (i : ℕ) (x : X) → slice_get xs i ≡ Some x → P i x

-- a lane that has seen the log up to here and done nothing
pub record IsNewLane (start : ℕ) (by : PortId) (lane : Lane) : Type 0 where
  pub port : port_of lane ≡ by
  pub steps : steps_from_ring lane.number lane.steps ≡ []
  pub notes : sent lane.notes ≡ []
  pub seen : lane.seen ≡ start
  pub part : lane.part ≡ 0
  pub given : lane.given ≡ 0
  pub settled : lane.settled ≡ false

abbrev pub AreNewLanes : ℕ → ℕ → List Lane → Type 0
AreNewLanes nodes start lanes = Each (λ i lane. IsNewLane start (port_at nodes i) lane) lanes

-- the port of the host with this number: nothing was put and nothing taken, and each of its rings
-- takes so many
pub record IsNewHost (ring n : ℕ) (port : HostPort) : Type 0 where
  pub id : (host_wiring port).port ≡ Host n
  pub size : host_ring port ≡ ring
  pub notes : ring_size (host_wiring port).notes ≡ ring
  pub put : host_put port ≡ []
  pub took : host_took port ≡ []

pub record IsNewNode (ring n : ℕ) (port : NodePort) : Type 0 where
  pub id : (node_wiring port).port ≡ Node n
  pub size : node_ring port ≡ ring
  pub notes : ring_size (node_wiring port).notes ≡ ring
  pub put : node_put port ≡ []
  pub took : node_took port ≡ []

abbrev pub AreHostPorts : ℕ → ℕ → List HostPort → Type 0
AreHostPorts ring count ports = (length ports ≡ count) × Each (λ n port. IsNewHost ring n port) ports

abbrev pub AreNodePorts : ℕ → ℕ → List NodePort → Type 0
AreNodePorts ring count ports = (length ports ≡ count) × Each (λ n port. IsNewNode ring n port) ports
