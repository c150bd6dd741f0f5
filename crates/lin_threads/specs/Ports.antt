-- What contracts see of ports and receipts.
use Rattle.std.specs.Prelude.{◌≡◌, ℕ, List, map}
use mathlib.Core.List.{IsPrefix}
use denote.RawPtr.{Ptr}
use Rattle.std.specs.declared.alloc.Global.{Global}
use Rattle.rtrb.specs.Shared.{Names}
use Rattle.rtrb.specs.Ring.{sent, received, known_items}
use Rattle.rtrb.specs.declared.producer.Producer.{Producer}
use Rattle.rtrb.specs.declared.consumer.Consumer.{Consumer}
use Rattle.lin_core.specs.declared.port.PortId.{PortId}
use Rattle.lin_core.specs.declared.port.PortId.TheVariants.{Host, Node}
use Rattle.lin_core.specs.declared.step.Step.{Step}
use Rattle.lin_threads.specs.Steps.{host_step, node_step}
use Rattle.lin_threads.specs.declared.ports.Outgoing.{Outgoing}
use Rattle.lin_threads.specs.declared.ports.Outgoing.TheVariants as out
use Rattle.lin_threads.specs.declared.ports.host_port.HostPort.{HostPort}
use Rattle.lin_threads.specs.declared.ports.node_port.NodePort.{NodePort}
use Rattle.lin_threads.specs.declared.ports.Receipt.{Receipt}
use Rattle.lin_threads.specs.declared.ports.steps.HostStep.{HostStep}
use Rattle.lin_threads.specs.declared.ports.steps.NodeStep.{NodeStep}
use Rattle.lin_threads.specs.declared.ports.steps.Note.{Note}

-- which ring it is: equal for its two ends, and for no end of another ring
pub record RingId : Type 0 where
  pub words : Ptr
  pub slots : Ptr
  pub names : Names
  pub heap : Global

abbrev pub ring_into : {T P : Type 0} → Producer T Global P → RingId
ring_into p =
    record { words = p.end.words; slots = p.end.slots; names = p.end.names; heap = p.end.heap }

abbrev pub ring_from : {T P : Type 0} → Consumer T Global P → RingId
ring_from c =
    record { words = c.end.words; slots = c.end.slots; names = c.end.names; heap = c.end.heap }

-- how many items a ring takes
abbrev pub ring_size : RingId → ℕ
ring_size ring = ring.names.0

-- which port it is: whose, with its ring of steps and its ring of notes
pub record Wiring : Type 0 where
  pub port : PortId
  pub steps : RingId
  pub notes : RingId

-- of a host's port: which it is, how many items its ring of steps takes, the step that it puts with
-- its number, the steps that it has put, the notes that it has taken, and those that it has seen in
-- its ring and not taken
abbrev pub host_wiring : HostPort → Wiring
host_wiring p =
    record { port = Host p.number; steps = ring_into p.steps; notes = ring_from p.notes }

abbrev pub host_ring : HostPort → ℕ
host_ring p = ring_size (ring_into p.steps)

abbrev pub by_port : HostPort → HostStep → Step
by_port p step = host_step p.number step

abbrev pub host_put : HostPort → List Step
host_put p = map (host_step p.number) (sent p.steps)

abbrev pub host_took : HostPort → List Note
host_took p = received p.notes

abbrev pub host_seen : HostPort → List Note
host_seen p = known_items p.notes

-- the same of a node's port
abbrev pub node_wiring : NodePort → Wiring
node_wiring p =
    record { port = Node p.number; steps = ring_into p.steps; notes = ring_from p.notes }

abbrev pub node_ring : NodePort → ℕ
node_ring p = ring_size (ring_into p.steps)

abbrev pub by_node_port : NodePort → NodeStep → Step
by_node_port p step = node_step p.number step

abbrev pub node_put : NodePort → List Step
node_put p = map (node_step p.number) (sent p.steps)

abbrev pub node_took : NodePort → List Note
node_took p = received p.notes

abbrev pub node_seen : NodePort → List Note
node_seen p = known_items p.notes

-- of the end of either kind of ring of steps: the port with this number, its ring, and what was put
-- into it
abbrev pub port_out : ℕ → Outgoing → PortId
port_out n (out.Host ring) = Host n
port_out n (out.Node ring) = Node n

abbrev pub ring_out : Outgoing → RingId
ring_out (out.Host ring) = ring_into ring
ring_out (out.Node ring) = ring_into ring

abbrev pub puts : ℕ → Outgoing → List Step
puts n (out.Host ring) = map (host_step n) (sent ring)
puts n (out.Node ring) = map (node_step n) (sent ring)

-- the same of a receipt
abbrev pub receipt_wiring : Receipt → Wiring
receipt_wiring r =
    record { port = port_out r.number r.steps; steps = ring_out r.steps; notes = ring_from r.notes }

abbrev pub receipt_id : Receipt → PortId
receipt_id r = (receipt_wiring r).port

abbrev pub receipt_put : Receipt → List Step
receipt_put r = puts r.number r.steps

abbrev pub receipt_took : Receipt → List Note
receipt_took r = received r.notes

-- the receipt of this port: the same port with the same lists
pub record IsReceiptOf (port : Wiring) (steps : List Step) (notes : List Note)
    (r : Receipt) : Type 0 where
  pub wiring : receipt_wiring r ≡ port
  pub put : receipt_put r ≡ steps
  pub took : receipt_took r ≡ notes

-- the same port, which may have put more and taken more
pub record Continues (a b : HostPort) : Type 0 where
  pub wiring : host_wiring b ≡ host_wiring a
  pub put : IsPrefix (host_put a) (host_put b)
  pub took : IsPrefix (host_took a) (host_took b)
