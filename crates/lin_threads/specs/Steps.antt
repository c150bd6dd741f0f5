-- Ports: their steps with their numbers filled in, and what of a log is theirs.
use Rattle.std.specs.Prelude.{ℕ, ◌==◌, ◌-◌, nat_lt, Bool, true, false, if◌then◌else◌, List, []}
use Rattle.std.specs.Prelude.{◌∷◌, ◌++◌, map, filter, flat_map, take, drop, Option, Some, None}
use Rattle.std.specs.List.{filter_map}
use Rattle.lin_core.specs.declared.port.PortId.{PortId}
use Rattle.lin_core.specs.declared.port.PortId.TheVariants.{Bus, Host, Node}
use Rattle.lin_core.specs.declared.step.Step.{Step}
use Rattle.lin_core.specs.declared.step.Step.TheVariants as step
use Rattle.lin_core.specs.declared.event.Event.{Event}
use Rattle.lin_core.specs.declared.event.Event.TheVariants as event
use Rattle.lin_core.specs.declared.reply.Reply.{Reply}
use Rattle.lin_core.specs.declared.reply.Reply.TheVariants.{Done, Refused}
use Rattle.lin_core.specs.declared.log.LogEntry.{LogEntry}
use Rattle.lin_threads.specs.declared.ports.steps.HostStep.{HostStep}
use Rattle.lin_threads.specs.declared.ports.steps.HostStep.TheVariants as host
use Rattle.lin_threads.specs.declared.ports.steps.NodeStep.{NodeStep}
use Rattle.lin_threads.specs.declared.ports.steps.NodeStep.TheVariants as node
use Rattle.lin_threads.specs.declared.ports.steps.Note.{Note}
use Rattle.lin_threads.specs.declared.ports.steps.Note.TheVariants as note

-- the step of a host's or node's port, with the port's number filled in
abbrev pub host_step : ℕ → HostStep → Step
host_step n (host.Send to message) = step.Send n to message
host_step n (host.Write signal value) = step.Write n signal value
host_step n host.Close = step.Close n

abbrev pub node_step : ℕ → NodeStep → Step
node_step n node.Answer = step.Answer n
node_step n node.Leave = step.Leave n

-- the ports in order: hosts by number, then nodes
abbrev pub port_at : ℕ → ℕ → PortId
port_at nodes i = if nat_lt i nodes then Host i else Node (i - nodes)

abbrev pub same_port : PortId → PortId → Bool
same_port Bus Bus = true
same_port Bus (Host n) = false
same_port Bus (Node n) = false
same_port (Host m) Bus = false
same_port (Host m) (Host n) = m == n
same_port (Host m) (Node n) = false
same_port (Node m) Bus = false
same_port (Node m) (Host n) = false
same_port (Node m) (Node n) = m == n

-- the steps of a port, in the order of the entries
abbrev pub step_by : PortId → LogEntry → Option Step
step_by port e = if same_port e.port port then Some e.step else None

abbrev pub logged : List LogEntry → PortId → List Step
logged es port = filter_map (step_by port) es

-- the events of which a port is told
abbrev pub is_note_for : PortId → Event → Bool
is_note_for (Host n) (event.Accepted h number) = h == n
is_note_for (Host n) (event.Sent h number) = h == n
is_note_for (Host n) (event.Lost h number cause) = h == n
is_note_for (Host n) (event.Message from to bytes) = to == n
is_note_for (Node n) (event.Due k) = k == n
is_note_for port e = false

abbrev pub event_notes : PortId → List Event → List Note
event_notes port es = map note.Event (filter (is_note_for port) es)

abbrev pub reply_notes : PortId → Bool → Reply → List Note
reply_notes port own (Done events) = event_notes port events
reply_notes port own (Refused r) = if own then note.Refused r ∷ [] else []

abbrev pub notes_in : PortId → LogEntry → List Note
notes_in port e = reply_notes port (same_port e.port port) e.reply

abbrev pub notes : List LogEntry → PortId → List Note
notes es port = flat_map (notes_in port) es

-- the notes of an entry's first events
abbrev pub part_notes : PortId → ℕ → Reply → List Note
part_notes port k (Done events) = event_notes port (take k events)
part_notes port k (Refused r) = []

abbrev pub first_notes : PortId → ℕ → List LogEntry → List Note
first_notes port k [] = []
first_notes port k (e ∷ es) = part_notes port k e.reply

-- the notes of the entries from one place up to another, and of the first events of the entry there
abbrev pub notes_told : PortId → ℕ → ℕ → ℕ → List LogEntry → List Note
notes_told port base seen part log =
    notes (drop base (take seen log)) port ++ first_notes port part (drop seen log)
