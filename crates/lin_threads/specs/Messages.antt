-- The messages among a port's notes, and what the reading of their link grew by (ISO 17987-2,
-- transport layer).
use Rattle.std.specs.Prelude.{◌≡◌, ℕ, ◌==◌, if◌then◌else◌, List, ◌++◌, take, drop, reverse}
use Rattle.std.specs.Prelude.{Option, Some, None, is_some, true}
use Rattle.std.specs.List.{filter_map}
use mathlib.Core.List.{IsPrefix}
use Rattle.lin_parts.specs.Cluster.{nad}
use Rattle.lin_parts.specs.declared.parts.Parts.{Parts}
use Rattle.lin_core.specs.Core.{CoreData}
use Rattle.lin_core.specs.Links.{Link, host_of, reading}
use Rattle.lin_core.specs.Replies.{receiver_of}
use Rattle.lin_core.specs.declared.event.Event.TheVariants as event
use Rattle.lin_core.specs.declared.log.LogEntry.{LogEntry}
use Rattle.lin_core.specs.declared.port.PortId.{PortId}
use Rattle.lin_core.specs.declared.port.PortId.TheVariants.{Host}
use Rattle.lin_threads.specs.Steps.{notes}
use Rattle.lin_threads.specs.declared.ports.steps.Note.{Note}
use Rattle.lin_threads.specs.declared.ports.steps.Note.TheVariants as note

-- the message of a host that a note brings
abbrev pub message_from : ℕ → Note → Option (List ℕ)
message_from host (note.Event (event.Message from to bytes)) =
    if from == host then Some bytes else None
message_from host n = None

-- the messages of a host among notes, in order
abbrev pub messages_from : ℕ → List Note → List (List ℕ)
messages_from host ns = filter_map (message_from host) ns

-- the port of the host that receives on a link
abbrev pub port_on : Link → PortId
port_on l = Host (receiver_of l.dir l.node)

-- what the reading of a link grew by since a place of the log is the messages of the link's sender
-- among the notes of the receiver's port since then
abbrev pub TellsGrowth : Parts → List LogEntry → ℕ → Link → Type 0
TellsGrowth c log base l =
    reading c (reverse log) l
    ≡ reading c (reverse (take base log)) l
    ++ messages_from (host_of l) (notes (drop base log) (port_on l))

-- the same of a link to or from a node with an address
abbrev pub TellsLink : CoreData → ℕ → Link → Type 0
TellsLink core base l =
    is_some (nad core.cluster l.node) ≡ true → TellsGrowth core.cluster core.log base l

-- the messages of the link's sender among these notes are, in order, the first of those by which
-- the reading of the link grew since a place of the log
abbrev pub BeginsGrowth : Parts → List LogEntry → ℕ → Link → List Note → Type 0
BeginsGrowth c log base l taken =
    (grown : List (List ℕ))
    × (reading c (reverse log) l ≡ reading c (reverse (take base log)) l ++ grown)
    × IsPrefix (messages_from (host_of l) taken) grown

-- the same for each link whose receiver has this port
abbrev pub BeginsGrowths : CoreData → ℕ → PortId → List Note → Type 0
BeginsGrowths core base port taken =
    (l : Link) → is_some (nad core.cluster l.node) ≡ true → port_on l ≡ port
    → BeginsGrowth core.cluster core.log base l taken

-- and where they are the first of all notes of the port since then
abbrev pub TakesGrowths : CoreData → ℕ → PortId → List Note → Type 0
TakesGrowths core base port taken =
    IsPrefix taken (notes (drop base core.log) port) → BeginsGrowths core base port taken
