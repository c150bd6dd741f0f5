-- No promise rests on this: what a refusal is made from, in place of the log.
use Rattle.std.specs.Prelude.{◌≡◌, ◌<◌, ℕ, Bool, List, length, Option, None, is_some}
use Rattle.lin_parts.specs.Cluster.{nodes}
use Rattle.lin_core.specs.History.{is_host_closed, open_slot, LogEntry, Parts}
use Rattle.lin_core.specs.Links.{waiting}
use Rattle.lin_core.specs.Replies.{begun_on, refusal}
use Rattle.lin_core.specs.kept.Slots.{IsOpenSlot}
use Rattle.lin_core.specs.declared.link.Link.{Link}
use Rattle.lin_core.specs.declared.port.PortId.{PortId}
use Rattle.lin_core.specs.declared.refusals.messages.Queue.{Queue}
use Rattle.lin_core.specs.declared.reply.Refusal.{Refusal}
use Rattle.lin_core.specs.declared.slot.OpenSlot.{OpenSlot}
use Rattle.lin_core.specs.declared.step.Step.TheVariants.{Timeout}

-- whether a host is closed, and how many of its messages wait, where there is such a host
abbrev pub KnowsClosed : Parts → List LogEntry → ℕ → Bool → Type 0
KnowsClosed c past host shut = host < nodes c → is_host_closed past host ≡ shut

abbrev pub KnowsQueue : Parts → List LogEntry → ℕ → Queue → Type 0
KnowsQueue c past host queue =
    host < nodes c
    → (length (waiting c past host) ≡ queue.waiting) × (is_host_closed past host ≡ queue.is_closed)

-- whether a message is begun on a link, where there is its node and no slot is open
abbrev pub KnowsBegun : Parts → List LogEntry → Link → Bool → Type 0
KnowsBegun c past l begun =
    l.node < nodes c → open_slot past ≡ None → is_some (begun_on c past l.node l.dir) ≡ begun

-- why a timeout is refused, whatever the log of which this is known
abbrev pub RefusesTimeout : Parts → Option OpenSlot → Bool → PortId → Link → Option Refusal → Type 0
RefusesTimeout c slot begun by l given =
    (capacity : ℕ) (past : List LogEntry) → IsOpenSlot slot past → KnowsBegun c past l begun
    → given ≡ refusal c capacity past by (Timeout l.node l.dir)
