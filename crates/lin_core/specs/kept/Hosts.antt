-- No promise rests on this: the hosts' messages.
use Rattle.std.specs.Prelude.{◌≡◌, ⊤, ℕ, ◌+◌, ◌≤◌, ◌<◌, ◌⊎◌, Bool, true, false, List, [], ◌∷◌, ◌++◌}
use Rattle.std.specs.Prelude.{drop, flat_map, is_some, if◌then◌else◌, map, take, length, filter, slice_get, Option, Some, None}
use Rattle.std.specs.Prelude.{option_map, nat_lt}
use Rattle.std.specs.List.{list_any}
use Rattle.std.specs.Option.{option_map_or}
use Rattle.lin_frame.specs.Words.{numbers}
use Rattle.circular_buffer.specs.Buffer.{buffer}
use Rattle.lin_transport.specs.Transport.{frame, frame_count}
use Rattle.lin_transport.specs.Sender.{SenderData as Sender}
use Rattle.lin_parts.specs.Cluster.{nad, nodes}
use Rattle.lin_core.specs.History.{is_host_closed, LogEntry, Step, Parts}
use Rattle.lin_core.specs.Links.{Message, Sending, accepted_from, begun_sending, is_good_sign, link_of}
use Rattle.lin_core.specs.Links.{link_address, is_to_all, waiting}
use Rattle.lin_core.specs.Slots.{sleep_frame}
use Rattle.lin_core.specs.declared.event.Event.{Event}
use Rattle.lin_core.specs.declared.event.Event.TheVariants.{Lost, Message as MessageEvent}
use Rattle.lin_core.specs.declared.host.Host.{Host}
use Rattle.lin_core.specs.declared.link.Cause.TheVariants.{Slept}
use Rattle.lin_core.specs.declared.step.Step.TheVariants.{Send}

-- the message whose step stands at a place in a log
abbrev pub sent_in : Step → Option Message
sent_in (Send from to message) = Some (record { link = link_of from to; bytes = message })
sent_in step = None

abbrev pub message_at : List LogEntry → ℕ → Option Message
message_at log i = option_map_or (λ e. sent_in e.step) (slice_get log i) None

abbrev pub message_of : Sending → Message
message_of s = s.message

-- the queue has the places of the messages that wait in the log, and all others are settled
pub record KeepsHost (c : Parts) (capacity : ℕ) (log past : List LogEntry) (h : ℕ)
    (host : Host) : Type 0 where
  pub queue : map (message_at log) host.queue.items ≡ map Some (map message_of (waiting c past h))
  pub count : host.settled + length host.queue.items ≡ length (accepted_from past h)
  pub capacity_is : host.queue.capacity ≡ capacity

-- the sender of the message that is begun
abbrev pub sender_of : Parts → Sending → Sender
sender_of c s = record {
  nad = link_address c s.message.link;
  size = length s.message.bytes;
  sent = length (filter is_good_sign s.block);
}

abbrev pub sender_now : Parts → List LogEntry → ℕ → Option Sender
sender_now c past h = option_map (sender_of c) (begun_sending c past h)

pub record KeepsSender (c : Parts) (past : List LogEntry) (h : ℕ) (host : Host) : Type 0 where
  pub closed_is : host.closed ≡ is_host_closed past h
  pub sender_is : host.sender ≡ sender_now c past h

-- a host that has sent nothing
abbrev pub new_host : ℕ → Host
new_host capacity = record { settled = 0; queue = buffer [] capacity; sender = None; closed = false }

-- a node, where a message of its host waits
abbrev pub if_waiting : Host → ℕ → Option ℕ
if_waiting host node = if nat_lt 0 (length host.queue.items) then Some node else None

-- one more message waits, whose step stands at this place in the log
abbrev pub host_after_send : Host → ℕ → Host
host_after_send host place = record host {
  queue = buffer (host.queue.items ++ place ∷ []) host.queue.capacity;
}

-- the next message is settled, and none is begun
abbrev pub host_after_settling : Host → Host
host_after_settling host = record host {
  settled = host.settled + 1;
  queue = buffer (drop 1 host.queue.items) host.queue.capacity;
  sender = None;
}

-- how many frames of the next message were seen good, and how long it is where it has no sender
abbrev pub sent_of : Host → ℕ
sent_of host = option_map_or (λ s. s.sent) host.sender 0

abbrev pub sending_size : Host → ℕ → ℕ
sending_size host len = option_map_or (λ s. s.size) host.sender len

-- one more frame of the next message is seen good, to this address and of this length
abbrev pub host_after_frame : Host → ℕ → ℕ → Host
host_after_frame host address len = record host {
  sender =
      Some (option_map_or {T = Sender}
      (λ s. record s { sent = s.sent + 1 }) host.sender
      (record { nad = address; size = len; sent = 1 }));
}

-- the cluster goes to sleep: what is begun is lost, and the hosts are told, by rising number
abbrev pub host_after_sleep : Host → Host
host_after_sleep host = option_map_or (λ s. host_after_settling host) host.sender host

abbrev pub loss_of : ℕ → Host → List Event
loss_of h host = option_map_or (λ s. Lost h (host.settled + 1) Slept ∷ []) host.sender []

abbrev pub losses_of : List Host → ℕ → List Event
losses_of hosts h = option_map_or (loss_of h) (slice_get hosts h) []

abbrev pub losses : List Host → List Event
losses hosts = flat_map (losses_of hosts) (numbers (length hosts))

-- the data bytes that come next of a host, by the message that waits first, the sender of what is
-- begun, and whether the sleep frame goes first
abbrev pub bytes_next : Parts → Option Message → Option Sender → Bool → List ℕ
bytes_next c None (Some s) sleeping = []
bytes_next c (Some m) (Some s) sleeping = frame s.nad m.bytes s.sent
bytes_next c o None true = sleep_frame
bytes_next c None None false = []
bytes_next c (Some m) None false = frame (link_address c m.link) m.bytes 0

-- there is such a frame
abbrev pub HasNext : Parts → Option Message → Option Sender → Bool → Type 0
HasNext c o (Some s) sleeping =
    (m : Message) × (o ≡ Some m) × (length m.bytes ≡ s.size) × (s.sent < frame_count s.size)
HasNext c o None true = ⊤
HasNext c o None false =
    (m : Message) × (o ≡ Some m) × (1 ≤ length m.bytes) × (length m.bytes ≤ 4095)
    × ((is_to_all m.link ≡ true) ⊎ (m.link.node < nodes c))

-- the message that comes next of a host goes to all responders
abbrev pub is_next_to_all : Parts → List LogEntry → ℕ → Bool
is_next_to_all c past h =
    list_any (λ (s : Sending). is_to_all s.message.link) (take 1 (waiting c past h))

-- what the responders with an address are told of a message to all, by rising node
abbrev pub told_one : ℕ → List ℕ → List Event
told_one h m = MessageEvent 0 h m ∷ []

abbrev pub told_to : Parts → List ℕ → ℕ → List Event
told_to c m h = if is_some (nad c h) then told_one h m else []

abbrev pub told_to_all : Parts → List ℕ → ℕ → List Event
told_to_all c m n = flat_map (told_to c m) (numbers n)
