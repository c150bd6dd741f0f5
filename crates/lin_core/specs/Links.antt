-- Promises rest on this: messages on their links: what was accepted, what was put, and what became
-- of it (ISO 17987-2, transport layer).
use Rattle.std.specs.Prelude.{ℕ, suc, ◌==◌, eqb, Bool, true, false, ◌&&◌, ◌||◌, if◌then◌else◌, List, []}
use Rattle.std.specs.Prelude.{◌∷◌, ◌++◌, map, find, filter, length, reverse, take, slice_index}
use Rattle.std.specs.Prelude.{slice_index_or, Option, Some, None, is_some}
use Rattle.std.specs.List.{list_any, list_all, cons_option}
use Rattle.std.specs.Cmp.Lexicographic.{pointwise}
use Rattle.std.specs.Option.{option_map_or, unwrap_or}
use Rattle.lin_transport.specs.Words.{with_last}
use Rattle.lin_transport.specs.Transport.{frames, begins_message, functional, Ear, Heard, looks_at, messages_to}
use Rattle.lin_transport.specs.Transport.Heard.{Frame, Reset}
use Rattle.lin_frame.specs.Words.{numbers}
use Rattle.lin_parts.specs.Cluster.{nad, nodes}
use Rattle.lin_core.specs.History.{Slot, open_slot, finished_slot, done, did, seen_of, good_under}
use Rattle.lin_core.specs.History.{header_is, is_sleep_mark, LogEntry, Step, Parts}
use Rattle.lin_core.specs.declared.step.Step.TheVariants.{Send, Timeout}
use Rattle.lin_core.specs.declared.link.Direction.{Direction}
use Rattle.lin_core.specs.declared.link.Link.{Link as DeclaredLink}
use Rattle.lin_core.specs.declared.link.Direction.TheVariants.{Down, Up}
use Rattle.lin_core.specs.declared.link.Cause.{Cause}
use Rattle.lin_core.specs.declared.link.Cause.TheVariants.{Damaged, TimedOut, Slept}
use Rattle.lin_core.specs.declared.event.Seen.{Seen}
use Rattle.lin_core.specs.declared.event.Seen.TheVariants.{Good, Damaged as SeenDamaged}

-- a link: a responder and a direction. As the place where a message goes also node 126, down: all
-- responders that have an address (ISO 17987-2, functional node address); no node has this number
abbrev pub Link : Type 0
Link = DeclaredLink

abbrev pub same_dir : Direction → Direction → Bool
same_dir Down Down = true
same_dir Down Up = false
same_dir Up Down = false
same_dir Up Up = true

abbrev pub same_link : Link → Link → Bool
same_link a b = a.node == b.node && same_dir a.dir b.dir

-- the link from one host to another
abbrev pub link_of : ℕ → ℕ → Link
link_of from to =
    if from == 0 then record { node = to; dir = Down } else record { node = from; dir = Up }

pub record Message : Type 0 where
  pub link : Link
  pub bytes : List ℕ

abbrev pub sent_from : ℕ → Step → Option Message
sent_from h (Send from to message) =
    if from == h then Some (record { link = link_of from to; bytes = message }) else None
sent_from h step = None

abbrev pub host_of_dir : Direction → ℕ → ℕ
host_of_dir Down node = 0
host_of_dir Up node = node

-- the host whose messages go over a link
abbrev pub host_of : Link → ℕ
host_of l = host_of_dir l.dir l.node

-- the messages that were accepted from a host, in order
abbrev pub accepted_from : List LogEntry → ℕ → List Message
accepted_from [] h = []
accepted_from (e ∷ past) h =
    option_map_or
    (λ m. accepted_from past h ++ m ∷ []) (option_map_or (sent_from h) (done e) None)
    (accepted_from past h)

-- whether what goes to a place goes to all responders
abbrev pub is_to_all_by : Direction → ℕ → Bool
is_to_all_by Down node = node == functional
is_to_all_by Up node = false

abbrev pub is_to_all : Link → Bool
is_to_all to = is_to_all_by to.dir to.node

-- what goes to all goes over each link down
abbrev pub reaches : Direction → Bool → Bool
reaches Down all = all
reaches Up all = false

-- whether what goes to a place goes over a link
abbrev pub goes_over : Link → Link → Bool
goes_over to l = reaches l.dir (is_to_all to) || same_link to l

-- the messages that go over a link, in the order in which they were accepted
abbrev pub messages_on : List LogEntry → Link → List Message
messages_on past l = filter (λ m. goes_over m.link l) (accepted_from past (host_of l))

-- their bytes
abbrev pub accepted_messages : List LogEntry → Link → List (List ℕ)
accepted_messages past l = map (λ m. m.bytes) (messages_on past l)

-- what happens on a link: a frame, as it was seen where its slot is finished, or a mark
pub data Sign : Type 0 where
  Put : (frame : List ℕ) → (how : Option Seen) → Sign
  Mark : (cause : Cause) → Sign

-- the frames that a slot of messages puts on a link, in order: data bytes alone
abbrev pub put_by : Direction → ℕ → Option ℕ → Slot → List (List ℕ)
put_by Down node k s =
    if header_is 0x3C s.header
    then map (λ (p : ℕ × List ℕ). take 8 p.1)
    (filter
    (λ (p : ℕ × List ℕ). option_map_or
    (λ n. looks_at (record { nad = n; all = true }) (slice_index p.1 0)) k false) s.puts)
    else []
put_by Up node k s =
    if header_is 0x7D s.header
    then map (λ (p : ℕ × List ℕ). take 8 p.1) (filter (λ (p : ℕ × List ℕ). p.0 == node) s.puts)
    else []

-- a slot for a service has no frames of messages
abbrev pub put_on : Parts → Link → Slot → List (List ℕ)
put_on c l s = if s.service then [] else put_by l.dir l.node (nad c l.node) s

abbrev pub is_timeout_of : Link → Step → Bool
is_timeout_of l (Timeout node dir) = same_link l (record { node = node; dir = dir })
is_timeout_of l step = false

-- the mark that an entry leaves on a link
abbrev pub link_mark : Link → LogEntry → List LogEntry → Option Sign
link_mark l e past =
    if is_sleep_mark e past then Some (Mark Slept) else if did (is_timeout_of l) e
    then Some (Mark TimedOut) else None

-- the frames that a slot puts on a link, with how they are seen, the newest first
abbrev pub put_signs : Parts → Link → Option Seen → Slot → List Sign
put_signs c l how s = reverse (map (λ f. Put f how) (put_on c l s))

-- what an entry adds to a link: the frames of the slot that it finishes, and then its mark
abbrev pub signs_at : Parts → Link → LogEntry → List LogEntry → List Sign
signs_at c l e past =
    cons_option (link_mark l e past)
    (option_map_or (λ s. put_signs c l (Some (seen_of s)) s) (finished_slot e past) [])

-- what happened on a link in finished slots, the newest first
abbrev pub signs : Parts → List LogEntry → Link → List Sign
signs c [] l = []
signs c (e ∷ past) l = signs_at c l e past ++ signs c past l

-- and with the frames of the open slot
abbrev pub all_signs : Parts → List LogEntry → Link → List Sign
all_signs c past l = option_map_or (put_signs c l None) (open_slot past) [] ++ signs c past l

-- one more sign in the last block; where there is none yet, a block of its own
abbrev pub in_last : Sign → List (List Sign) → List (List Sign)
in_last s [] = (s ∷ []) ∷ []
in_last s (b ∷ []) = (b ++ s ∷ []) ∷ []
in_last s (b ∷ d ∷ bs) = b ∷ in_last s (d ∷ bs)

-- the blocks: the frames that were put, cut before each that begins a message, with the marks that
-- stand after them. A frame before the first that begins a message starts a block too
abbrev pub blocks_of : List Sign → List (List Sign)
blocks_of [] = []
blocks_of (Put f how ∷ earlier) =
    if begins_message f then blocks_of earlier ++ (Put f how ∷ []) ∷ []
    else in_last (Put f how) (blocks_of earlier)
blocks_of (Mark cause ∷ earlier) = with_last (λ b. b ++ Mark cause ∷ []) (blocks_of earlier)

abbrev pub blocks : Parts → List LogEntry → Link → List (List Sign)
blocks c past l = blocks_of (all_signs c past l)

abbrev pub block_frames : List Sign → List (List ℕ)
block_frames [] = []
block_frames (Put f how ∷ b) = f ∷ block_frames b
block_frames (Mark cause ∷ b) = block_frames b

-- the part of a block before its first mark, and that mark
abbrev pub before_mark : List Sign → List Sign
before_mark [] = []
before_mark (Put f how ∷ b) = Put f how ∷ before_mark b
before_mark (Mark cause ∷ b) = []

abbrev pub first_mark : List Sign → Option Cause
first_mark [] = None
first_mark (Put f how ∷ b) = first_mark b
first_mark (Mark cause ∷ b) = Some cause

abbrev pub is_damaged : Sign → Bool
is_damaged (Put f (Some SeenDamaged)) = true
is_damaged sign = false

abbrev pub is_good_sign : Sign → Bool
is_good_sign (Put f (Some (Good bytes))) = true
is_good_sign sign = false

abbrev pub begins_good : List Sign → Bool
begins_good [] = false
begins_good (s ∷ b) = is_good_sign s

abbrev pub same_frames : List (List ℕ) → List (List ℕ) → Bool
same_frames = pointwise (pointwise eqb)

pub data Fate : Type 0 where
  Waiting : Fate
  Sent : Fate
  Lost : (cause : Cause) → Fate

-- what became of a message with these frames, by its block
abbrev pub fate : List (List ℕ) → List Sign → Fate
fate fs b =
    if list_any is_damaged b then Lost Damaged
    else if list_all is_good_sign (before_mark b) && same_frames (block_frames (before_mark b)) fs then Sent
    else option_map_or
    (λ cause. if begins_good b then Lost cause else Waiting) (first_mark b) Waiting

abbrev pub is_waiting : Fate → Bool
is_waiting Waiting = true
is_waiting f = false

-- a message of a host: its number there, and its block on its home link, if one was begun
pub record Sending : Type 0 where
  pub number : ℕ
  pub message : Message
  pub block : List Sign

abbrev pub nad_on : Parts → Link → ℕ
nad_on c l = unwrap_or (nad c l.node) 0

-- the first responder that has an address
abbrev pub first_addressed : Parts → ℕ
first_addressed c = unwrap_or (find (λ n. is_some (nad c n)) (numbers (nodes c))) 0

-- the link by whose blocks a message's fate is told: its own, and of a message to all responders the
-- one down to the first of them that has an address
abbrev pub home : Parts → Link → Link
home c to = if is_to_all to then record { node = first_addressed c; dir = Down } else to

-- the address in the frames of a message that goes here
abbrev pub link_address : Parts → Link → ℕ
link_address c to = if is_to_all to then functional else nad_on c to

abbrev pub frames_to : Parts → Message → List (List ℕ)
frames_to c m = frames (link_address c m.link) m.bytes

-- the messages of a host with their numbers and blocks: a message has the place among the blocks of
-- its home link that it has among the messages of that link. `before` is the messages that were
-- accepted earlier
abbrev pub sendings_from : Parts → (Link → List (List Sign)) → List Message → List Message
    → List Sending
sendings_from c blocks before [] = []
sendings_from c blocks before (m ∷ ms) =
    record {
      number = suc (length before);
      message = m;
      block =
          slice_index_or (blocks (home c m.link))
          (length (filter (λ k. goes_over k.link (home c m.link)) before)) [];
    }
    ∷ sendings_from c blocks (before ++ m ∷ []) ms

abbrev pub sendings : Parts → List LogEntry → ℕ → List Sending
sendings c past h = sendings_from c (blocks c past) [] (accepted_from past h)

abbrev pub fate_of : Parts → Sending → Fate
fate_of c s = fate (frames_to c s.message) s.block

abbrev pub waits : Parts → Sending → Bool
waits c s = is_waiting (fate_of c s)

abbrev pub is_begun : Parts → Sending → Bool
is_begun c s = waits c s && begins_good s.block

abbrev pub waiting : Parts → List LogEntry → ℕ → List Sending
waiting c past h = filter (waits c) (sendings c past h)

abbrev pub begun_sending : Parts → List LogEntry → ℕ → Option Sending
begun_sending c past h = find (is_begun c) (sendings c past h)

-- what the receiver of a link listens to: the address of its node, and down the functional one too
abbrev pub is_down : Direction → Bool
is_down Down = true
is_down Up = false

abbrev pub ear_on : Parts → Link → Ear
ear_on c l = record { nad = nad_on c l; all = is_down l.dir }

-- what the receiver of a link is given: the good frames that it looks at, and the marks
abbrev pub heard_good : Ear → List ℕ → List Heard
heard_good e bytes = if looks_at e (slice_index bytes 0) then Frame (take 8 bytes) ∷ [] else []

abbrev pub diagnostic_header : Direction → ℕ
diagnostic_header Down = 0x3C
diagnostic_header Up = 0x7D

-- the bytes of a good frame of a message under this header
abbrev pub message_under : ℕ → Slot → Option (List ℕ)
message_under h s = if s.service then None else good_under h s

abbrev pub heard_at : Parts → Link → LogEntry → List LogEntry → List Heard
heard_at c l e past =
    (if is_some (link_mark l e past) then Reset ∷ [] else [])
    ++ option_map_or (heard_good (ear_on c l))
    (option_map_or (message_under (diagnostic_header l.dir)) (finished_slot e past) None) []

abbrev pub heard_on : Parts → List LogEntry → Link → List Heard
heard_on c [] l = []
heard_on c (e ∷ past) l = heard_at c l e past ++ heard_on c past l

-- the messages that the receiver of a link reads
abbrev pub reading : Parts → List LogEntry → Link → List (List ℕ)
reading c past l = messages_to (ear_on c l) (heard_on c past l)
