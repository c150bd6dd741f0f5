-- Worked examples of messages to all responders.
use Rattle.std.specs.Prelude.{◌≡◌, ℕ, List, [], ◌∷◌, ◌++◌, map, filter, reverse, Some, None}
use Rattle.std.proofs.Common.{refl}
use Rattle.lin_parts.specs.declared.parts.Parts.{Parts}
use Rattle.lin_parts.specs.declared.parts.Entry.TheVariants.{MasterReq}
use Rattle.lin_core.specs.Law.{AgreesOn, is_sent_over}
use Rattle.lin_core.specs.Links.{Link, Sending, sendings, block_frames, blocks, reading}
use Rattle.lin_core.specs.Runs.{history}
use Rattle.lin_core.specs.Replies.{reply}
use Rattle.lin_core.specs.declared.log.LogEntry.{LogEntry}
use Rattle.lin_core.specs.declared.port.PortId.{PortId}
use Rattle.lin_core.specs.declared.port.PortId.TheVariants.{Bus, Host}
use Rattle.lin_core.specs.declared.link.Direction.TheVariants.{Down, Up}
use Rattle.lin_core.specs.declared.step.Step.{Step}
use Rattle.lin_core.specs.declared.step.Step.TheVariants.{Send, Open, Answer, Hurt, Finish}
use Rattle.lin_core.specs.declared.event.Event.TheVariants.{Accepted, Slot, Due, Put, Seen, Message, Sent, Lost}
use Rattle.lin_core.specs.declared.event.Seen.TheVariants.{Good, Damaged}
use Rattle.lin_core.specs.declared.link.Cause.TheVariants.{Damaged as ByDamage}
use Rattle.lin_core.specs.declared.reply.Reply.{Reply}
use Rattle.lin_core.specs.declared.reply.Reply.TheVariants.{Done, Refused}
use Rattle.lin_core.specs.declared.reply.Refusal.TheVariants.{NoSuchNode, NoAddress, BadLength}

-- the commander, a responder with no address, and two with one
abbrev cluster : Parts
cluster =
    record {
      nodes = record { name = []; nad = None } ∷ record { name = []; nad = None } ∷ record { name = []; nad = Some 5 } ∷ record { name = []; nad = Some 9 } ∷ [];
      signals = [];
      frames = [];
      sporadic = [];
      events = [];
      tables = record { name = 84 ∷ []; lines = record { entry = MasterReq; delay_us = 10000 } ∷ [] } ∷ [];
      errors = [];
      identities = [];
      speed = 19200;
      jitter_us = 100;
      base_us = 5000;
    }

abbrev past : List (PortId × Step) → List LogEntry
past steps = history cluster 0 16 (reverse steps)

abbrev replies : List (PortId × Step) → List Reply
replies steps = reverse (map (λ (e : LogEntry). e.reply) (past steps))

abbrev slot : List (PortId × Step)
slot = (Bus, Open) ∷ (Bus, Answer 0) ∷ (Bus, Finish) ∷ []

abbrev opened : Reply
opened = Done (Slot 0 0 (Some 0x3C) ∷ Due 0 ∷ [])

abbrev to_all : List ℕ
to_all = 0x7E ∷ 2 ∷ 0x3E ∷ 0x80 ∷ 255 ∷ 255 ∷ 255 ∷ 255 ∷ 0xC0 ∷ []

pub message_to_all : replies ((Host 0, Send 0 126 (0x3E ∷ 0x80 ∷ [])) ∷ slot)
    ≡ Done (Accepted 0 1 ∷ []) ∷ opened ∷ Done (Put 0 to_all ∷ []) ∷ Done (Seen (Good to_all) ∷ Message 0 2 (0x3E ∷ 0x80 ∷ []) ∷ Message 0 3 (0x3E ∷ 0x80 ∷ []) ∷ Sent 0 1 ∷ []) ∷ []
unfolding reply
message_to_all = refl

pub message_to_all_damaged : replies ((Host 0, Send 0 126 (0x3E ∷ 0x80 ∷ [])) ∷ (Bus, Open) ∷ (Bus, Answer 0) ∷ (Bus, Hurt []) ∷ (Bus, Finish) ∷ [])
    ≡ Done (Accepted 0 1 ∷ []) ∷ opened ∷ Done (Put 0 to_all ∷ []) ∷ Done [] ∷ Done (Seen Damaged ∷ Lost 0 1 ByDamage ∷ []) ∷ []
unfolding reply
message_to_all_damaged = refl

pub refused_sends_to_all : replies ((Host 2, Send 2 126 (1 ∷ [])) ∷ (Host 0, Send 0 126 []) ∷ (Host 0, Send 0 126 (1 ∷ 2 ∷ 3 ∷ 4 ∷ 5 ∷ 6 ∷ 7 ∷ [])) ∷ (Host 0, Send 4 126 (1 ∷ [])) ∷ (Host 0, Send 0 127 (1 ∷ [])) ∷ [])
    ≡ Refused NoAddress ∷ Refused BadLength ∷ Refused BadLength ∷ Refused NoSuchNode ∷ Refused NoSuchNode ∷ []
unfolding reply
refused_sends_to_all = refl

pub read_on_both : (reading cluster (past ((Host 0, Send 0 126 (0x3E ∷ 0x80 ∷ [])) ∷ slot)) (record { node = 2; dir = Down }) ≡ (0x3E ∷ 0x80 ∷ []) ∷ [])
    × (reading cluster (past ((Host 0, Send 0 126 (0x3E ∷ 0x80 ∷ [])) ∷ slot)) (record { node = 3; dir = Down }) ≡ (0x3E ∷ 0x80 ∷ []) ∷ [])
unfolding reply
read_on_both = (refl, refl)

-- one to node 2 in two frames, one to all, one to node 3: on both links the one to all stands at its place
abbrev seven : List ℕ
seven = 1 ∷ 2 ∷ 3 ∷ 4 ∷ 5 ∷ 6 ∷ 7 ∷ []

abbrev mixed : List LogEntry
mixed = past ((Host 0, Send 0 2 seven) ∷ (Host 0, Send 0 126 (0x3E ∷ 0x80 ∷ [])) ∷ (Host 0, Send 0 3 (9 ∷ [])) ∷ slot ++ slot ++ slot ++ slot)

abbrev two : Link
two = record { node = 2; dir = Down }

abbrev three : Link
three = record { node = 3; dir = Down }

pub frames-on-two : map block_frames (blocks cluster mixed two)
    ≡ ((5 ∷ 0x10 ∷ 7 ∷ 1 ∷ 2 ∷ 3 ∷ 4 ∷ 5 ∷ []) ∷ (5 ∷ 0x21 ∷ 6 ∷ 7 ∷ 255 ∷ 255 ∷ 255 ∷ 255 ∷ []) ∷ []) ∷ ((126 ∷ 2 ∷ 0x3E ∷ 0x80 ∷ 255 ∷ 255 ∷ 255 ∷ 255 ∷ []) ∷ []) ∷ []
unfolding reply
frames-on-two = refl

pub frames-on-three : map block_frames (blocks cluster mixed three)
    ≡ ((126 ∷ 2 ∷ 0x3E ∷ 0x80 ∷ 255 ∷ 255 ∷ 255 ∷ 255 ∷ []) ∷ []) ∷ ((9 ∷ 1 ∷ 9 ∷ 255 ∷ 255 ∷ 255 ∷ 255 ∷ 255 ∷ []) ∷ []) ∷ []
unfolding reply
frames-on-three = refl

pub agrees-on-two : AgreesOn cluster mixed two
unfolding reply
agrees-on-two = refl

pub agrees-on-three : AgreesOn cluster mixed three
unfolding reply
agrees-on-three = refl

-- read by both, with those of their own
pub reads-on-two : reading cluster mixed two ≡ seven ∷ (0x3E ∷ 0x80 ∷ []) ∷ []
unfolding reply
reads-on-two = refl

pub reads-on-three : reading cluster mixed three ≡ (0x3E ∷ 0x80 ∷ []) ∷ (9 ∷ []) ∷ []
unfolding reply
reads-on-three = refl

pub sent-on-three : map (λ (s : Sending). s.message.bytes) (filter (is_sent_over cluster three) (sendings cluster mixed 0)) ≡ (0x3E ∷ 0x80 ∷ []) ∷ (9 ∷ []) ∷ []
unfolding reply
sent-on-three = refl

-- no link up reads it
pub reads-up : reading cluster mixed (record { node = 2; dir = Up }) ≡ []
unfolding reply
reads-up = refl

-- nobody has an address
abbrev alone : Parts
alone = record cluster { nodes = record { name = []; nad = None } ∷ record { name = []; nad = None } ∷ [] }

pub nobody_to_send_to : map (λ (e : LogEntry). e.reply) (history alone 0 16 ((Host 0, Send 0 126 (1 ∷ [])) ∷ [])) ≡ Refused NoAddress ∷ []
unfolding reply
nobody_to_send_to = refl
