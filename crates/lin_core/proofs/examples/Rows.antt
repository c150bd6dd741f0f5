-- Worked examples on a cluster of a commander and one responder with the address 1, whose table has a master request and a
-- slave response entry of 10 ms each.
use Rattle.std.specs.Prelude.{◌≡◌, ℕ, List, [], ◌∷◌, ◌++◌, length, map, replicate, reverse, Some, None}
use Rattle.std.proofs.Common.{refl}
use Rattle.lin_parts.specs.declared.parts.Parts.{Parts}
use Rattle.lin_parts.specs.declared.parts.Entry.TheVariants.{MasterReq, SlaveResp}
use Rattle.lin_core.specs.History.{time, undecided_count}
use Rattle.lin_core.specs.Links.{waiting}
use Rattle.lin_core.specs.Runs.{history}
use Rattle.lin_core.specs.Replies.{reply}
use Rattle.lin_core.specs.declared.log.LogEntry.{LogEntry}
use Rattle.lin_core.specs.declared.port.PortId.{PortId}
use Rattle.lin_core.specs.declared.port.PortId.TheVariants.{Bus, Host, Node}
use Rattle.lin_core.specs.declared.step.Step.{Step}
use Rattle.lin_core.specs.declared.step.Step.TheVariants.{Send, Open, Answer, Finish}
use Rattle.lin_core.specs.declared.event.Event.TheVariants.{Accepted, Slot, Due, Put, Seen, Message, Sent}
use Rattle.lin_core.specs.declared.event.Seen.TheVariants.{Silent, Good, NoAnswer}
use Rattle.lin_core.specs.declared.reply.Reply.{Reply}
use Rattle.lin_core.specs.declared.reply.Reply.TheVariants.{Done, Refused}
use Rattle.lin_core.specs.declared.reply.Refusal.TheVariants.{NoSuchNode, NoAddress, BadLength, QueueFull, SlotOpen, NoSlot, NotYours, Decided}

abbrev pub cluster_a : Parts
cluster_a =
    record {
      nodes = record { name = 99 ∷ 101 ∷ 109 ∷ []; nad = None } ∷ record { name = 100 ∷ 111 ∷ 111 ∷ 114 ∷ []; nad = Some 1 } ∷ [];
      signals = [];
      frames = [];
      sporadic = [];
      events = [];
      tables = record { name = 84 ∷ []; lines = record { entry = MasterReq; delay_us = 10000 } ∷ record { entry = SlaveResp; delay_us = 10000 } ∷ [] } ∷ [];
      errors = [];
      identities = [];
      speed = 19200;
      jitter_us = 100;
      base_us = 5000;
    }

-- the log of these steps, the newest entry first; the steps stand in order
abbrev after : ℕ → List (PortId × Step) → List LogEntry
after capacity steps = history cluster_a 0 capacity (reverse steps)

-- what they are answered, in order
abbrev replies : ℕ → List (PortId × Step) → List Reply
replies capacity steps = reverse (map (λ (e : LogEntry). e.reply) (after capacity steps))

-- a master request slot and a slave response slot, by the bus alone
abbrev master : List (PortId × Step)
master = (Bus, Open) ∷ (Bus, Answer 0) ∷ (Bus, Finish) ∷ []

abbrev slave : List (PortId × Step)
slave = (Bus, Open) ∷ (Bus, Finish) ∷ []

abbrev sends : List ℕ → PortId × Step
sends message = (Host 0, Send 0 1 message)

-- == three_byte_message
abbrev three : List ℕ
three = 0x22 ∷ 6 ∷ 0x2E ∷ []

abbrev three_answer : List ℕ
three_answer = 1 ∷ 3 ∷ 0x22 ∷ 6 ∷ 0x2E ∷ 255 ∷ 255 ∷ 255 ∷ 0xA5 ∷ []

abbrev three_steps : List (PortId × Step)
three_steps = sends three ∷ (Bus, Open) ∷ (Node 0, Answer 0) ∷ (Bus, Finish) ∷ []

pub three_byte_message : replies 16 three_steps
    ≡ Done (Accepted 0 1 ∷ [])
    ∷ Done (Slot 0 0 (Some 0x3C) ∷ Due 0 ∷ [])
    ∷ Done (Put 0 three_answer ∷ [])
    ∷ Done (Seen (Good three_answer) ∷ Message 0 1 three ∷ Sent 0 1 ∷ []) ∷ []
unfolding reply
three_byte_message = refl

pub three_byte_time : time cluster_a (after 16 three_steps) ≡ 10000
unfolding reply
three_byte_time = refl

-- == six_and_seven_bytes: the message of six bytes
abbrev six : List ℕ
six = 1 ∷ 2 ∷ 3 ∷ 4 ∷ 5 ∷ 6 ∷ []

abbrev six_answer : List ℕ
six_answer = 1 ∷ 6 ∷ 1 ∷ 2 ∷ 3 ∷ 4 ∷ 5 ∷ 6 ∷ 0xE3 ∷ []

pub six_bytes : replies 16 (sends six ∷ master)
    ≡ Done (Accepted 0 1 ∷ [])
    ∷ Done (Slot 0 0 (Some 0x3C) ∷ Due 0 ∷ [])
    ∷ Done (Put 0 six_answer ∷ [])
    ∷ Done (Seen (Good six_answer) ∷ Message 0 1 six ∷ Sent 0 1 ∷ []) ∷ []
unfolding reply
six_bytes = refl

-- == refused_sends
abbrev refused_steps : List (PortId × Step)
refused_steps =
    (Host 0, Send 0 1 [])
    ∷ (Host 0, Send 0 1 (replicate 4096 90))
    ∷ (Host 0, Send 0 0 (1 ∷ []))
    ∷ (Host 0, Send 0 9 [])
    ∷ []

pub refused_sends : replies 16 refused_steps ≡ Refused BadLength ∷ Refused BadLength ∷ Refused NoAddress ∷ Refused NoSuchNode ∷ []
unfolding reply
refused_sends = refl

pub refused_sends_waiting : length (waiting cluster_a (after 16 refused_steps) 0) ≡ 0
unfolding reply
refused_sends_waiting = refl

pub refused_sends_logged : length (after 16 refused_steps) ≡ 4
unfolding reply
refused_sends_logged = refl

-- == queue_of_one
abbrev one_answer : List ℕ
one_answer = 1 ∷ 1 ∷ 1 ∷ 255 ∷ 255 ∷ 255 ∷ 255 ∷ 255 ∷ 0xFC ∷ []

pub queue_of_one : replies 1 (sends (1 ∷ []) ∷ sends (1 ∷ []) ∷ master ++ sends (1 ∷ []) ∷ [])
    ≡ Done (Accepted 0 1 ∷ [])
    ∷ Refused QueueFull
    ∷ Done (Slot 0 0 (Some 0x3C) ∷ Due 0 ∷ [])
    ∷ Done (Put 0 one_answer ∷ [])
    ∷ Done (Seen (Good one_answer) ∷ Message 0 1 (1 ∷ []) ∷ Sent 0 1 ∷ [])
    ∷ Done (Accepted 0 2 ∷ []) ∷ []
unfolding reply
queue_of_one = refl

-- == left_out_answer_only_delays
abbrev left_out_steps : List (PortId × Step)
left_out_steps = sends (1 ∷ []) ∷ slave ++ slave ++ master

pub left_out_answer_only_delays : replies 16 left_out_steps
    ≡ Done (Accepted 0 1 ∷ [])
    ∷ Done (Slot 0 0 (Some 0x3C) ∷ Due 0 ∷ [])
    ∷ Done (Seen NoAnswer ∷ [])
    ∷ Done (Slot 0 1 (Some 0x7D) ∷ [])
    ∷ Done (Seen NoAnswer ∷ [])
    ∷ Done (Slot 0 0 (Some 0x3C) ∷ Due 0 ∷ [])
    ∷ Done (Put 0 one_answer ∷ [])
    ∷ Done (Seen (Good one_answer) ∷ Message 0 1 (1 ∷ []) ∷ Sent 0 1 ∷ []) ∷ []
unfolding reply
left_out_answer_only_delays = refl

-- == steps that are refused in and out of a slot
abbrev refused_slot_steps : List (PortId × Step)
refused_slot_steps =
    (Bus, Finish)
    ∷ (Host 0, Open)
    ∷ sends (1 ∷ [])
    ∷ (Bus, Open)
    ∷ (Bus, Open)
    ∷ (Node 1, Answer 0)
    ∷ (Bus, Answer 1)
    ∷ (Bus, Answer 0)
    ∷ (Bus, Answer 0)
    ∷ []

pub refused_in_slots : replies 16 refused_slot_steps
    ≡ Refused NoSlot
    ∷ Refused NotYours
    ∷ Done (Accepted 0 1 ∷ [])
    ∷ Done (Slot 0 0 (Some 0x3C) ∷ Due 0 ∷ [])
    ∷ Refused SlotOpen
    ∷ Refused NotYours
    ∷ Refused NotYours
    ∷ Done (Put 0 one_answer ∷ [])
    ∷ Refused Decided ∷ []
unfolding reply
refused_in_slots = refl

-- the node that is due in an open slot is counted until it has answered
pub undecided_before : undecided_count (after 16 (sends (1 ∷ []) ∷ (Bus, Open) ∷ [])) ≡ 1
unfolding reply
undecided_before = refl

pub undecided_after : undecided_count (after 16 (sends (1 ∷ []) ∷ (Bus, Open) ∷ (Bus, Answer 0) ∷ [])) ≡ 0
unfolding reply
undecided_after = refl

-- nothing waits: the slot is silent
pub silent : replies 16 slave ≡ Done (Slot 0 0 None ∷ []) ∷ Done (Seen Silent ∷ []) ∷ []
unfolding reply
silent = refl
