-- Worked examples of messages of several frames, damage, absence, timeouts, sleep and closes, on the two clusters of the other rows.
use Rattle.std.specs.Prelude.{◌≡◌, ℕ, List, [], ◌∷◌, ◌++◌, map, reverse, Some, None}
use Rattle.std.proofs.Common.{refl}
use Rattle.lin_frame.specs.declared.value.Value.TheVariants.{Scalar}
use Rattle.lin_parts.specs.declared.parts.Parts.{Parts}
use Rattle.lin_core.specs.Runs.{history}
use Rattle.lin_core.specs.Replies.{reply}
use Rattle.lin_core.specs.declared.log.LogEntry.{LogEntry}
use Rattle.lin_core.specs.declared.port.PortId.{PortId}
use Rattle.lin_core.specs.declared.port.PortId.TheVariants.{Bus, Host, Node}
use Rattle.lin_core.specs.declared.link.Cause.TheVariants.{Damaged as ByDamage, TimedOut, Slept}
use Rattle.lin_core.specs.declared.link.Direction.TheVariants.{Down, Up}
use Rattle.lin_core.specs.declared.step.Step.{Step}
use Rattle.lin_core.specs.declared.step.Step.TheVariants.{Send, Write, Open, Answer, Leave, Hurt, Finish, Timeout, Switch, AskSleep, Wake, Close}
use Rattle.lin_core.specs.declared.event.Event.TheVariants.{Accepted, Slot, Due, Put, Seen, Message, Sent, Lost, Asleep as FallsAsleep}
use Rattle.lin_core.specs.declared.event.Seen.TheVariants.{Silent, NoAnswer, Good, Damaged}
use Rattle.lin_core.specs.declared.reply.Reply.{Reply}
use Rattle.lin_core.specs.declared.reply.Reply.TheVariants.{Done, Refused}
use Rattle.lin_core.specs.declared.reply.Refusal.TheVariants.{Closed, Asleep, Awake, SlotOpen, Decided, NothingOnWire, PassesCheck, NoTransfer}
use Rattle.lin_core.proofs.examples.Rows.{cluster_a}
use Rattle.lin_core.proofs.examples.SignalRows.{cluster_b}

-- what these steps are answered, in order
abbrev replies : Parts → ℕ → List (PortId × Step) → List Reply
replies c opening steps = reverse (map (λ (e : LogEntry). e.reply) (history c opening 16 (reverse steps)))

-- a slot in which a node answers, and one in which nobody does
abbrev answered : ℕ → List (PortId × Step)
answered node = (Bus, Open) ∷ (Bus, Answer node) ∷ (Bus, Finish) ∷ []

abbrev empty : List (PortId × Step)
empty = (Bus, Open) ∷ (Bus, Finish) ∷ []

-- what the slots are answered
abbrev opened : ℕ → ℕ → ℕ → ℕ → Reply
opened table entry header node = Done (Slot table entry (Some header) ∷ Due node ∷ [])

abbrev no_answer : List Reply
no_answer = Done (Slot 0 1 (Some 0x7D) ∷ []) ∷ Done (Seen NoAnswer ∷ []) ∷ []

-- == six_and_seven_bytes: the message of seven bytes
abbrev seven : List ℕ
seven = 1 ∷ 2 ∷ 3 ∷ 4 ∷ 5 ∷ 6 ∷ 7 ∷ []

abbrev seven_first : List ℕ
seven_first = 1 ∷ 0x10 ∷ 7 ∷ 1 ∷ 2 ∷ 3 ∷ 4 ∷ 5 ∷ 0xD8 ∷ []

abbrev seven_second : List ℕ
seven_second = 1 ∷ 0x21 ∷ 6 ∷ 7 ∷ 255 ∷ 255 ∷ 255 ∷ 255 ∷ 0xD0 ∷ []

pub seven_bytes : replies cluster_a 0 ((Host 0, Send 0 1 seven) ∷ answered 0 ++ empty ++ answered 0)
    ≡ Done (Accepted 0 1 ∷ []) ∷ opened 0 0 0x3C 0 ∷ Done (Put 0 seven_first ∷ []) ∷ Done (Seen (Good seven_first) ∷ [])
    ∷ no_answer ++ opened 0 0 0x3C 0 ∷ Done (Put 0 seven_second ∷ []) ∷ Done (Seen (Good seven_second) ∷ Message 0 1 seven ∷ Sent 0 1 ∷ []) ∷ []
unfolding reply
seven_bytes = refl

-- == damage_in_the_middle, with messages of two frames
pub damage_in_the_middle
    : replies cluster_a 0 ((Host 0, Send 0 1 seven) ∷ (Host 0, Send 0 1 seven) ∷ answered 0 ++ empty ++ (Bus, Open) ∷ (Bus, Answer 0) ∷ (Bus, Hurt []) ∷ (Bus, Finish) ∷ empty ++ answered 0 ++ empty ++ answered 0)
    ≡ Done (Accepted 0 1 ∷ []) ∷ Done (Accepted 0 2 ∷ []) ∷ opened 0 0 0x3C 0 ∷ Done (Put 0 seven_first ∷ []) ∷ Done (Seen (Good seven_first) ∷ [])
    ∷ no_answer ++ opened 0 0 0x3C 0 ∷ Done (Put 0 seven_second ∷ []) ∷ Done [] ∷ Done (Seen Damaged ∷ Lost 0 1 ByDamage ∷ [])
    ∷ no_answer ++ opened 0 0 0x3C 0 ∷ Done (Put 0 seven_first ∷ []) ∷ Done (Seen (Good seven_first) ∷ [])
    ∷ no_answer ++ opened 0 0 0x3C 0 ∷ Done (Put 0 seven_second ∷ []) ∷ Done (Seen (Good seven_second) ∷ Message 0 1 seven ∷ Sent 0 2 ∷ []) ∷ []
unfolding reply
damage_in_the_middle = refl

-- == hurt_that_passes
abbrev three : List ℕ
three = 0x22 ∷ 6 ∷ 0x2E ∷ []

abbrev three_answer : List ℕ
three_answer = 1 ∷ 3 ∷ 0x22 ∷ 6 ∷ 0x2E ∷ 255 ∷ 255 ∷ 255 ∷ 0xA5 ∷ []

abbrev three_other : List ℕ
three_other = 1 ∷ 3 ∷ 0x22 ∷ 6 ∷ 0x2F ∷ 255 ∷ 255 ∷ 255 ∷ 0xA4 ∷ []

pub hurt_that_passes
    : replies cluster_a 0 ((Host 0, Send 0 1 three) ∷ (Bus, Open) ∷ (Bus, Hurt []) ∷ (Bus, Answer 0) ∷ (Bus, Hurt three_other) ∷ (Bus, Hurt three_answer) ∷ (Bus, Hurt []) ∷ (Bus, Hurt []) ∷ (Bus, Finish) ∷ [])
    ≡ Done (Accepted 0 1 ∷ [])
    ∷ opened 0 0 0x3C 0
    ∷ Refused NothingOnWire
    ∷ Done (Put 0 three_answer ∷ [])
    ∷ Refused PassesCheck
    ∷ Refused PassesCheck
    ∷ Done []
    ∷ Refused Decided
    ∷ Done (Seen Damaged ∷ Lost 0 1 ByDamage ∷ []) ∷ []
unfolding reply
hurt_that_passes = refl

-- == damaged_event_slot
abbrev event_answer : List ℕ
event_answer = 0x42 ∷ 0x11 ∷ 0xE7 ∷ []

abbrev damaged_steps : List (PortId × Step)
damaged_steps = (Host 1, Write 1 3 (Scalar 17)) ∷ empty ++ (Bus, Open) ∷ (Bus, Answer 1) ∷ (Bus, Hurt []) ∷ (Bus, Finish) ∷ []

abbrev damaged_replies : List Reply
damaged_replies =
    Done []
    ∷ Done (Slot 0 0 None ∷ [])
    ∷ Done (Seen Silent ∷ [])
    ∷ Done (Slot 0 1 (Some 0xC4) ∷ Due 1 ∷ [])
    ∷ Done (Put 1 event_answer ∷ [])
    ∷ Done []
    ∷ Done (Seen Damaged ∷ []) ∷ []

pub damaged_event_slot : replies cluster_b 0 (damaged_steps ++ (Bus, Open) ∷ (Node 1, Leave 1) ∷ (Bus, Finish) ∷ empty ++ empty ++ empty ++ (Bus, Open) ∷ [])
    ≡ damaged_replies
    ++ opened 1 0 0x42 1 ∷ Done [] ∷ Done (Seen NoAnswer ∷ [])
    ∷ opened 1 1 3 2 ∷ Done (Seen NoAnswer ∷ [])
    ∷ opened 0 2 0x80 0 ∷ Done (Seen NoAnswer ∷ [])
    ∷ Done (Slot 0 0 None ∷ []) ∷ Done (Seen Silent ∷ [])
    ∷ opened 0 1 0xC4 1 ∷ []
unfolding reply
damaged_event_slot = refl

pub damaged_and_switched : replies cluster_b 0 (damaged_steps ++ (Bus, Switch 2) ∷ (Bus, Open) ∷ []) ≡ damaged_replies ++ Done [] ∷ Done (Slot 2 0 None ∷ []) ∷ []
unfolding reply
damaged_and_switched = refl

-- == sleep_in_the_middle
abbrev eight : List ℕ
eight = 1 ∷ 2 ∷ 3 ∷ 4 ∷ 5 ∷ 6 ∷ 7 ∷ 8 ∷ []

abbrev eight_first : List ℕ
eight_first = 1 ∷ 0x10 ∷ 8 ∷ 1 ∷ 2 ∷ 3 ∷ 4 ∷ 5 ∷ 0xD7 ∷ []

abbrev eight_second : List ℕ
eight_second = 1 ∷ 0x21 ∷ 6 ∷ 7 ∷ 8 ∷ 255 ∷ 255 ∷ 255 ∷ 0xC8 ∷ []

abbrev up : List ℕ
up = 0x11 ∷ 0x22 ∷ 0x33 ∷ 0x44 ∷ 0x55 ∷ 0x66 ∷ 0x77 ∷ 0x88 ∷ []

abbrev up_first : List ℕ
up_first = 1 ∷ 0x10 ∷ 8 ∷ 0x11 ∷ 0x22 ∷ 0x33 ∷ 0x44 ∷ 0x55 ∷ 0xE6 ∷ []

abbrev up_second : List ℕ
up_second = 1 ∷ 0x21 ∷ 0x66 ∷ 0x77 ∷ 0x88 ∷ 255 ∷ 255 ∷ 255 ∷ 0x77 ∷ []

abbrev sleep : List ℕ
sleep = 0 ∷ 255 ∷ 255 ∷ 255 ∷ 255 ∷ 255 ∷ 255 ∷ 255 ∷ 0 ∷ []

pub sleep_in_the_middle
    : replies cluster_a 0 ((Host 0, Send 0 1 eight) ∷ (Host 1, Send 1 0 up) ∷ answered 0 ++ answered 1 ++ (Bus, AskSleep) ∷ answered 0 ++ empty ++ answered 0 ++ (Bus, Open) ∷ (Bus, AskSleep) ∷ (Bus, Wake) ∷ (Bus, Wake) ∷ empty ++ empty)
    ≡ Done (Accepted 0 1 ∷ []) ∷ Done (Accepted 1 1 ∷ [])
    ∷ opened 0 0 0x3C 0 ∷ Done (Put 0 eight_first ∷ []) ∷ Done (Seen (Good eight_first) ∷ [])
    ∷ opened 0 1 0x7D 1 ∷ Done (Put 1 up_first ∷ []) ∷ Done (Seen (Good up_first) ∷ [])
    ∷ Done []
    ∷ opened 0 0 0x3C 0 ∷ Done (Put 0 eight_second ∷ []) ∷ Done (Seen (Good eight_second) ∷ Message 0 1 eight ∷ Sent 0 1 ∷ [])
    ∷ opened 0 1 0x7D 1 ∷ Done (Seen NoAnswer ∷ [])
    ∷ opened 0 0 0x3C 0 ∷ Done (Put 0 sleep ∷ []) ∷ Done (Seen (Good sleep) ∷ FallsAsleep ∷ Lost 1 1 Slept ∷ [])
    ∷ Refused Asleep ∷ Refused Asleep ∷ Done [] ∷ Refused Awake
    ∷ Done (Slot 0 0 None ∷ []) ∷ Done (Seen Silent ∷ []) ∷ no_answer
unfolding reply
sleep_in_the_middle = refl

-- a damaged sleep frame is sent again, and nothing is asked after a good one
pub damaged_sleep
    : replies cluster_a 0 ((Bus, AskSleep) ∷ (Bus, AskSleep) ∷ (Bus, Open) ∷ (Bus, Answer 0) ∷ (Bus, Hurt []) ∷ (Bus, Finish) ∷ empty ++ answered 0 ++ (Bus, Timeout 1 Up) ∷ (Bus, Switch 0) ∷ (Bus, Open) ∷ (Bus, Wake) ∷ (Bus, Open) ∷ [])
    ≡ Done [] ∷ Done []
    ∷ opened 0 0 0x3C 0 ∷ Done (Put 0 sleep ∷ []) ∷ Done [] ∷ Done (Seen Damaged ∷ [])
    ∷ no_answer ++ opened 0 0 0x3C 0 ∷ Done (Put 0 sleep ∷ []) ∷ Done (Seen (Good sleep) ∷ FallsAsleep ∷ [])
    ∷ Refused NoTransfer ∷ Done [] ∷ Refused Asleep ∷ Done [] ∷ Done (Slot 0 0 None ∷ []) ∷ []
unfolding reply
damaged_sleep = refl

-- == two_responders_interleaved
abbrev down_one : List ℕ
down_one = 1 ∷ 1 ∷ 0x3E ∷ 255 ∷ 255 ∷ 255 ∷ 255 ∷ 255 ∷ 0xBF ∷ []

abbrev down_two : List ℕ
down_two = 2 ∷ 1 ∷ 0x3E ∷ 255 ∷ 255 ∷ 255 ∷ 255 ∷ 255 ∷ 0xBE ∷ []

abbrev up_two : List ℕ
up_two = 2 ∷ 1 ∷ 0x7E ∷ 255 ∷ 255 ∷ 255 ∷ 255 ∷ 255 ∷ 0x7E ∷ []

pub two_responders_interleaved
    : replies cluster_b 2 (((Host 0, Send 0 1 (0x3E ∷ [])) ∷ (Host 1, Send 1 0 up) ∷ answered 0 ++ answered 1) ++ ((Host 0, Send 0 2 (0x3E ∷ [])) ∷ (Host 2, Send 2 0 (0x7E ∷ [])) ∷ answered 0 ++ answered 2) ++ (Host 0, Send 0 1 (0x3E ∷ [])) ∷ answered 0 ++ answered 1)
    ≡ Done (Accepted 0 1 ∷ []) ∷ Done (Accepted 1 1 ∷ [])
    ∷ opened 2 0 0x3C 0 ∷ Done (Put 0 down_one ∷ []) ∷ Done (Seen (Good down_one) ∷ Message 0 1 (0x3E ∷ []) ∷ Sent 0 1 ∷ [])
    ∷ opened 2 1 0x7D 1 ∷ Done (Put 1 up_first ∷ []) ∷ Done (Seen (Good up_first) ∷ [])
    ∷ Done (Accepted 0 2 ∷ []) ∷ Done (Accepted 2 1 ∷ [])
    ∷ opened 2 0 0x3C 0 ∷ Done (Put 0 down_two ∷ []) ∷ Done (Seen (Good down_two) ∷ Message 0 2 (0x3E ∷ []) ∷ Sent 0 2 ∷ [])
    ∷ opened 2 1 0x7D 2 ∷ Done (Put 2 up_two ∷ []) ∷ Done (Seen (Good up_two) ∷ Message 2 0 (0x7E ∷ []) ∷ Sent 2 1 ∷ [])
    ∷ Done (Accepted 0 3 ∷ [])
    ∷ opened 2 0 0x3C 0 ∷ Done (Put 0 down_one ∷ []) ∷ Done (Seen (Good down_one) ∷ Message 0 1 (0x3E ∷ []) ∷ Sent 0 3 ∷ [])
    ∷ opened 2 1 0x7D 1 ∷ Done (Put 1 up_second ∷ []) ∷ Done (Seen (Good up_second) ∷ Message 1 0 up ∷ Sent 1 1 ∷ []) ∷ []
unfolding reply
two_responders_interleaved = refl

-- == close
abbrev one_byte : ℕ → ℕ → List ℕ
one_byte x sum = 1 ∷ 1 ∷ x ∷ 255 ∷ 255 ∷ 255 ∷ 255 ∷ 255 ∷ sum ∷ []

pub close
    : replies cluster_a 0 ((Host 0, Send 0 1 (1 ∷ [])) ∷ (Host 0, Send 0 1 (2 ∷ [])) ∷ (Host 0, Close 0) ∷ (Host 0, Send 0 1 (3 ∷ [])) ∷ (Host 0, Close 0) ∷ answered 0 ++ empty ++ answered 0)
    ≡ Done (Accepted 0 1 ∷ []) ∷ Done (Accepted 0 2 ∷ []) ∷ Done [] ∷ Refused Closed ∷ Refused Closed
    ∷ opened 0 0 0x3C 0 ∷ Done (Put 0 (one_byte 1 0xFC) ∷ []) ∷ Done (Seen (Good (one_byte 1 0xFC)) ∷ Message 0 1 (1 ∷ []) ∷ Sent 0 1 ∷ [])
    ∷ no_answer ++ opened 0 0 0x3C 0 ∷ Done (Put 0 (one_byte 2 0xFB) ∷ []) ∷ Done (Seen (Good (one_byte 2 0xFB)) ∷ Message 0 1 (2 ∷ []) ∷ Sent 0 2 ∷ []) ∷ []
unfolding reply
close = refl

-- == timeout
pub timeout
    : replies cluster_a 0 ((Host 0, Send 0 1 eight) ∷ answered 0 ++ (Bus, Timeout 1 Up) ∷ (Bus, Open) ∷ (Bus, Timeout 1 Down) ∷ (Bus, Finish) ∷ (Bus, Timeout 1 Down) ∷ (Bus, Timeout 1 Down) ∷ [])
    ≡ Done (Accepted 0 1 ∷ [])
    ∷ opened 0 0 0x3C 0 ∷ Done (Put 0 eight_first ∷ []) ∷ Done (Seen (Good eight_first) ∷ [])
    ∷ Refused NoTransfer
    ∷ Done (Slot 0 1 (Some 0x7D) ∷ []) ∷ Refused SlotOpen ∷ Done (Seen NoAnswer ∷ [])
    ∷ Done (Lost 0 1 TimedOut ∷ []) ∷ Refused NoTransfer ∷ []
unfolding reply
timeout = refl

-- a response that is left out only delays its message
pub left_out
    : replies cluster_a 0 ((Host 0, Send 0 1 (1 ∷ [])) ∷ (Bus, Open) ∷ (Node 0, Leave 0) ∷ (Node 0, Answer 0) ∷ (Bus, Finish) ∷ empty ++ answered 0)
    ≡ Done (Accepted 0 1 ∷ [])
    ∷ opened 0 0 0x3C 0 ∷ Done [] ∷ Refused Decided ∷ Done (Seen NoAnswer ∷ [])
    ∷ no_answer ++ opened 0 0 0x3C 0 ∷ Done (Put 0 (one_byte 1 0xFC) ∷ []) ∷ Done (Seen (Good (one_byte 1 0xFC)) ∷ Message 0 1 (1 ∷ []) ∷ Sent 0 1 ∷ []) ∷ []
unfolding reply
left_out = refl
