-- Worked examples of signals and schedules, on a cluster of a commander (0) and two responders, with a sporadic frame of the commander's two frames,
-- an event-triggered frame of the responders' two frames, and a table that resolves its collisions.
use Rattle.std.specs.Prelude.{◌≡◌, ℕ, List, [], ◌∷◌, ◌++◌, map, reverse, Some, None, false}
use Rattle.std.proofs.Common.{refl}
use Rattle.lin_frame.specs.declared.sums.SumKind.TheVariants.{Enhanced}
use Rattle.lin_frame.specs.declared.value.Value.TheVariants.{Scalar, Bytes}
use Rattle.lin_parts.specs.declared.parts.Parts.{Parts}
use Rattle.lin_parts.specs.declared.parts.Entry.TheVariants.{MasterReq, SlaveResp, Sporadic, Event as EventEntry, Frame as FrameEntry}
use Rattle.lin_core.specs.History.{time}
use Rattle.lin_core.specs.Signals.{value_at}
use Rattle.lin_core.specs.Runs.{history}
use Rattle.lin_core.specs.Replies.{reply}
use Rattle.lin_core.specs.declared.log.LogEntry.{LogEntry}
use Rattle.lin_core.specs.declared.port.PortId.{PortId}
use Rattle.lin_core.specs.declared.port.PortId.TheVariants.{Bus, Host, Node}
use Rattle.lin_core.specs.declared.step.Step.{Step}
use Rattle.lin_core.specs.declared.step.Step.TheVariants.{Write, Open, Answer, Finish, Switch}
use Rattle.lin_core.specs.declared.event.Event.TheVariants.{Slot, Due, Put, Seen}
use Rattle.lin_core.specs.declared.event.Seen.TheVariants.{Silent, NoAnswer, Good, Collided}
use Rattle.lin_core.specs.declared.reply.Reply.{Reply}
use Rattle.lin_core.specs.declared.reply.Reply.TheVariants.{Done, Refused}
use Rattle.lin_core.specs.declared.reply.Refusal.TheVariants.{NoSuchSignal, NoSuchTable, NotPublisher, BadValue, SlotOpen, NoSlot, NotYours}

abbrev pub cluster_b : Parts
cluster_b =
    record {
      nodes = record { name = []; nad = None } ∷ record { name = []; nad = Some 1 } ∷ record { name = []; nad = Some 2 } ∷ [];
      signals =
          record { name = []; publisher = 0; subscribers = []; size = 4; initial = Scalar 2 }
          ∷ record { name = []; publisher = 0; subscribers = []; size = 10; initial = Scalar 0x155 }
          ∷ record { name = []; publisher = 0; subscribers = []; size = 8; initial = Scalar 5 }
          ∷ record { name = []; publisher = 1; subscribers = []; size = 8; initial = Scalar 0 }
          ∷ record { name = []; publisher = 2; subscribers = []; size = 8; initial = Scalar 0 }
          ∷ [];
      frames =
          record {
            name = [];
            pid = 0x80;
            model = Enhanced;
            publisher = 0;
            layout = record { len = 2; pid = None; places = record { offset = 0; size = 4; array = false } ∷ record { offset = 4; size = 10; array = false } ∷ [] };
            signals = 0 ∷ 1 ∷ [];
          }
          ∷ record { name = []; pid = 0xC1; model = Enhanced; publisher = 0; layout = record { len = 1; pid = None; places = record { offset = 0; size = 8; array = false } ∷ [] }; signals = 2 ∷ [] }
          ∷ record { name = []; pid = 0x42; model = Enhanced; publisher = 1; layout = record { len = 2; pid = Some 0x42; places = record { offset = 8; size = 8; array = false } ∷ [] }; signals = 3 ∷ [] }
          ∷ record { name = []; pid = 0x03; model = Enhanced; publisher = 2; layout = record { len = 2; pid = Some 0x03; places = record { offset = 8; size = 8; array = false } ∷ [] }; signals = 4 ∷ [] }
          ∷ [];
      sporadic = record { name = []; frames = 0 ∷ 1 ∷ [] } ∷ [];
      events = record { name = []; pid = 0xC4; model = Enhanced; table = 1; frames = 2 ∷ 3 ∷ [] } ∷ [];
      tables =
          record { name = []; lines = record { entry = Sporadic 0; delay_us = 10000 } ∷ record { entry = EventEntry 0; delay_us = 10000 } ∷ record { entry = FrameEntry 0; delay_us = 10000 } ∷ [] }
          ∷ record { name = []; lines = record { entry = FrameEntry 2; delay_us = 10000 } ∷ record { entry = FrameEntry 3; delay_us = 10000 } ∷ [] }
          ∷ record { name = []; lines = record { entry = MasterReq; delay_us = 10000 } ∷ record { entry = SlaveResp; delay_us = 10000 } ∷ [] }
          ∷ [];
      errors = [];
      identities = [];
      speed = 19200;
      jitter_us = 100;
      base_us = 5000;
    }

-- the log of these steps, the newest entry first; the steps stand in order
abbrev after : List (PortId × Step) → List LogEntry
after steps = history cluster_b 0 16 (reverse steps)

-- what they are answered, in order
abbrev replies : List (PortId × Step) → List Reply
replies steps = reverse (map (λ (e : LogEntry). e.reply) (after steps))

abbrev slot : List (PortId × Step)
slot = (Bus, Open) ∷ (Bus, Finish) ∷ []

abbrev slot_of : ℕ → List (PortId × Step)
slot_of node = (Bus, Open) ∷ (Bus, Answer node) ∷ (Bus, Finish) ∷ []

abbrev write : ℕ → ℕ → ℕ → PortId × Step
write node signal x = (Host node, Write node signal (Scalar x))

-- == collision_and_resolution
pub collision_and_resolution
    : replies ((write 1 3 17 ∷ write 2 4 34 ∷ slot) ++ ((Bus, Open) ∷ (Node 1, Answer 1) ∷ (Node 2, Answer 2) ∷ (Bus, Finish) ∷ []) ++ slot_of 1 ++ slot_of 2 ++ (Bus, Open) ∷ [])
    ≡ Done []
    ∷ Done []
    ∷ Done (Slot 0 0 None ∷ [])
    ∷ Done (Seen Silent ∷ [])
    ∷ Done (Slot 0 1 (Some 0xC4) ∷ Due 1 ∷ Due 2 ∷ [])
    ∷ Done (Put 1 (0x42 ∷ 0x11 ∷ 0xE7 ∷ []) ∷ [])
    ∷ Done (Put 2 (0x03 ∷ 0x22 ∷ 0x16 ∷ []) ∷ [])
    ∷ Done (Seen Collided ∷ [])
    ∷ Done (Slot 1 0 (Some 0x42) ∷ Due 1 ∷ [])
    ∷ Done (Put 1 (0x42 ∷ 0x11 ∷ 0x6A ∷ []) ∷ [])
    ∷ Done (Seen (Good (0x42 ∷ 0x11 ∷ 0x6A ∷ [])) ∷ [])
    ∷ Done (Slot 1 1 (Some 0x03) ∷ Due 2 ∷ [])
    ∷ Done (Put 2 (0x03 ∷ 0x22 ∷ 0xD7 ∷ []) ∷ [])
    ∷ Done (Seen (Good (0x03 ∷ 0x22 ∷ 0xD7 ∷ [])) ∷ [])
    ∷ Done (Slot 0 2 (Some 0x80) ∷ Due 0 ∷ []) ∷ []
unfolding reply
collision_and_resolution = refl

-- == sporadic_updates
abbrev light : List ℕ
light = 0x53 ∷ 0xD5 ∷ 0x56 ∷ []

pub sporadic_updates
    : replies ((write 0 2 7 ∷ write 0 0 3 ∷ slot_of 0) ++ slot ++ slot_of 0 ++ ((Bus, Open) ∷ (Bus, Answer 0) ∷ write 0 2 9 ∷ (Bus, Finish) ∷ slot) ++ slot ++ slot_of 0 ++ slot ++ slot ++ (Bus, Open) ∷ [])
    ≡ Done []
    ∷ Done []
    ∷ Done (Slot 0 0 (Some 0x80) ∷ Due 0 ∷ [])
    ∷ Done (Put 0 light ∷ [])
    ∷ Done (Seen (Good light) ∷ [])
    ∷ Done (Slot 0 1 (Some 0xC4) ∷ [])
    ∷ Done (Seen NoAnswer ∷ [])
    ∷ Done (Slot 0 2 (Some 0x80) ∷ Due 0 ∷ [])
    ∷ Done (Put 0 light ∷ [])
    ∷ Done (Seen (Good light) ∷ [])
    ∷ Done (Slot 0 0 (Some 0xC1) ∷ Due 0 ∷ [])
    ∷ Done (Put 0 (0x07 ∷ 0x37 ∷ []) ∷ [])
    ∷ Done []
    ∷ Done (Seen (Good (0x07 ∷ 0x37 ∷ [])) ∷ [])
    ∷ Done (Slot 0 1 (Some 0xC4) ∷ [])
    ∷ Done (Seen NoAnswer ∷ [])
    ∷ Done (Slot 0 2 (Some 0x80) ∷ Due 0 ∷ [])
    ∷ Done (Seen NoAnswer ∷ [])
    ∷ Done (Slot 0 0 (Some 0xC1) ∷ Due 0 ∷ [])
    ∷ Done (Put 0 (0x09 ∷ 0x35 ∷ []) ∷ [])
    ∷ Done (Seen (Good (0x09 ∷ 0x35 ∷ [])) ∷ [])
    ∷ Done (Slot 0 1 (Some 0xC4) ∷ [])
    ∷ Done (Seen NoAnswer ∷ [])
    ∷ Done (Slot 0 2 (Some 0x80) ∷ Due 0 ∷ [])
    ∷ Done (Seen NoAnswer ∷ [])
    ∷ Done (Slot 0 0 None ∷ []) ∷ []
unfolding reply
sporadic_updates = refl

-- == refused_writes
pub refused_writes
    : replies (write 1 0 1 ∷ (Bus, Write 1 0 (Scalar 1)) ∷ write 0 0 16 ∷ write 0 5 0 ∷ (Bus, Write 0 0 (Bytes (1 ∷ []))) ∷ (Host 1, Write 0 0 (Scalar 1)) ∷ (Bus, Switch 3) ∷ (Bus, Finish) ∷ (Bus, Open) ∷ (Bus, Switch 0) ∷ [])
    ≡ Refused NotPublisher
    ∷ Refused NotPublisher
    ∷ Refused BadValue
    ∷ Refused NoSuchSignal
    ∷ Refused BadValue
    ∷ Refused NotYours
    ∷ Refused NoSuchTable
    ∷ Refused NoSlot
    ∷ Done (Slot 0 0 None ∷ [])
    ∷ Refused SlotOpen ∷ []
unfolding reply
refused_writes = refl

-- what the first signal's value is for its publisher and for another node: before and after a good frame with it
abbrev written : List (PortId × Step)
written = (Bus, Switch 0) ∷ write 0 0 3 ∷ (Bus, Open) ∷ (Bus, Answer 0) ∷ []

pub own_value_before : value_at cluster_b (after written) 0 0 ≡ Scalar 3
unfolding reply
own_value_before = refl

pub heard_value_before : value_at cluster_b (after written) 1 0 ≡ Scalar 2
unfolding reply
heard_value_before = refl

pub heard_value_after : value_at cluster_b (after (written ++ (Bus, Finish) ∷ [])) 1 0 ≡ Scalar 3
unfolding reply
heard_value_after = refl

-- a damaged event-triggered slot comes with the steps that disturb; a switch in an excursion starts the named table
pub switch_in_an_excursion
    : replies ((write 1 3 17 ∷ write 2 4 34 ∷ slot) ++ ((Bus, Open) ∷ (Bus, Answer 1) ∷ (Bus, Answer 2) ∷ (Bus, Finish) ∷ (Bus, Open) ∷ (Bus, Finish) ∷ (Bus, Switch 2) ∷ (Bus, Open) ∷ []))
    ≡ Done []
    ∷ Done []
    ∷ Done (Slot 0 0 None ∷ [])
    ∷ Done (Seen Silent ∷ [])
    ∷ Done (Slot 0 1 (Some 0xC4) ∷ Due 1 ∷ Due 2 ∷ [])
    ∷ Done (Put 1 (0x42 ∷ 0x11 ∷ 0xE7 ∷ []) ∷ [])
    ∷ Done (Put 2 (0x03 ∷ 0x22 ∷ 0x16 ∷ []) ∷ [])
    ∷ Done (Seen Collided ∷ [])
    ∷ Done (Slot 1 0 (Some 0x42) ∷ Due 1 ∷ [])
    ∷ Done (Seen NoAnswer ∷ [])
    ∷ Done []
    ∷ Done (Slot 2 0 None ∷ []) ∷ []
unfolding reply
switch_in_an_excursion = refl

pub time_after : time cluster_b (after (slot ++ slot)) ≡ 20000
unfolding reply
time_after = refl
