-- Worked examples of node configuration: requests of schedule tables, and the responses of responders.
use Rattle.std.specs.Prelude.{◌≡◌, ℕ, List, [], ◌∷◌, ◌++◌, map, reverse, Some, None}
use Rattle.std.proofs.Common.{refl}
use Rattle.lin_parts.specs.declared.parts.Parts.{Parts}
use Rattle.lin_parts.specs.declared.parts.Line.{Line}
use Rattle.lin_parts.specs.declared.parts.Identity.{Identity}
use Rattle.lin_parts.specs.declared.parts.Entry.{Entry}
use Rattle.lin_parts.specs.declared.parts.Entry.TheVariants.{SlaveResp, Fixed}
use Rattle.lin_core.specs.Runs.{history}
use Rattle.lin_core.specs.Replies.{reply}
use Rattle.lin_core.specs.declared.log.LogEntry.{LogEntry}
use Rattle.lin_core.specs.declared.port.PortId.{PortId}
use Rattle.lin_core.specs.declared.port.PortId.TheVariants.{Bus, Node as NodePort}
use Rattle.lin_core.specs.declared.step.Step.{Step}
use Rattle.lin_core.specs.declared.step.Step.TheVariants.{Open, Answer, Leave, Finish}
use Rattle.lin_core.specs.declared.event.Event.TheVariants.{Slot, Service, Due, Put, Seen}
use Rattle.lin_core.specs.declared.event.Seen.TheVariants.{NoAnswer, Good, Collided}
use Rattle.lin_core.specs.declared.reply.Reply.{Reply}
use Rattle.lin_core.specs.declared.reply.Reply.TheVariants.{Done, Refused}
use Rattle.lin_core.specs.declared.reply.Refusal.TheVariants.{NotYours}

abbrev line : Entry → Line
line entry = record { entry = entry; delay_us = 10000 }

-- a commander and two responders with these addresses, and one table
abbrev cluster : ℕ → ℕ → List Identity → List Entry → Parts
cluster a b identities entries =
    record {
      nodes = record { name = []; nad = None } ∷ record { name = []; nad = Some a } ∷ record { name = []; nad = Some b } ∷ [];
      signals = [];
      frames = [];
      sporadic = [];
      events = [];
      tables = record { name = []; lines = map line entries } ∷ [];
      errors = [];
      identities = identities;
      speed = 19200;
      jitter_us = 100;
      base_us = 5000;
    }

-- what these steps are answered, in order
abbrev replies : Parts → List (PortId × Step) → List Reply
replies c steps = reverse (map (λ (e : LogEntry). e.reply) (history c 0 16 (reverse steps)))

abbrev slot_of : ℕ → List (PortId × Step)
slot_of node = (Bus, Open) ∷ (Bus, Answer node) ∷ (Bus, Finish) ∷ []

-- the replies of a slot for a service, in which one node is due and answers
abbrev served : ℕ → ℕ → ℕ → List ℕ → List Reply
served entry header node answer =
    Done (Slot 0 entry (Some header) ∷ Service ∷ Due node ∷ []) ∷ Done (Put node answer ∷ []) ∷ Done (Seen (Good answer) ∷ []) ∷ []

-- == AssignNAD, AssignFrameIdRange, and ReadByIdentifier with an identifier that isn't supported
abbrev mirrors : Parts
mirrors =
    cluster 0x0A 0x0B
    (record { node = 1; initial = 1; product = Some (record { supplier = 0x2B; function = 0x1040; variant = 2 }); messages = None ∷ None ∷ None ∷ [] }
    ∷ record { node = 2; initial = 1; product = Some (record { supplier = 0x2B; function = 0x1041; variant = 2 }); messages = None ∷ None ∷ None ∷ [] }
    ∷ [])
    (Fixed (0x01 ∷ 0x06 ∷ 0xB0 ∷ 0x2B ∷ 0x00 ∷ 0x40 ∷ 0x10 ∷ 0x0A ∷ [])
    ∷ SlaveResp
    ∷ Fixed (0x0A ∷ 0x06 ∷ 0xB7 ∷ 0x00 ∷ 0x08 ∷ 0x20 ∷ 0xE2 ∷ 0xFF ∷ [])
    ∷ SlaveResp
    ∷ Fixed (0x0A ∷ 0x06 ∷ 0xB2 ∷ 0x01 ∷ 0x2B ∷ 0x00 ∷ 0x40 ∷ 0x10 ∷ [])
    ∷ SlaveResp
    ∷ [])

pub assigned_nad : replies mirrors (slot_of 0 ++ slot_of 1)
    ≡ served 0 0x3C 0 (0x01 ∷ 0x06 ∷ 0xB0 ∷ 0x2B ∷ 0x00 ∷ 0x40 ∷ 0x10 ∷ 0x0A ∷ 0xC2 ∷ [])
    ++ served 1 0x7D 1 (0x01 ∷ 0x01 ∷ 0xF0 ∷ 0xFF ∷ 0xFF ∷ 0xFF ∷ 0xFF ∷ 0xFF ∷ 0x0D ∷ [])
unfolding reply
assigned_nad = refl

-- a slot in which the node that is due leaves its response out
abbrev passed : ℕ → List (PortId × Step)
passed node = (Bus, Open) ∷ (Bus, Leave node) ∷ (Bus, Finish) ∷ []

abbrev passed_replies : ℕ → ℕ → ℕ → List Reply
passed_replies entry header node = Done (Slot 0 entry (Some header) ∷ Service ∷ Due node ∷ []) ∷ Done [] ∷ Done (Seen NoAnswer ∷ []) ∷ []

-- a response that is left out is ready until a request ends it
pub assigned_range : replies mirrors (slot_of 0 ++ passed 1 ++ slot_of 0 ++ slot_of 1)
    ≡ served 0 0x3C 0 (0x01 ∷ 0x06 ∷ 0xB0 ∷ 0x2B ∷ 0x00 ∷ 0x40 ∷ 0x10 ∷ 0x0A ∷ 0xC2 ∷ [])
    ++ passed_replies 1 0x7D 1
    ++ served 2 0x3C 0 (0x0A ∷ 0x06 ∷ 0xB7 ∷ 0x00 ∷ 0x08 ∷ 0x20 ∷ 0xE2 ∷ 0xFF ∷ 0x2D ∷ [])
    ++ served 3 0x7D 1 (0x0A ∷ 0x01 ∷ 0xF7 ∷ 0xFF ∷ 0xFF ∷ 0xFF ∷ 0xFF ∷ 0xFF ∷ 0xFC ∷ [])
unfolding reply
assigned_range = refl

pub read_by_identifier : replies mirrors (passed 0 ++ (Bus, Open) ∷ (Bus, Finish) ∷ passed 0 ++ (Bus, Open) ∷ (Bus, Finish) ∷ slot_of 0 ++ slot_of 1)
    ≡ passed_replies 0 0x3C 0
    ++ Done (Slot 0 1 (Some 0x7D) ∷ [])
    ∷ Done (Seen NoAnswer ∷ [])
    ∷ passed_replies 2 0x3C 0
    ++ Done (Slot 0 3 (Some 0x7D) ∷ [])
    ∷ Done (Seen NoAnswer ∷ [])
    ∷ served 4 0x3C 0 (0x0A ∷ 0x06 ∷ 0xB2 ∷ 0x01 ∷ 0x2B ∷ 0x00 ∷ 0x40 ∷ 0x10 ∷ 0xC0 ∷ [])
    ++ served 5 0x7D 1 (0x0A ∷ 0x03 ∷ 0x7F ∷ 0xB2 ∷ 0x12 ∷ 0xFF ∷ 0xFF ∷ 0xFF ∷ 0xAE ∷ [])
unfolding reply
read_by_identifier = refl

-- == AssignFrameId: a request that is left out ends nothing, each good one ends what wasn't fetched
abbrev switches : Parts
switches =
    cluster 0x21 0x22
    (record { node = 1; initial = 0x21; product = Some (record { supplier = 0x12; function = 0x101; variant = 0 }); messages = Some 0x1001 ∷ Some 0x1002 ∷ [] }
    ∷ record { node = 2; initial = 0x22; product = Some (record { supplier = 0x12; function = 0x101; variant = 7 }); messages = Some 0x1001 ∷ Some 0x1002 ∷ [] }
    ∷ [])
    (Fixed (0x21 ∷ 0x06 ∷ 0xB1 ∷ 0x12 ∷ 0x00 ∷ 0x01 ∷ 0x10 ∷ 0x11 ∷ [])
    ∷ Fixed (0x21 ∷ 0x06 ∷ 0xB1 ∷ 0x12 ∷ 0x00 ∷ 0x02 ∷ 0x10 ∷ 0x50 ∷ [])
    ∷ Fixed (0x22 ∷ 0x06 ∷ 0xB1 ∷ 0x12 ∷ 0x00 ∷ 0x01 ∷ 0x10 ∷ 0x92 ∷ [])
    ∷ Fixed (0x22 ∷ 0x06 ∷ 0xB1 ∷ 0x12 ∷ 0x00 ∷ 0x02 ∷ 0x10 ∷ 0x50 ∷ [])
    ∷ SlaveResp
    ∷ SlaveResp
    ∷ [])

pub assigned_frames : replies switches (slot_of 0 ++ slot_of 0 ++ passed 0 ++ slot_of 0 ++ slot_of 2 ++ (Bus, Open) ∷ (NodePort 2, Answer 2) ∷ (Bus, Finish) ∷ [])
    ≡ served 0 0x3C 0 (0x21 ∷ 0x06 ∷ 0xB1 ∷ 0x12 ∷ 0x00 ∷ 0x01 ∷ 0x10 ∷ 0x11 ∷ 0xF2 ∷ [])
    ++ served 1 0x3C 0 (0x21 ∷ 0x06 ∷ 0xB1 ∷ 0x12 ∷ 0x00 ∷ 0x02 ∷ 0x10 ∷ 0x50 ∷ 0xB2 ∷ [])
    ++ passed_replies 2 0x3C 0
    ++ served 3 0x3C 0 (0x22 ∷ 0x06 ∷ 0xB1 ∷ 0x12 ∷ 0x00 ∷ 0x02 ∷ 0x10 ∷ 0x50 ∷ 0xB1 ∷ [])
    ++ served 4 0x7D 2 (0x22 ∷ 0x01 ∷ 0xF1 ∷ 0xFF ∷ 0xFF ∷ 0xFF ∷ 0xFF ∷ 0xFF ∷ 0xEA ∷ [])
    ++ Done (Slot 0 5 (Some 0x7D) ∷ [])
    ∷ Refused NotYours
    ∷ Done (Seen NoAnswer ∷ []) ∷ []
unfolding reply
assigned_frames = refl

-- == identifiers in the place of protected ones, and a request that two responders answer
abbrev lamps : Parts
lamps =
    cluster 0x20 0x21
    (record { node = 1; initial = 0x7F; product = Some (record { supplier = 0x19; function = 0x7701; variant = 255 }); messages = None ∷ None ∷ [] }
    ∷ record { node = 2; initial = 0x7F; product = Some (record { supplier = 0x19; function = 0x7701; variant = 255 }); messages = None ∷ None ∷ [] }
    ∷ [])
    (Fixed (0x20 ∷ 0x06 ∷ 0xB7 ∷ 0x00 ∷ 0x09 ∷ 0x30 ∷ 0xFF ∷ 0xFF ∷ [])
    ∷ SlaveResp
    ∷ Fixed (0x7F ∷ 0x06 ∷ 0xB3 ∷ 0x00 ∷ 0x05 ∷ 0xFF ∷ 0xFF ∷ 0x22 ∷ [])
    ∷ SlaveResp
    ∷ [])

abbrev changed : List ℕ
changed = 0x22 ∷ 0x01 ∷ 0xF3 ∷ 0xFF ∷ 0xFF ∷ 0xFF ∷ 0xFF ∷ 0xFF ∷ 0xE8 ∷ []

pub collided_responses : replies lamps (slot_of 0 ++ slot_of 1 ++ slot_of 0 ++ (Bus, Open) ∷ (Bus, Answer 1) ∷ (Bus, Answer 2) ∷ (Bus, Finish) ∷ [])
    ≡ served 0 0x3C 0 (0x20 ∷ 0x06 ∷ 0xB7 ∷ 0x00 ∷ 0x09 ∷ 0x30 ∷ 0xFF ∷ 0xFF ∷ 0xE8 ∷ [])
    ++ served 1 0x7D 1 (0x20 ∷ 0x01 ∷ 0xF7 ∷ 0xFF ∷ 0xFF ∷ 0xFF ∷ 0xFF ∷ 0xFF ∷ 0xE6 ∷ [])
    ++ served 2 0x3C 0 (0x7F ∷ 0x06 ∷ 0xB3 ∷ 0x00 ∷ 0x05 ∷ 0xFF ∷ 0xFF ∷ 0x22 ∷ 0x9F ∷ [])
    ++ Done (Slot 0 3 (Some 0x7D) ∷ Service ∷ Due 1 ∷ Due 2 ∷ [])
    ∷ Done (Put 1 changed ∷ [])
    ∷ Done (Put 2 changed ∷ [])
    ∷ Done (Seen Collided ∷ []) ∷ []
unfolding reply
collided_responses = refl
