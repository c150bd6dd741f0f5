-- Faults in slots, under which a script is played: a response is corrupted, or a node doesn't respond
-- (ISO 17987-3, frame transfer). A history is the entries of a log, the newest first.
use Rattle.std.specs.Prelude.{ℕ, suc, ◌==◌, ◌&&◌, ◌||◌, Bool, true, false, not, nat_le}
use Rattle.std.specs.Prelude.{if◌then◌else◌, List, [], ◌∷◌, length, map, Option, Some, None, is_none}
use Rattle.std.specs.Prelude.{is_some}
use Rattle.std.specs.List.{list_any}
use Rattle.std.specs.Option.{option_map_or}
use Rattle.lin_parts.specs.declared.parts.Parts.{Parts}
use Rattle.lin_core.specs.History.{Slot, finished_slot}
use Rattle.lin_core.specs.Replies.{in_slot, refusal}
use Rattle.lin_core.specs.declared.log.LogEntry.{LogEntry}
use Rattle.lin_core.specs.declared.port.PortId.{PortId}
use Rattle.lin_core.specs.declared.port.PortId.TheVariants.{Bus}
use Rattle.lin_core.specs.declared.step.Step.{Step}
use Rattle.lin_core.specs.declared.step.Step.TheVariants.{Answer, Leave, Hurt, Finish}
use Rattle.lin_bench.specs.declared.faults.FaultKind.{FaultKind}
use Rattle.lin_bench.specs.declared.faults.FaultKind.TheVariants.{Damage, Absent}
use Rattle.lin_bench.specs.declared.faults.ArmedFault.{ArmedFault}
use Rattle.lin_bench.specs.declared.faults.SlotFault.{SlotFault}

-- how many slots were finished: the number of the open slot or, where none is open, of the next one
abbrev pub slots_finished : List LogEntry → ℕ
slots_finished [] = 0
slots_finished (e ∷ past) =
    if is_some (finished_slot e past) then suc (slots_finished past) else slots_finished past

-- whether a fault is for the slot with a number
abbrev pub is_for : SlotFault → ℕ → Bool
is_for f n = nat_le f.first n && option_map_or (λ last. nat_le n last) f.last true

-- a slot with exactly one response, which isn't corrupted
abbrev pub is_intact : Slot → Bool
is_intact s = length s.puts == 1 && not s.hurt

abbrev pub would_be_done : Parts → ℕ → List LogEntry → PortId × Step → Bool
would_be_done c capacity past s = is_none (refusal c capacity past s.0 s.1)

-- the kind of faults that change a step by a port: the absence of a node changes its response, and a
-- damage the finish of a slot with an intact response, if the step would be done
abbrev pub target : Parts → ℕ → List LogEntry → PortId × Step → Option FaultKind
target c capacity past (by, Answer node) =
    if would_be_done c capacity past (by, Answer node) then Some (Absent node) else None
target c capacity past (by, Finish) =
    if would_be_done c capacity past (by, Finish) && in_slot past is_intact then Some Damage
    else None
target c capacity past s = None

abbrev pub same_kind : FaultKind → FaultKind → Bool
same_kind Damage Damage = true
same_kind (Absent n) (Absent m) = n == m
same_kind Damage (Absent m) = false
same_kind (Absent n) Damage = false

-- whether a fault changes a step of slot n that faults of a kind change
abbrev pub is_struck : ℕ → FaultKind → ArmedFault → Bool
is_struck n kind f = is_for f.fault n && same_kind f.fault.kind kind

-- the steps that replace a step that a fault changes: the node omits its response, by the same port;
-- no bytes at all are seen in place of the response, and then the slot is finished
abbrev pub changed_steps : PortId × Step → List (PortId × Step)
changed_steps (by, Answer node) = (by, Leave node) ∷ []
changed_steps (by, Finish) = (Bus, Hurt []) ∷ (by, Finish) ∷ []
changed_steps s = s ∷ []

-- whether one of these faults changes a step that a line says
abbrev pub is_changed : Parts → ℕ → List ArmedFault → List LogEntry → PortId × Step → Bool
is_changed c capacity faults past s =
    option_map_or
    (λ kind. list_any (is_struck (slots_finished past) kind) faults) (target c capacity past s) false

-- the steps that are made for a step that a line says
abbrev pub disturbed_steps : Parts → ℕ → List ArmedFault → List LogEntry → PortId × Step
    → List (PortId × Step)
disturbed_steps c capacity faults past s =
    if is_changed c capacity faults past s then changed_steps s else s ∷ []

-- a fault that hasn't changed a step
abbrev pub armed_fault : SlotFault → ArmedFault
armed_fault f = record { fault = f; has_struck = false }

-- a fault after such a step
abbrev pub struck_by : ℕ → FaultKind → ArmedFault → ArmedFault
struck_by n kind f = record f { has_struck = is_struck n kind f || f.has_struck }

-- these faults after a step that a line says
abbrev pub struck : Parts → ℕ → List ArmedFault → List LogEntry → PortId × Step → List ArmedFault
struck c capacity faults past s =
    option_map_or
    (λ kind. map (struck_by (slots_finished past) kind) faults) (target c capacity past s) faults
