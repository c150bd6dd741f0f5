-- What steps come to where rules are in force, and what lines of slots stand for, given the history
-- before them: the entries of a log, the newest first.
use Rattle.std.specs.Prelude.{ℕ, suc, zero, ◌+◌, ◌-◌, ◌*◌, ◌==◌, Bool, true, false, not, ◌&&◌, ◌||◌}
use Rattle.std.specs.Prelude.{nat_lt, if◌then◌else◌, List, [], ◌∷◌, ◌++◌, map, filter, length}
use Rattle.std.specs.Prelude.{is_some, Option, Some, None}
use Rattle.std.specs.List.{list_any, filter_map}
use Rattle.lin_frame.specs.Words.{numbers}
use Rattle.lin_parts.specs.Cluster.{nodes}
use Rattle.lin_parts.specs.declared.parts.Parts.{Parts}
use Rattle.lin_core.specs.History.{finished_slot, is_finish, is_in, time}
use Rattle.lin_core.specs.Links.{waiting}
use Rattle.lin_core.specs.Replies.{reply}
use Rattle.lin_core.specs.Runs.{entry_of}
use Rattle.lin_core.specs.declared.event.Event.{Event}
use Rattle.lin_core.specs.declared.event.Event.TheVariants.{Due}
use Rattle.lin_core.specs.declared.log.LogEntry.{LogEntry}
use Rattle.lin_core.specs.declared.port.PortId.{PortId}
use Rattle.lin_core.specs.declared.port.PortId.TheVariants.{Bus}
use Rattle.lin_core.specs.declared.reply.Reply.{Reply}
use Rattle.lin_core.specs.declared.reply.Reply.TheVariants.{Done, Refused}
use Rattle.lin_core.specs.declared.step.Step.{Step}
use Rattle.lin_core.specs.declared.step.Step.TheVariants.{Open, Answer, Leave, Hurt, Finish}
use Rattle.lin_bench.specs.Added.{added_steps, rules_after}
use Rattle.lin_bench.specs.Ons.{after_look, reactions}
pub use Rattle.lin_bench.specs.Pending.{hosts_waiting, nodes_noted, pending}
use Rattle.lin_bench.specs.Faults.{disturbed_steps, struck}
use Rattle.lin_bench.specs.declared.line.Disturbance.{Disturbance}
use Rattle.lin_bench.specs.declared.line.Disturbance.TheVariants as slot
use Rattle.lin_bench.specs.declared.line.Extent.{Extent}
use Rattle.lin_bench.specs.declared.line.Extent.TheVariants as slots
use Rattle.lin_bench.specs.declared.rules.Rules.{Rules}

-- the history after more steps
abbrev pub past_after : Parts → ℕ → ℕ → List LogEntry → List (PortId × Step) → List LogEntry
past_after c opening capacity past [] = past
past_after c opening capacity past (s ∷ ss) =
    past_after c opening capacity (entry_of c opening capacity past s ∷ past) ss

-- a history, and the rules in force with the answers that are noted, and the faults
pub record Course : Type 0 where
  pub past : List LogEntry
  pub rules : Rules

-- an entry, and after it the steps that the rules add, which add nothing themselves: first those that the
-- history with the entry tells
abbrev pub first_added : Parts → ℕ → ℕ → Course → LogEntry → Course
first_added c opening capacity at e = record {
  past = past_after c opening capacity (e ∷ at.past) (added_steps c e at.past at.rules);
  rules = rules_after c e at.past at.rules;
}

-- and then, after a finish, those that signals and frames call for, as they are after these
abbrev pub with_called : Parts → ℕ → ℕ → Course → Course
with_called c opening capacity at = record {
  past = past_after c opening capacity at.past (reactions c at.past at.rules);
  rules = after_look c at.past at.rules;
}

abbrev pub called_if : Parts → ℕ → ℕ → Bool → Course → Course
called_if c opening capacity finishes at =
    if finishes then with_called c opening capacity at else at

abbrev pub with_entry : Parts → ℕ → ℕ → Course → LogEntry → Course
with_entry c opening capacity at e =
    called_if c opening capacity (is_some (finished_slot e at.past)) (first_added c opening capacity at e)

-- what steps that are made come to, each with those that the rules add after it
abbrev pub after_made : Parts → ℕ → ℕ → Course → List (PortId × Step) → Course
after_made c opening capacity at [] = at
after_made c opening capacity at (s ∷ ss) =
    after_made c opening capacity
    (with_entry c opening capacity at (entry_of c opening capacity at.past s)) ss

-- the faults after a step that a line says
abbrev pub with_struck : Parts → ℕ → Course → PortId × Step → Course
with_struck c capacity at s = record at {
  rules = record at.rules { faults = struck c capacity at.rules.faults at.past s };
}

-- what more steps that lines say come to, each as the faults change it
abbrev pub course_after : Parts → ℕ → ℕ → Course → List (PortId × Step) → Course
course_after c opening capacity at [] = at
course_after c opening capacity at (s ∷ ss) =
    course_after c opening capacity
    (after_made c opening capacity (with_struck c capacity at s)
    (disturbed_steps c capacity at.rules.faults at.past s)) ss

abbrev pub due_node : Event → Option ℕ
due_node (Due node) = Some node
due_node event = None

-- the nodes that are due in the slot that an open was done for, none where it was refused
abbrev pub due_in : Reply → Option (List ℕ)
due_in (Done events) = Some (filter_map due_node events)
due_in (Refused why) = None

-- the nodes that leave their responses out
abbrev pub leave_nodes : Disturbance → List ℕ
leave_nodes (slot.Leave nodes) = nodes
leave_nodes how = []

abbrev pub hurt_steps : Disturbance → List (PortId × Step)
hurt_steps (slot.Hurt bytes) = (Bus, Hurt bytes) ∷ []
hurt_steps how = []

-- how a line disturbs a slot, and the nodes that are off
pub record Way : Type 0 where
  pub how : Disturbance
  pub offs : List ℕ

abbrev pub way : Disturbance → List ℕ → Way
way how offs = record { how = how; offs = offs }

-- a node that is due answers, or leaves its response out if it is to, or is off
abbrev pub leaves : Way → ℕ → Bool
leaves w node = is_in (leave_nodes w.how) node || is_in w.offs node

abbrev pub decision : Way → ℕ → PortId × Step
decision w node = (Bus, if leaves w node then Leave node else Answer node)

-- the steps of a slot after its open; none where that was refused
abbrev pub slot_rest : Way → Option (List ℕ) → List (PortId × Step)
slot_rest w None = []
slot_rest w (Some due) = map (decision w) due ++ (hurt_steps w.how ++ (Bus, Finish) ∷ [])

-- the nodes that are due in a slot that is opened now, none where it can't be
abbrev pub due_now : Parts → ℕ → ℕ → List LogEntry → Option (List ℕ)
due_now c opening capacity past = due_in (reply c opening capacity past Bus Open)

-- the steps of a slot (ISO 17987-3, frame slots)
unfoldable pub slot_steps : Parts → ℕ → ℕ → Way → List LogEntry → List (PortId × Step)
slot_steps c opening capacity w past = (Bus, Open) ∷ slot_rest w (due_now c opening capacity past)

abbrev pub is_opened : Option (List ℕ) → Bool
is_opened None = false
is_opened (Some due) = true

-- the steps of slots, without those that the rules add: at most n slots, while a test holds, ended
-- at the first open that is refused
unfoldable pub slots_steps : Parts → ℕ → ℕ → Disturbance → (Course → Bool) → ℕ → Course
    → List (PortId × Step)
slots_steps c opening capacity how goes zero at = []
slots_steps c opening capacity how goes (suc n) at =
    let steps = slot_steps c opening capacity (way how at.rules.offs) at.past
    in if goes at
    then steps ++ (if is_opened (due_now c opening capacity at.past)
    then slots_steps c opening capacity how goes n (course_after c opening capacity at steps)
    else [])
    else []

abbrev pub some_wait : Parts → List LogEntry → Bool
some_wait c past = list_any (λ h. nat_lt 0 (length (waiting c past h))) (numbers (nodes c))

-- whether one more slot is to be made, by the time in microseconds at the line's beginning
abbrev pub goes_on : Parts → Extent → ℕ → Course → Bool
goes_on c (slots.Count n) began at = true
goes_on c (slots.Milliseconds n) began at = nat_lt (time c at.past - began) (1000 * n)
goes_on c (slots.Idle n) began at = some_wait c at.past || nat_lt 0 (length at.rules.noted)

-- how many slots lines of slots may make in a run
abbrev pub slot_limit : ℕ
slot_limit = 1000000

-- how many slots at most: as many as a number says, and for a time one more than a run may make
abbrev pub most : Extent → ℕ
most (slots.Count n) = n
most (slots.Milliseconds n) = slot_limit + 1
most (slots.Idle n) = n

-- likewise, where slots also end as soon as a test holds
abbrev pub goes_on_until : Parts → Extent → (Course → Bool) → ℕ → Course → Bool
goes_on_until c extent ends began at = goes_on c extent began at && not (ends at)

-- the steps of a line of slots, of at most n
unfoldable pub extent_steps : Parts → ℕ → ℕ → Disturbance → Extent → (Course → Bool) → ℕ → Course
    → List (PortId × Step)
extent_steps c opening capacity how extent ends n at =
    slots_steps c opening capacity how (goes_on_until c extent ends (time c at.past)) n at

-- how many slots end by these steps
abbrev pub ended_slot_count : List (PortId × Step) → ℕ
ended_slot_count steps = length (filter (λ (s : PortId × Step). is_finish s.1) steps)
