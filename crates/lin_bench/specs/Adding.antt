-- What a core keeps for its rules, and what making the steps that they add answers.
use Rattle.std.specs.Prelude.{◌≡◌, Bool, true, false, ℕ, ◌<◌, ◌-◌, ◌^◌, ◌==◌, ◌&&◌, List, [], ◌∷◌, ◌++◌, length, reverse, Option}
use Rattle.std.specs.Prelude.{if◌then◌else◌, filter, is_none, is_some, map, slice_index, Some, None, Result, Ok, Err}
use Rattle.std.specs.Option.{option_map_or}
use Rattle.lin_parts.specs.Cluster.{nad, nodes}
use Rattle.lin_parts.specs.declared.parts.Parts.{Parts}
use Rattle.lin_core.specs.Core.{CoreData, IsAlike, entry_with_reply, past_of}
use Rattle.lin_core.specs.History.{Slot, good_bytes, header_and_first, is_finish, open_slot}
use Rattle.lin_core.specs.Replies.{link_at, may}
use Rattle.lin_core.specs.Runs.{entry_of}
use Rattle.lin_core.specs.declared.event.Event.{Event}
use Rattle.lin_core.specs.declared.event.Event.TheVariants.{Seen}
use Rattle.lin_core.specs.declared.link.Direction.{Direction}
use Rattle.lin_core.specs.declared.link.Direction.TheVariants.{Down, Up}
use Rattle.lin_core.specs.declared.log.LogEntry.{LogEntry}
use Rattle.lin_core.specs.declared.port.PortId.{PortId}
use Rattle.lin_core.specs.declared.step.Step.{Step}
use Rattle.lin_core.specs.declared.step.Step.TheVariants.{Finish}
use Rattle.lin_transport.specs.Transport.{looks_at}
use Rattle.lin_bench.specs.Added.{added_after, rules_after_arrivals, is_good_on, is_late, last_good, links_at, rules_after, timeout_step}
use Rattle.lin_bench.specs.Errors.{errors_told, is_damaged_seen}
use Rattle.lin_bench.specs.Faults.{slots_finished}
pub use Rattle.lin_bench.specs.Making.{RuledData}
use Rattle.lin_bench.specs.Making.{IsGrown, course_on}
use Rattle.lin_bench.specs.Slots.{Course, past_after, with_called}
use Rattle.lin_bench.specs.declared.ends.Ends.{Ends}
use Rattle.lin_bench.specs.declared.fault.MakeFault.{MakeFault}
use Rattle.lin_bench.specs.declared.fault.MakeFault.TheVariants.{LogFull, OutOfMemory}
use Rattle.lin_bench.specs.declared.ruled.RuledCore.TheInside.{Inside}
use Rattle.lin_bench.specs.declared.rules.Rules.{Rules}

abbrev pub ruled_data : Inside → RuledData
ruled_data a = record { core = a.core; rules = a.rules }

-- when the last good frames of the links one way ended
abbrev pub AreEnds : CoreData → Direction → List ℕ → Type 0
AreEnds core dir ends =
    (n : ℕ) → n < nodes core.cluster
    → slice_index ends n ≡ last_good core.cluster (past_of core) (link_at n dir)

-- whether a node looks at frames to an address
abbrev pub node_looks_at : Parts → ℕ → ℕ → Bool
node_looks_at c address n =
    option_map_or (λ k. looks_at (record { nad = k; all = true }) address) (nad c n) false

-- of the nodes that look at frames to an address, and of no other, this time is kept
abbrev pub HearsDown : Parts → ℕ → ℕ → List ℕ → List ℕ → Type 0
HearsDown c address time old new =
    (n : ℕ) → n < nodes c
    → slice_index new n ≡ (if node_looks_at c address n then time else slice_index old n)

abbrev pub IsTimed : Inside → Type 0
IsTimed a =
    AreEnds a.core Down a.ends.downs × AreEnds a.core Up a.ends.ups
    × (a.slots ≡ slots_finished (past_of a.core))

-- how many slots were finished in a log whose last step is a finish, or isn't, if before it there
-- were so many
abbrev pub CountsFinished : List LogEntry → Bool → ℕ → ℕ → Type 0
CountsFinished log finishes before after =
    (old : CoreData) (by : PortId) (step : Step)
    → log ≡ old.log ++ entry_with_reply old by step ∷ []
    → finishes ≡ is_finish step → before ≡ slots_finished (past_of old)
    → after ≡ slots_finished (reverse log)

abbrev pub end_of : Ends → ℕ → Direction → ℕ
end_of ends n Down = slice_index ends.downs n
end_of ends n Up = slice_index ends.ups n

-- the bytes of the slot that these events of a finish tell of, where it was seen good
abbrev pub good_in : List Event → Option (List ℕ)
good_in (Seen how ∷ es) = good_bytes how
good_in es = None

-- whether it was seen damaged
abbrev pub damaged_in : List Event → Bool
damaged_in (Seen how ∷ es) = is_damaged_seen how
damaged_in es = false

-- of each node's link one way it is kept when its last good frame ended, which that of a slot may be
-- that ended now
abbrev pub AreHeardTimes : Parts → ℕ → Slot → Direction → List ℕ → List ℕ → Type 0
AreHeardTimes c now s dir old new =
    (n : ℕ) → n < nodes c
    → slice_index new n
    ≡ (if is_good_on c (link_at n dir) s then now else slice_index old n)

-- a finish was made on a core where this slot was open
pub record IsAfterFinish (old : CoreData) (by : PortId) (s : Slot) (new : CoreData) : Type 0 where
  pub log : new.log ≡ old.log ++ entry_with_reply old by Finish ∷ []
  pub alike : IsAlike old new
  pub slot : open_slot (past_of old) ≡ Some s

-- when the last good frames ended is kept anew, if the newest step of this core finished a slot that was
-- for no service, where it was kept before
abbrev pub HearsFinish : CoreData → Option ℕ → Option ℕ → Ends → Ends → Type 0
HearsFinish core header node before after =
    (old : CoreData) → (by : PortId) → (s : Slot) → IsAfterFinish old by s core
    → s.service ≡ false → header_and_first s ≡ (header, node)
    → AreEnds old Down before.downs → AreEnds old Up before.ups
    → AreEnds core Down after.downs × AreEnds core Up after.ups

-- the entry of a finish on a core with this history
abbrev pub finish_of : CoreData → List LogEntry → PortId → LogEntry
finish_of core past by = entry_of core.cluster core.opening core.capacity past (by, Finish)

-- the newest entry of a core finishes this slot, on the history before it
pub record HasFinished (core : CoreData) (by : PortId) (past : List LogEntry) (s : Slot) : Type 0 where
  pub newest : past_of core ≡ finish_of core past by ∷ past
  pub slot : open_slot past ≡ Some s
  pub may : may by Finish ≡ true

-- if the newest entry of a core finishes a slot, this holds of the entry and the history before it
abbrev pub AfterFinish : CoreData → (LogEntry → List LogEntry → Type 0) → Type 0
AfterFinish core Holds =
    (by : PortId) (past : List LogEntry) (s : Slot) → HasFinished core by past s
    → Holds (finish_of core past by) past

-- no transfer has a limit
abbrev pub has_no_limit : Rules → Bool
has_no_limit rules = is_none rules.limit && length rules.own_limits == 0

-- the timeouts of the links of a node whose messages are given up
abbrev pub timeouts_of : Parts → List LogEntry → Rules → ℕ → List (PortId × Step)
timeouts_of c past rules n =
    map timeout_step (filter (is_late c past rules) (if is_some (nad c n) then links_at n else []))

-- the rules of a core after the messages of a finish arrived
abbrev pub with_arrived : RuledData → LogEntry → List LogEntry → Rules
with_arrived a e past = rules_after_arrivals a.core.cluster e past a.rules

-- the steps by which errors are told after a finish, if a rule says so
abbrev pub errors_after : RuledData → LogEntry → List LogEntry → List (PortId × Step)
errors_after a e past = errors_told a.core.cluster e past a.rules.offs a.rules.errors

-- what making a step answers to which no rule adds
abbrev pub IsStepFault : MakeFault → CoreData → Type 0
IsStepFault LogFull core = length core.log ≡ 2 ^ 32 - 1
IsStepFault OutOfMemory core = Unit {0}

abbrev pub MakesOne : {X : Type 0} → CoreData → PortId → Step → Result X MakeFault → CoreData
    → Type 0
MakesOne old by step (Ok x) new = (new.log ≡ old.log ++ entry_with_reply old by step ∷ []) × IsAlike old new
MakesOne old by step (Err fault) new = IsStepFault fault old × (new.log ≡ old.log) × IsAlike old new

-- what making the steps that rules add answers: no rule adds to them
abbrev pub AddedFail : MakeFault → CoreData → List (PortId × Step) → Type 0
AddedFail LogFull core steps =
    2 ^ 32 - 1
    < length (past_after core.cluster core.opening core.capacity (past_of core) steps)
AddedFail OutOfMemory core steps = Unit {0}

pub record AreAdded (old : CoreData) (steps : List (PortId × Step)) (new : CoreData) : Type 0 where
  pub past : past_of new ≡ past_after old.cluster old.opening old.capacity (past_of old) steps
  pub alike : IsAlike old new

abbrev pub MakesAdded : {X : Type 0} → CoreData → List (PortId × Step) → Result X MakeFault
    → CoreData
    → Type 0
MakesAdded old steps (Ok x) new = AreAdded old steps new
MakesAdded old steps (Err fault) new = AddedFail fault old steps × IsGrown old new

-- what is added by the history with a finish was made, and the answers that are noted are those that are left
abbrev pub AddsFirst : {X : Type 0} → RuledData → LogEntry → List LogEntry → Result X MakeFault
    → RuledData
    → Type 0
AddsFirst old e past (Ok x) new =
    AreAdded old.core (added_after old.core.cluster e past old.rules) new.core
    × (new.rules ≡ rules_after old.core.cluster e past old.rules)
AddsFirst old e past (Err fault) new =
    AddedFail fault old.core (added_after old.core.cluster e past old.rules)
    × IsGrown old.core new.core

-- the course after all steps that are added after a finish, and after those that are called for now
abbrev pub called_on : RuledData → Course
called_on a = with_called a.core.cluster a.core.opening a.core.capacity (course_on a)

abbrev pub after_finish : RuledData → LogEntry → List LogEntry → Course
after_finish a e past =
    with_called a.core.cluster a.core.opening a.core.capacity (record {
      past =
          past_after a.core.cluster a.core.opening a.core.capacity (past_of a.core)
          (added_after a.core.cluster e past a.rules);
      rules = rules_after a.core.cluster e past a.rules;
    })

abbrev pub CourseFails : MakeFault → Course → Type 0
CourseFails LogFull at = 2 ^ 32 - 1 < length at.past
CourseFails OutOfMemory at = Unit {0}

-- what is added after a finish was made, and the rules are those that are left
abbrev pub AddsAfterFinish : {X : Type 0} → RuledData → LogEntry → List LogEntry → Result X MakeFault
    → RuledData
    → Type 0
AddsAfterFinish old e past (Ok x) new =
    (course_on new ≡ after_finish old e past) × IsAlike old.core new.core
AddsAfterFinish old e past (Err fault) new =
    CourseFails fault (after_finish old e past) × IsGrown old.core new.core

-- what is called for after the steps of a finish
abbrev pub MakesCalled : {X : Type 0} → RuledData → Result X MakeFault → RuledData → Type 0
MakesCalled old (Ok x) new =
    (course_on new ≡ called_on old) × IsAlike old.core new.core
MakesCalled old (Err fault) new = CourseFails fault (called_on old) × IsGrown old.core new.core
