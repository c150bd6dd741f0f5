-- The single faults of a campaign: those of each slot that the undisturbed play finished.
use Rattle.std.specs.Prelude.{ℕ, ◌&&◌, Bool, true, false, if◌then◌else◌, List, [], ◌∷◌, ◌++◌}
use Rattle.std.specs.Prelude.{◌≡◌, filter, flat_map, length, map, min, slice_get, slice_index_or, take, zip, Option, Some}
use Rattle.std.specs.Prelude.{None, Result, IfOk, option_map}
use Rattle.std.specs.List.{filter_map}
use Rattle.std.specs.Option.{option_to_list}
use Rattle.lin_frame.specs.Words.{numbers}
use Rattle.lin_parts.specs.declared.parts.Parts.{Parts}
use Rattle.lin_core.specs.History.{Slot}
use Rattle.lin_core.specs.declared.log.LogEntry.{LogEntry}
use Rattle.lin_bench.specs.Faults.{is_intact}
use Rattle.lin_bench.specs.declared.faults.FaultKind.{FaultKind}
use Rattle.lin_bench.specs.declared.faults.FaultKind.TheVariants.{Damage, Absent}
use Rattle.lin_bench.specs.declared.faults.SlotFault.{SlotFault}
use Rattle.lin_tool.specs.campaign.Slots.{finished_slots, frame_shown, kept_of_slot, responders}
use Rattle.lin_tool.specs.declared.campaign.singles.Kinds.{Kinds}
use Rattle.lin_tool.specs.declared.campaign.singles.Single.{Single}
use Rattle.lin_tool.specs.declared.campaign.finished_slots.KeptSlot.{KeptSlot}

-- the fault of one slot, or from that slot on
abbrev pub fault_of_single : Single → SlotFault
fault_of_single s = record {
  first = s.slot;
  last = if s.goes_on then None else Some s.slot;
  kind = s.kind;
}

-- a fault of a kind in slot n
abbrev pub single_fault : Parts → ℕ → Slot → FaultKind → Bool → Single
single_fault c n s kind goes_on = record {
  slot = n;
  table = s.table;
  entry = s.entry;
  frame = frame_shown c s;
  kind = kind;
  goes_on = goes_on;
}

-- the damage of a response that is the only one and that no step corrupted; the absence of each node
-- that responded in slot n; and that of each from this slot on
abbrev pub singles_of : Parts → Kinds → ℕ × Slot → List Single
singles_of c kinds (n, s) =
    (if kinds.damage && is_intact s then single_fault c n s Damage false ∷ [] else [])
    ++ ((if kinds.absent then map (λ m. single_fault c n s (Absent m) false) (responders s) else [])
    ++ (if kinds.gone then map (λ m. single_fault c n s (Absent m) true) (responders s) else []))

-- the absence of each node that responded, by rising number
unfoldable pub absent_from : Single → Bool → List Bool → List Single
absent_from first goes_on answered =
    map (λ n. record first {
      kind = Absent n;
      goes_on = goes_on;
    })
    (filter (λ n. slice_index_or answered n false) (numbers 16))

-- how many slots a fault can name
abbrev pub most_slots : ℕ
most_slots = 1000000

-- those of these slots, as far as a fault can name them
abbrev pub singles_in : Parts → Kinds → List Slot → List Single
singles_in c kinds slots =
    let named = take most_slots slots
    in flat_map (singles_of c kinds) (zip (numbers (length named)) named)

abbrev pub singles : Parts → Kinds → List LogEntry → List Single
singles c kinds log = singles_in c kinds (finished_slots log)

-- these are the single faults of these slots, and this is how many of the slots a fault can name
pub record AreSinglesOf (c : Parts) (kinds : Kinds) (slots : List Slot) (ss : List Single)
    (number : ℕ) : Type 0 where
  pub all : ss ≡ singles_in c kinds slots
  pub named : number ≡ min (length slots) most_slots

-- those after one more slot, if there is one, which was kept
abbrev pub AddsSinglesOf : {E : Type 0} → Parts → Kinds → Option KeptSlot → List Single → List Single
    → ℕ → Result ℕ E → Type 0
AddsSinglesOf c kinds slot old new number result =
    (slots : List Slot) → (next : Option Slot) → slot ≡ option_map kept_of_slot next
    → AreSinglesOf c kinds slots old number
    → IfOk result (λ n. AreSinglesOf c kinds (slots ++ option_to_list next) new n)

-- ---- the faults of a row
-- the single faults at these places
abbrev pub at_places : List Single → List ℕ → List Single
at_places ss places = filter_map (λ i. slice_get ss i) places

-- the single fault of a row that has exactly one
abbrev pub only_single : List Single → List ℕ → Option Single
only_single ss (i ∷ []) = slice_get ss i
only_single ss places = None

abbrev pub faults_at : List Single → List ℕ → List SlotFault
faults_at ss places = map fault_of_single (at_places ss places)
