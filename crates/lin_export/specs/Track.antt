-- What is kept of a log, as far as it was read.
use Rattle.std.specs.Prelude.{◌≡◌, ℕ, ◌+◌, List, [], ◌∷◌, Option, option_map}
use Rattle.std.specs.Option.{option_map_or}
use Rattle.lin_parts.specs.declared.parts.Parts.{Parts}
use Rattle.lin_core.specs.History.{Slot, done, finished_slot, open_slot, time}
use Rattle.lin_core.specs.declared.log.LogEntry.{LogEntry}
use Rattle.lin_core.specs.declared.step.Step.{Step}
use Rattle.lin_core.specs.declared.step.Step.TheVariants.{Hurt}

-- a slot but for the nodes that left their responses out
abbrev pub shown_slot : Slot → Slot
shown_slot s = record s { left = [] }

abbrev pub shown_open : List LogEntry → Option Slot
shown_open past = option_map shown_slot (open_slot past)

abbrev pub shown_finished : LogEntry → List LogEntry → Option Slot
shown_finished e past = option_map shown_slot (finished_slot e past)

-- how many slots are finished
abbrev pub finished_slot_count : List LogEntry → ℕ
finished_slot_count [] = 0
finished_slot_count (e ∷ past) = option_map_or (λ s. finished_slot_count past + 1) (finished_slot e past) (finished_slot_count past)

-- the bytes that stood last in place of a disturbed response; in a slot whose response was
-- disturbed these are its own
abbrev pub hurt_after : List ℕ → Step → List ℕ
hurt_after bytes (Hurt new) = new
hurt_after bytes step = bytes

abbrev pub hurt_in : List LogEntry → List ℕ
hurt_in [] = []
hurt_in (e ∷ past) = option_map_or (hurt_after (hurt_in past)) (done e) (hurt_in past)

-- the open slot, the time, the number of the finished slots, and the bytes of the last disturbance
pub record TrackData : Type 0 where
  pub slot : Option Slot
  pub time : ℕ
  pub slots : ℕ
  pub hurt : List ℕ

abbrev pub track_of : Parts → List LogEntry → TrackData
track_of c past = record {
  slot = shown_open past;
  time = time c past;
  slots = finished_slot_count past;
  hurt = hurt_in past;
}

-- something holds for the entries that were read
abbrev pub IfTrackOf : Parts → TrackData → (List LogEntry → Type 0) → Type 0
IfTrackOf c track holds = (past : List LogEntry) → track ≡ track_of c past → holds past
