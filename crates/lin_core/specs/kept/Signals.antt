-- No promise rests on this: values of signals, and pending frames.
use Rattle.std.specs.Prelude.{◌≡◌, ℕ, ◌≤◌, ◌<◌, ◌==◌, ◌||◌, Bool, true, false, if◌then◌else◌, List}
use Rattle.std.specs.Prelude.{[], ◌∷◌, length, slice_index_or, IsTrue, IfSome, All, vec_capacity}
use Rattle.std.specs.Prelude.{Option, Some, None, is_some}
use Rattle.std.specs.List.{list_any}
use Rattle.std.specs.Option.{option_map_or}
use Rattle.lin_frame.specs.Bits.{fits_place}
use Rattle.lin_frame.specs.declared.value.Value.{Value}
use Rattle.lin_parts.specs.Cluster.{signal_of, frame_of}
use Rattle.lin_parts.specs.Rules.{place_at}
use Rattle.lin_core.specs.History.{good, is_in, LogEntry, Parts}
use Rattle.lin_core.specs.Signals.{ArePointwise, HearsValues, value, value_in, heard_value, is_pending}
use Rattle.lin_core.specs.Signals.{carried_frame, is_written_since_answer}
use Rattle.lin_core.specs.kept.Slots.{slot_in}
use Rattle.lin_core.specs.declared.signals.Signals.{Signals}
use Rattle.lin_core.specs.declared.slot.OpenSlot.{OpenSlot}
use Rattle.lin_core.specs.declared.slot.Put.{Put}

-- the frames that were pending until a response in the slot
abbrev pub is_cleared : List Put → ℕ → Bool
is_cleared ps f = list_any (λ (p : Put). option_map_or (λ g. g == f) p.cleared false) ps

abbrev pub is_cleared_in : Option OpenSlot → ℕ → Bool
is_cleared_in None f = false
is_cleared_in (Some s) f = is_cleared s.puts.items f

-- they are frames of which it is kept whether they are pending
abbrev pub AreCleared : List Bool → List Put → Type 0
AreCleared flags ps = All (λ (p : Put). IfSome p.cleared (λ f. f < length flags)) ps

-- the only response of a slot: its frame is kept as pending just where a write to one of its
-- signals stands after it, and no other frame was pending until it
pub record KeepsOne (c : Parts) (past : List LogEntry) (slot : OpenSlot) (put : Put)
    (flags : List Bool) : Type 0 where
  pub written : (f : ℕ) → carried_frame c (slot_in slot) ≡ Some f
      → slice_index_or flags f false ≡ is_written_since_answer (frame_of c f) past
  pub own : (f : ℕ) → option_map_or (λ g. g == f) put.cleared false ≡ true
      → carried_frame c (slot_in slot) ≡ Some f

-- the values that the publishers see and those that the others see, the frames that are pending (in
-- the open slot those whose response was made are kept apart), and empty room for a frame's values
pub record KeepsSignals (c : Parts) (past : List LogEntry) (slot : Option OpenSlot)
    (signals : Signals) : Type 0 where
  pub values_count : length signals.values.items ≡ length c.signals
  pub each_value : ArePointwise (value c past) signals.values.items
  pub heard_count : length signals.heard.items ≡ length c.signals
  pub each_heard : ArePointwise (heard_value c past) signals.heard.items
  pub pending_count : length signals.pending.items ≡ length c.frames
  pub each_pending : (f : ℕ)
      → (slice_index_or signals.pending.items f false || is_cleared_in slot f) ≡ is_pending c past f
  pub one : (s : OpenSlot) (p : Put) → slot ≡ Some s → s.puts.items ≡ p ∷ []
      → KeepsOne c past s p signals.pending.items
  pub cleared : (s : OpenSlot) → slot ≡ Some s
      → AreCleared signals.pending.items s.puts.items
  pub fits : (s : ℕ) → s < length c.signals
      → IsTrue (fits_place (place_at 0 (signal_of c s)) (value c past s))
  pub room_empty : signals.room.items ≡ []
  pub room_enough : (f : ℕ) → f < length c.frames
      → length (frame_of c f).signals ≤ vec_capacity signals.room

-- the values that are heard after a slot: those that it carries, and all others as before
abbrev pub HearsSlot : Parts → OpenSlot → List Value → List Value → Type 0
HearsSlot c slot old new = HearsValues (value_in c (slot_in slot)) old new

-- which frames are pending after a write to a signal
abbrev pub MarksFrames : Parts → ℕ → List Bool → List Bool → Type 0
MarksFrames c signal old new =
    (f : ℕ) → f < length c.frames
    → slice_index_or new f false
    ≡ (if is_in (frame_of c f).signals signal then true else slice_index_or old f false)

-- and after a slot: where it isn't seen good, also those that were pending until its responses
abbrev pub EndsPending : OpenSlot → List Bool → List Bool → Type 0
EndsPending slot old new =
    (f : ℕ) → slice_index_or new f false
    ≡ (if is_some (good (slot_in slot)) then slice_index_or old f false
    else (slice_index_or old f false || is_cleared slot.puts.items f))

-- the end of a slot: a good one is heard, and the frames that another one carried are pending again
pub record EndsSlot (c : Parts) (slot : OpenSlot) (signals signals' : Signals) : Type 0 where
  pub values : signals'.values ≡ signals.values
  pub room : signals'.room ≡ signals.room
  pub heard_count : length signals'.heard.items ≡ length signals.heard.items
  pub count : length signals'.pending.items ≡ length signals.pending.items
  pub heard : HearsSlot c slot signals.heard.items signals'.heard.items
  pub pending : EndsPending slot signals.pending.items signals'.pending.items
