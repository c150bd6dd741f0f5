-- What the slots of a cluster need (ISO 17987-3, frame slots).
use Rattle.std.specs.Prelude.{◌≤◌, ℕ, List, All, max, fold, slice_index}
use Rattle.lin_cluster.specs.Slots.{needed_us}
use Rattle.lin_parts.specs.Cluster.{event_of, frame_of, sporadic_of}
use Rattle.lin_parts.specs.declared.parts.Entry.{Entry}
use Rattle.lin_parts.specs.declared.parts.Entry.TheVariants.{Frame, Sporadic, Event}
use Rattle.lin_parts.specs.declared.parts.Entry.TheVariants.{MasterReq}
use Rattle.lin_parts.specs.declared.parts.Entry.TheVariants.{SlaveResp, Fixed, Quiet}
use Rattle.lin_parts.specs.declared.parts.Parts.{Parts}

abbrev pub frame_bytes : Parts → ℕ → ℕ
frame_bytes c f = (frame_of c f).layout.len

abbrev pub greatest_bytes : Parts → List ℕ → ℕ
greatest_bytes c fs = fold (λ n f. max n (frame_bytes c f)) 0 fs

-- the data bytes that a slot has to hold: a sporadic frame's are those of its longest frame, an
-- event-triggered frame's those of its first, since all are as long, and diagnostic and
-- configuration entries have 8
abbrev pub slot_bytes : Parts → Entry → ℕ
slot_bytes c (Frame f) = frame_bytes c f
slot_bytes c (Sporadic k) = greatest_bytes c (sporadic_of c k)
slot_bytes c (Event e) = frame_bytes c (slice_index (event_of c e).frames 0)
slot_bytes c MasterReq = 8
slot_bytes c SlaveResp = 8
slot_bytes c (Fixed request) = 8
slot_bytes c Quiet = 8

-- the time in microseconds that the slot takes at most
abbrev pub slot_need : Parts → Entry → ℕ
slot_need c entry = needed_us c.jitter_us c.speed (slot_bytes c entry)

-- each slot is as long as it needs
abbrev pub NoSlotIsShort : Parts → Type 0
NoSlotIsShort c = All (λ t. All (λ l. slot_need c l.entry ≤ l.delay_us) t.lines) c.tables
