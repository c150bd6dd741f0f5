-- Which slots carry what a node waits for (ISO 17987-3, unconditional, sporadic and event-triggered
-- frames; ISO 17987-2, diagnostic frames).
use Rattle.std.specs.Prelude.{ℕ, ◌+◌, ◌&&◌, ◌==◌, Bool, true, false, nat_lt, List, [], ◌∷◌, ◌++◌}
use Rattle.std.specs.Prelude.{length, map, replicate, take, count_by, position, slice_index_or}
use Rattle.std.specs.Prelude.{Option, option_map}
use Rattle.std.specs.List.{list_any, range_with_len}
use Rattle.std.specs.Option.{option_map_or}
use Rattle.lin_parts.specs.Cluster.{frame_of, sporadic_of, event_of}
use Rattle.lin_parts.specs.declared.parts.Parts.{Parts}
use Rattle.lin_parts.specs.declared.parts.Entry.{Entry}
use Rattle.lin_parts.specs.declared.parts.Entry.TheVariants.{Frame, Sporadic, Event}
use Rattle.lin_parts.specs.declared.parts.Entry.TheVariants.{MasterReq}
use Rattle.lin_parts.specs.declared.parts.Entry.TheVariants.{SlaveResp, Fixed, Quiet}

-- the entries whose slots carry it, unless the answers in the slot collide: those of frames,
-- sporadic and event-triggered frames by their numbers, and the diagnostic ones
pub record Carriers : Type 0 where
  pub frames : List Bool
  pub sporadic : List Bool
  pub events : List Bool
  pub request : Bool
  pub response : Bool

-- whether an entry's slot carries it (the frame of a configuration entry is none of a message)
abbrev pub carries : Carriers → Entry → Bool
carries k (Frame f) = slice_index_or k.frames f false
carries k (Sporadic s) = slice_index_or k.sporadic s false
carries k (Event e) = slice_index_or k.events e false
carries k MasterReq = k.request
carries k SlaveResp = k.response
carries k (Fixed b) = false
carries k Quiet = false

-- whether a frame has a signal
abbrev pub has_signals : Parts → ℕ → Bool
has_signals c f = nat_lt 0 (length (frame_of c f).signals)

-- whether a frame is one of these
abbrev pub is_among_frames : List ℕ → ℕ → Bool
is_among_frames frames f = list_any (λ g. g == f) frames

-- how many different frames with a signal these are
abbrev pub different_in : Parts → List ℕ → ℕ
different_in c frames =
    count_by (λ f. is_among_frames frames f && has_signals c f) (range_with_len 0 (length c.frames))

-- the rank of the first of these frames in a sporadic frame: 1, and 1 more for each different frame
-- with a signal above it, which is sent first where both are pending
abbrev pub rank : Parts → List ℕ → ℕ → Option ℕ
rank c frames s =
    option_map (λ first. 1 + different_in c (take first (sporadic_of c s)))
    (position (is_among_frames frames) (sporadic_of c s))

-- whether one of these frames is first in rank in a sporadic frame
abbrev pub is_first : Parts → List ℕ → ℕ → Bool
is_first c frames s = option_map_or (λ r. r == 1) (rank c frames s) false

-- whether an event-triggered frame lists one of these frames
abbrev pub lists_one : Parts → List ℕ → ℕ → Bool
lists_one c frames e = list_any (is_among_frames frames) (event_of c e).frames

-- what carries one of these frames: their own entries, those of sporadic frames in which they are
-- first in rank, and those of event-triggered frames that list one
abbrev pub carriers_of_frames : Parts → List ℕ → Carriers
carriers_of_frames c frames =
    record {
      frames = map (is_among_frames frames) (range_with_len 0 (length c.frames));
      sporadic = map (is_first c frames) (range_with_len 0 (length c.sporadic));
      events = map (lists_one c frames) (range_with_len 0 (length c.events));
      request = false;
      response = false;
    }

-- the entries of a sporadic frame, whatever they send
abbrev pub carriers_of_sporadic : ℕ → Carriers
carriers_of_sporadic s =
    record {
      frames = [];
      sporadic = replicate s false ++ true ∷ [];
      events = [];
      request = false;
      response = false;
    }

-- the entries of the master request frame, and of the slave response frame
abbrev pub diagnostic_carriers : Bool → Bool → Carriers
diagnostic_carriers request response =
    record { frames = []; sporadic = []; events = []; request = request; response = response }

abbrev pub carriers_of_requests : Carriers
carriers_of_requests = diagnostic_carriers true false

abbrev pub carriers_of_responses : Carriers
carriers_of_responses = diagnostic_carriers false true

-- whether answers can collide in an entry's slot: two frames of its event-triggered frame have a
-- signal, which may be written, and so both may be pending
abbrev pub can_collide : Parts → Entry → Bool
can_collide c (Event e) = nat_lt 1 (count_by (has_signals c) (event_of c e).frames)
can_collide c entry = false
