-- Events that expectations took, and the searches that found them, given the entries of a log, the
-- oldest first.
use Rattle.std.specs.Prelude.{◌≡◌, ◌≤◌, ◌+◌, ◌-◌, ◌==◌, ℕ, Bool, true, false, List, [], ◌∷◌, ◌++◌}
use Rattle.std.specs.Prelude.{count_by, find, flat_map, length, slice_index}
use Rattle.std.specs.Prelude.{if◌then◌else◌, filter, reverse, slice_get, take, Option, Some, None}
use Rattle.std.specs.Prelude.{Result, Ok, Err}
use Rattle.std.specs.List.{filter_map}
use Rattle.lin_core.specs.History.{events}
use Rattle.lin_core.specs.declared.event.Event.{Event}
use Rattle.lin_core.specs.declared.log.LogEntry.{LogEntry}
use Rattle.lin_bench.specs.Verdicts.{first_so, is_loss_left, is_message_left, is_of_kind, kind_of, same_kind}
use Rattle.lin_bench.specs.declared.taken.Cleared.{Cleared}
use Rattle.lin_bench.specs.declared.taken.EventKind.{EventKind}
use Rattle.lin_bench.specs.declared.taken.EventsSought.{EventsSought}
use Rattle.lin_bench.specs.declared.taken.EventsSought.TheVariants.{Losses, Messages}
use Rattle.lin_bench.specs.declared.taken.LogPlace.{LogPlace}
use Rattle.lin_bench.specs.declared.taken.Search.{Search}
use Rattle.lin_bench.specs.declared.taken.TakenEvents.{TakenEvents}

abbrev pub kind_found : Search → List EventKind
kind_found s = if s.found then s.kind ∷ [] else []

-- of which kinds events were taken
abbrev pub taken_by : List LogEntry → TakenEvents → List EventKind
taken_by es t =
    filter_map kind_of (flat_map events (take t.forgotten es))
    ++ flat_map kind_found t.searches.items

abbrev pub last_search : EventKind → List Search → Option Search
last_search kind ss = find (λ s. same_kind kind s.kind) (reverse ss)

abbrev pub end_of : ℕ → Option Search → LogPlace
end_of forgotten None = record { entry = forgotten; events = 0 }
end_of forgotten (Some s) = s.end

-- where the last search for a kind ended
abbrev pub last_end : EventKind → TakenEvents → LogPlace
last_end kind t = end_of t.forgotten (last_search kind t.searches.items)

-- how many events of a kind stand before a place
abbrev pub before : List LogEntry → EventKind → LogPlace → ℕ
before es kind p = count_by (is_of_kind kind) (flat_map events (take p.entry es)) + p.events

-- so many events of a kind stand in the entries up to that of a place
abbrev pub IsReached : List LogEntry → EventKind → LogPlace → Type 0
IsReached es kind p =
    before es kind p ≤ count_by (is_of_kind kind) (flat_map events (take (p.entry + 1) es))

-- whether an event, of which these stand before it, is one that a search is for, and isn't taken
abbrev pub is_sought : EventsSought → List EventKind → List Event → Event → Bool
is_sought (Losses which) = is_loss_left which
is_sought Messages = is_message_left

-- how many entries hold no event that a search is for and that isn't taken
abbrev pub cleared_count : Cleared → EventsSought → ℕ
cleared_count c (Losses None) = c.losses
cleared_count c (Losses (Some host)) = slice_index c.hosts host
cleared_count c Messages = c.messages

-- so many entries hold no event that passes a test of the events before it and itself
abbrev pub HoldNone : (List Event → Event → Bool) → List LogEntry → ℕ → Type 0
HoldNone is es n = (n ≤ length es) × (first_so is [] (flat_map events (take n es)) ≡ None)

-- so many entries hold no such event
abbrev pub AreClear : List LogEntry → TakenEvents → EventsSought → ℕ → Type 0
AreClear es t sought n = HoldNone (is_sought sought (taken_by es t)) es n

-- the last search for each kind ended behind all events that were taken of it
pub record IsSearchState (es : List LogEntry) (t : TakenEvents) : Type 0 where
  pub forgotten : t.forgotten ≤ length es
  pub within : (kind : EventKind) → (last_end kind t).entry ≤ length es
  pub taken : (kind : EventKind)
      → before es kind (last_end kind t) ≡ count_by (same_kind kind) (taken_by es t)
  pub reached : (kind : EventKind) → IsReached es kind (last_end kind t)
  pub clear : (sought : EventsSought) → AreClear es t sought (cleared_count t.cleared sought)

abbrev pub same_host : Option ℕ → Option ℕ → Bool
same_host None None = true
same_host (Some h) (Some k) = h == k
same_host which other = false

abbrev pub same_search : EventsSought → EventsSought → Bool
same_search (Losses which) (Losses other) = same_host which other
same_search Messages Messages = true
same_search sought other = false

-- how many entries hold none is kept for one search
abbrev pub KeepsCleared : EventsSought → ℕ → Cleared → Cleared → Type 0
KeepsCleared sought n old new =
    (q : EventsSought) → cleared_count new q ≡ (if same_search q sought then n else cleared_count old q)

abbrev pub how_many : Option Event → ℕ
how_many None = 0
how_many (Some e) = 1

-- a place stands so many events of a kind behind another
pub record IsBehind (es : List LogEntry) (kind : EventKind) (from : LogPlace) (n : ℕ) (end : LogPlace)
    : Type 0 where
  pub within : end.entry ≤ length es
  pub place : before es kind end ≡ before es kind from + n
  pub reached : IsReached es kind end

-- a search from a place on finds this event, or none, and ends at this place
pub record Finds (es : List LogEntry) (kind : EventKind) (from : LogPlace) (event : Option Event)
    (end : LogPlace) : Type 0 where
  pub event_is : event ≡ slice_get (filter (is_of_kind kind) (flat_map events es)) (before es kind from)
  pub behind : IsBehind es kind from (how_many event) end
  pub some : how_many event ≤ end.events

-- the place before the event that a search found, by the place behind it
abbrev pub place_before : Option Event → LogPlace → LogPlace
place_before None end = end
place_before (Some e) end = record { entry = end.entry; events = end.events - 1 }

-- the event of a kind after so many others, and how many there are up to it; or how many of the
-- others are left
abbrev pub Skips : {X : Type 0} → (X → Event) → List Event → EventKind → ℕ → Result (X × ℕ) ℕ
    → Type 0
Skips view es kind n (Ok f) =
    (slice_get (filter (is_of_kind kind) es) n ≡ Some (view f.0)) × (f.1 ≡ n + 1)
Skips view es kind n (Err left) = count_by (is_of_kind kind) es + left ≡ n
