-- The events of an entry, of which a search asks which are taken.
use Rattle.std.specs.Prelude.{◌≡◌, ◌+◌, ℕ, Bool, true, List, [], ◌∷◌, ◌++◌, Option, count_by, flat_map, nat_le, take}
use Rattle.lin_core.specs.History.{events}
use Rattle.lin_core.specs.declared.event.Event.{Event}
use Rattle.lin_core.specs.declared.log.LogEntry.{LogEntry}
use Rattle.lin_bench.specs.Searches.{IsSearchState, is_sought, taken_by}
use Rattle.lin_bench.specs.Verdicts.{all_events, first_so, is_of_kind, same_kind}
use Rattle.lin_bench.specs.declared.taken.EventKind.{EventKind}
use Rattle.lin_bench.specs.declared.taken.EventsSought.{EventsSought}
use Rattle.lin_bench.specs.declared.taken.TakenEvents.{TakenEvents}

-- these are the events of an entry of a log, by its number
abbrev pub AreOf : List LogEntry → ℕ → List Event → Type 0
AreOf es i told = flat_map events (take (i + 1) es) ≡ flat_map events (take i es) ++ told

-- an event of a kind isn't taken, where these events stand before it
abbrev pub is_left : List EventKind → EventKind → List Event → Bool
is_left taken kind before =
    nat_le (count_by (same_kind kind) taken) (count_by (is_of_kind kind) before)

-- the events of a log before those of an entry, and before one of these
abbrev pub events_before : List LogEntry → ℕ → List Event → List Event
events_before es entry before = flat_map events (take entry es) ++ before

-- this is whether an event of a kind isn't taken, in each log where it stands there
abbrev pub TellsIfLeft : TakenEvents → EventKind → ℕ → List Event → Bool → Type 0
TellsIfLeft taken kind entry before left =
    (es : List LogEntry) → (e : Event) → (rest : List Event) → IsSearchState es taken
    → AreOf es entry (before ++ e ∷ rest) → is_of_kind kind e ≡ true
    → left ≡ is_left (taken_by es taken) kind (events_before es entry before)

-- the first event that a search is for, and that isn't taken
abbrev pub first_left : List LogEntry → List EventKind → EventsSought → Option Event
first_left past taken sought = first_so (is_sought sought taken) [] (all_events past)

-- this is whether an event passes a test of what is taken, of the events before it and of itself, in
-- each log where it stands there
abbrev pub TellsIfSo : (List EventKind → List Event → Event → Bool) → TakenEvents → ℕ → List Event → Event
    → Bool → Type 0
TellsIfSo is taken entry before event so =
    (es : List LogEntry) → (rest : List Event) → IsSearchState es taken
    → AreOf es entry (before ++ event ∷ rest)
    → so ≡ is (taken_by es taken) (events_before es entry before) event

-- this is the first event that passes such a test among those of an entry, in each log whose entry
-- that is
abbrev pub TellsFirst : (List EventKind → List Event → Event → Bool) → TakenEvents → ℕ → List Event
    → Option Event → Type 0
TellsFirst is taken entry told found =
    (es : List LogEntry) → IsSearchState es taken → AreOf es entry told
    → found ≡ first_so (is (taken_by es taken)) (flat_map events (take entry es)) told
