-- What the code keeps of the places of signals.
use Rattle.std.specs.Prelude.{◌≡◌, ◌++◌, ℕ, List, [], false, filter, fold, if◌then◌else◌, length, map, not, slice_index_or, true}
use Rattle.std.specs.List.{position_or_len}
use Rattle.std.specs.Str.{bytes_eq}
use Rattle.lin_parts.specs.declared.description.Frame.{Frame}
use Rattle.lin_parts.specs.declared.description.Signal.{Signal}
use Rattle.lin_sections.specs.NewNames.{has_in, is_among, AddsKeys, RenamesData}
use Rattle.lin_sections.specs.Numbering.{ArePlaces}
use Rattle.lin_sections.specs.Renames.{all_places, all_signal_names, places_in, signal_key}
use Rattle.lin_sections.specs.SortedTexts.{insert_text}
use Rattle.lin_sections.specs.Things.{ComparedData}
use Rattle.lin_sections.specs.declared.diff.new_names.Keyed.{Keyed}
use Rattle.lin_sections.specs.declared.diff.new_names.KnownNames.{KnownNames}
use Rattle.lin_sections.specs.declared.diff.signal_facts.Places.{Places}

-- the number of a name among names, and the places with it
abbrev pub number_among : List (List ℕ) → List ℕ → ℕ
number_among names q = position_or_len (λ t. bytes_eq t q) names

abbrev pub places_under : List (List ℕ) → List (List (List ℕ)) → List ℕ → List (List ℕ)
places_under names all q = slice_index_or all (number_among names q) []

-- under each of some names, its places
pub record ArePlacesOf (names : List (List ℕ)) (places : List ℕ → List (List ℕ)) (p : Places) : Type 0 where
  pub numbers : ArePlaces names p.numbers.map
  pub size : length p.all.items ≡ length names
  pub each : (q : List ℕ) → is_among names q ≡ true → places_under names p.all.items q ≡ places q

-- the names that aren't among other names
abbrev pub alone_names : KnownNames → List (List ℕ) → List (List ℕ)
alone_names others names = filter (λ n. not (has_in others.map n)) names

-- of each name, no places
abbrev pub without_places : List (List ℕ) → List (List (List ℕ))
without_places names = map (λ n. []) names

-- names were numbered behind the names of all places
abbrev pub NumbersAlone : Places → Places → List (List ℕ) → Type 0
NumbersAlone before after more =
    (names : List (List ℕ)) → length before.all.items ≡ length names
    → ArePlaces names before.numbers.map → ArePlaces (names ++ more) after.numbers.map

-- one place more, of a signal
abbrev pub with_place : (List ℕ → List (List ℕ)) → List ℕ → List ℕ → List ℕ → List (List ℕ)
with_place places signal place q = if bytes_eq signal q then insert_text (places q) place else places q

-- the places in a frame more
abbrev pub with_places_in : RenamesData → (List ℕ → List (List ℕ)) → Frame → List ℕ → List (List ℕ)
with_places_in r places f q = fold insert_text (places q) (places_in r q f)

-- places were added
abbrev pub AddsPlaces : Places → Places → ((List ℕ → List (List ℕ)) → List ℕ → List (List ℕ)) → Type 0
AddsPlaces before after more =
    (names : List (List ℕ)) (places : List ℕ → List (List ℕ))
    → ArePlacesOf names places before → ArePlacesOf names (more places) after

-- the places under a signal, if it is among the names
abbrev pub FindsPlaces : Places → List ℕ → List (List ℕ) → Type 0
FindsPlaces p signal found =
    (names : List (List ℕ)) (places : List ℕ → List (List ℕ))
    → ArePlacesOf names places p → is_among names signal ≡ true → found ≡ places signal

-- what holds of the places of a signal that isn't among other names
abbrev pub WithPlaces : Places → KnownNames → List ℕ → (List (List ℕ) → Type 0) → Type 0
WithPlaces p others signal holds =
    (names : List (List ℕ)) (all : List ℕ → List (List ℕ))
    → ArePlacesOf names all p → (has_in others.map signal ≡ false → is_among names signal ≡ true)
    → holds (all signal)

-- keys were added: that of a signal, if it isn't among other names
abbrev pub AddsSignalKey : Places → KnownNames → Signal → List Keyed → List Keyed → Type 0
AddsSignalKey p others s before after =
    WithPlaces p others s.name.text (λ all. AddsKeys others before after (signal_key s all))

-- the places of the signals of an LDF that aren't among other names
abbrev pub ArePlacesIn : ComparedData → KnownNames → RenamesData → Places → Type 0
ArePlacesIn d others r p =
    ArePlacesOf (alone_names others (all_signal_names d)) (all_places d r) p
