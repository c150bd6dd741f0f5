-- What the signals of a frame take up: their numbers, and the ranges of their bits.
use Rattle.std.specs.Prelude.{◌≡◌, ◌<◌, ◌+◌, ◌*◌, ◌%◌, ◌⊎◌, ◌↔◌, ◌++◌, ℕ, List, Option, IsSome, is_none, Bool}
use Rattle.std.specs.Prelude.{true, not, ◌&&◌, ◌||◌, ◌==◌, nat_eq, nat_lt, false, if◌then◌else◌}
use Rattle.std.specs.Prelude.{get_or}
use Rattle.indexmap.specs.IndexSet.{contains}
use Rattle.std.specs.Option.{option_map_or}
use Rattle.lin_cluster.specs.FindingsNames.{at_name, at_number, when}
use Rattle.lin_cluster.specs.FindingsNodes.{are_two}
use Rattle.lin_cluster.specs.FindingsRanges.{HasBit}
use Rattle.lin_cluster.specs.declared.finding.Finding.{Finding}
use Rattle.lin_cluster.specs.declared.finding.FindingKind.TheVariants.{UnknownName, WrongPublisher}
use Rattle.lin_cluster.specs.declared.finding.FindingKind.TheVariants.{SignalOutside, SignalsOverlap}
use Rattle.lin_cluster.specs.declared.findings.facts.SignalFacts.{SignalFacts}
use Rattle.lin_cluster.specs.declared.findings.numbers.NumberSet.{NumberSet}
use Rattle.lin_cluster.specs.declared.findings.places.EarlierSignals.{EarlierSignals}
use Rattle.lin_cluster.specs.declared.findings.ranges.Ranges.{Ranges}
use Rattle.lin_parts.specs.declared.description.Frame.{Frame}
use Rattle.lin_parts.specs.declared.description.PlacedSignal.{PlacedSignal}

-- whether a number is in the set
abbrev pub has_number : NumberSet → ℕ → Bool
has_number s q = if nat_lt q 1024 then get_or s.few q false else contains nat_eq s.others q

-- a signal of so many bits that is there already, or of which a bit is
abbrev pub IsTaken : Bool → Ranges → PlacedSignal → ℕ → Type 0
IsTaken twice ranges p size =
    (twice ≡ true) ⊎ ((0 < size) × HasBit ranges p.offset.value (p.offset.value + size))

-- whether a signal of so many bits has one of the range from a to b
abbrev pub has_bit_between : ℕ → ℕ → PlacedSignal → ℕ → Bool
has_bit_between a b q size = nat_lt 0 size && nat_lt a (q.offset.value + size) && nat_lt q.offset.value b

-- a signal's bits are added to others, where there is such a signal
abbrev pub AddsBits : Ranges → PlacedSignal → Option SignalFacts → Ranges → Type 0
AddsBits old p signal new =
    (a b : ℕ) → a < b
    → HasBit new a b ↔
    (HasBit old a b ⊎ (option_map_or (λ s. has_bit_between a b p s.size) signal false ≡ true))

-- what is found of a signal that is taken, whatever tells of the sizes at which it is
abbrev pub FindsOverlap : Bool → Ranges → PlacedSignal → Option SignalFacts
    → (List Finding → Type 0) → Type 0
FindsOverlap twice ranges p signal are =
    (taken : ℕ → Bool)
    → (IsSome signal → (size : ℕ) → (taken size ≡ true) ↔ IsTaken twice ranges p size)
    → are (when (option_map_or (λ s. taken s.size) signal false) (at_number SignalsOverlap p.offset))

-- what is wrong with a signal in a frame, by what is known of the signal and by the number of the
-- frame's publisher
abbrev pub is_outside_by : Frame → PlacedSignal → SignalFacts → Bool
is_outside_by f p s =
    nat_lt (8 * f.size.value) (p.offset.value + s.size)
    || (s.is_array && not (p.offset.value % 8 == 0))

abbrev pub in_placed_by : Frame → Option ℕ → PlacedSignal → Option SignalFacts → List Finding
in_placed_by f publisher p signal =
    when (is_none signal) (at_name UnknownName p.signal)
    ++ when (option_map_or (λ s. are_two s.publisher publisher) signal false)
    (at_name WrongPublisher p.signal)
    ++ when (option_map_or (is_outside_by f p) signal false) (at_number SignalOutside p.offset)

-- what is found of it behind earlier signals, by its number and what is known of it
abbrev pub FindsPlaced : EarlierSignals → Frame → Option ℕ → PlacedSignal
    → ℕ × Option SignalFacts → List Finding → List Finding → Type 0
FindsPlaced earlier f publisher p known old new =
    FindsOverlap (has_number earlier.numbers known.0) earlier.ranges p known.1
    (λ overlap. new ≡ old ++ in_placed_by f publisher p known.1 ++ overlap)
