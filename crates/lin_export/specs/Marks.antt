-- The marks of the bits of a frame: which signal has which bit of the data bytes (ISO 17987-3, signal
-- mapping; LIN 2.2A, 2.2).
use Rattle.std.specs.Prelude.{◌≡◌, ◌<◌, ℕ, ◌+◌, ◌-◌, ◌*◌, ◌==◌, nat_lt, if◌then◌else◌, length}
use Rattle.std.specs.Prelude.{count_by, sum_by, position, slice_index_or}
use Rattle.std.specs.Option.{option_map_or}
use Rattle.lin_frame.specs.Bits.{covers, first_bit}
use Rattle.lin_frame.specs.Words.{numbers}
use Rattle.lin_frame.specs.declared.layout.Layout.{Layout}
use Rattle.lin_frame.specs.declared.layout.Place.{Place}

-- the mark of a signal by its number among the places of its frame: `A` to `Z`, `a` to `z`, `0` to
-- `9`, `@` and `#`, as many as a frame has bits
abbrev pub signal_mark : ℕ → ℕ
signal_mark k =
    if nat_lt k 26 then 65 + k
    else (if nat_lt k 52 then 97 + (k - 26)
    else (if nat_lt k 62 then 48 + (k - 52) else (if k == 62 then 64 else 35)))

-- the mark of bit b of a frame: `=` if data byte 0 holds the protected identifier and has the bit,
-- the mark of the signal there, and `.` if no signal is there
abbrev pub bit_mark : Layout → ℕ → ℕ
bit_mark layout b =
    if nat_lt b (first_bit layout) then 61
    else option_map_or signal_mark (position (λ p. covers p b) layout.places) 46

-- the bits of the data bytes that neither the protected identifier nor a signal has
abbrev pub free_bits : Layout → ℕ
free_bits layout =
    8 * layout.len - (first_bit layout + sum_by (λ p. p.size) layout.places)

-- a bit has the mark of a signal exactly if the signal's place has the bit, and the bits with `.` are
-- the free ones
pub record TellsPlaces (layout : Layout) : Type 0 where
  pub marks :
      (k : ℕ) (p : Place) → k < length layout.places → p ≡ slice_index_or layout.places k p
      → (b : ℕ) → (bit_mark layout b == signal_mark k) ≡ covers p b
  pub dots :
      count_by (λ b. bit_mark layout b == 46) (numbers (8 * layout.len)) ≡ free_bits layout
