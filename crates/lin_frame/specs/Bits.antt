-- Where signals lie in a frame's data bytes, and the bits of a frame (ISO 17987-3, signal mapping;
-- LIN 2.2A, 2.2).
use Rattle.std.specs.Prelude.{ℕ, ◌+◌, ◌-◌, ◌*◌, ◌/◌, ◌%◌, ◌^◌, Bool, true, false, not, ◌&&◌, ◌||◌}
use Rattle.std.specs.Prelude.{nat_lt, nat_le, if◌then◌else◌, ◌==◌, List, [], ◌∷◌, ◌++◌, length}
use Rattle.std.specs.Prelude.{map, sum, replicate, slice_index, zip, find}
use Rattle.std.specs.List.{list_all}
use Rattle.std.specs.Option.{option_map_or}
use Rattle.lin_frame.specs.Words.{numbers}
use Rattle.lin_frame.specs.Frame.{bit}
use Rattle.lin_frame.specs.declared.layout.Layout.{Layout}
use Rattle.lin_frame.specs.declared.layout.Place.{Place}
use Rattle.lin_frame.specs.declared.value.Value.{Value}
use Rattle.lin_frame.specs.declared.value.Value.TheVariants.{Scalar, Bytes}

-- a scalar has 1 to 16 bits, an array 1 to 8 whole bytes at a byte border
abbrev pub has_good_size : Place → Bool
has_good_size p =
    if p.array
    then p.offset % 8 == 0 && p.size % 8 == 0 && nat_le 8 p.size && nat_le p.size 64
    else nat_le 1 p.size && nat_le p.size 16

-- whether the place has a good size and lies in the bits from first up to end
abbrev pub lies_in : ℕ → ℕ → Place → Bool
lies_in first end p = has_good_size p && nat_le first p.offset && nat_le (p.offset + p.size) end

-- whether two places share no bit
abbrev pub are_apart : Place → Place → Bool
are_apart p q = nat_le (p.offset + p.size) q.offset || nat_le (q.offset + q.size) p.offset

-- whether no two of the places share a bit
abbrev pub all_apart : List Place → Bool
all_apart [] = true
all_apart (p ∷ ps) = list_all (are_apart p) ps && all_apart ps

-- the first bit that signals may use: data byte 0 is taken where it holds a protected identifier
abbrev pub first_bit : Layout → ℕ
first_bit layout = option_map_or (λ own. 8) layout.pid 0

-- whether a frame can be laid out so: 1 to 8 data bytes, and in them places that share no bit
abbrev pub is_good_layout : Layout → Bool
is_good_layout layout =
    nat_le 1 layout.len
    && nat_le layout.len 8
    && list_all (lies_in (first_bit layout) (8 * layout.len)) layout.places
    && all_apart layout.places

-- whether the place can hold the value
abbrev pub fits_place : Place → Value → Bool
fits_place p (Scalar x) = not p.array && nat_lt x (2 ^ p.size)
fits_place p (Bytes xs) = p.array && 8 * length xs == p.size

-- whether there is one value per place, which can hold it
abbrev pub all_fit : List Place → List Value → Bool
all_fit [] [] = true
all_fit [] (v ∷ vs) = false
all_fit (p ∷ ps) [] = false
all_fit (p ∷ ps) (v ∷ vs) = fits_place p v && all_fit ps vs

-- whether an array's items are bytes
abbrev pub has_bytes : Value → Bool
has_bytes (Scalar x) = true
has_bytes (Bytes xs) = list_all (λ x. nat_lt x 256) xs

-- bit j of a value: a scalar's least significant bit is bit 0, and of an array the first byte's
abbrev pub value_bit : Value → ℕ → ℕ
value_bit (Scalar x) j = bit x j
value_bit (Bytes xs) j = bit (slice_index xs (j / 8)) (j % 8)

-- whether bit b of a frame is in the place
abbrev pub covers : Place → ℕ → Bool
covers p b = nat_le p.offset b && nat_lt b (p.offset + p.size)

-- bit b of a frame with these values in these places, and 1 where there is none
abbrev pub placed_bit : List Place → List Value → ℕ → ℕ
placed_bit places values b =
    option_map_or
    (λ s. value_bit s.1 (b - s.0.offset)) (find (λ s. covers s.0 b) (zip places values)) 1

-- bit b of a frame: of its protected identifier where data byte 0 holds it, otherwise of the signal
-- there
abbrev pub frame_bit : Layout → List Value → ℕ → ℕ
frame_bit layout values b =
    option_map_or (λ own.
    if nat_lt b 8 then bit own b else placed_bit layout.places values b) layout.pid
    (placed_bit layout.places values b)

-- the number whose n lowest bits are these
abbrev pub number_of_bits : ℕ → (ℕ → ℕ) → ℕ
number_of_bits n at = sum (map (λ j. at j * 2 ^ j) (numbers n))

-- the byte of bits 8 k to 8 k + 7
abbrev pub byte_of_bits : (ℕ → ℕ) → ℕ → ℕ
byte_of_bits at k = number_of_bits 8 (λ j. at (8 * k + j))

-- the data bytes of a frame
abbrev pub packed_bytes : Layout → List Value → List ℕ
packed_bytes layout values = map (byte_of_bits (frame_bit layout values)) (numbers layout.len)

-- the eight bytes that begin with a frame's data bytes
abbrev pub padded_bytes : ℕ → List ℕ → List ℕ
padded_bytes len bytes = bytes ++ replicate (8 - len) 0xFF

-- bit b of data bytes
abbrev pub data_bit : List ℕ → ℕ → ℕ
data_bit bytes b = bit (slice_index bytes (b / 8)) (b % 8)

-- the value in a place of data bytes
abbrev pub unpacked_value : Place → List ℕ → Value
unpacked_value p bytes =
    let at = λ (j : ℕ). data_bit bytes (p.offset + j)
    in if p.array then Bytes (map (byte_of_bits at) (numbers (p.size / 8))) else Scalar
    (number_of_bits p.size at)
