-- The value that a text of a script spells, in units of 10 ^ -24: `[-|+] digits [. digits]`.
use Rattle.std.specs.Prelude.{◌≡◌, ℕ, ◌≤◌, zero, suc, ◌*◌, ◌^◌, ◌-◌, ◌+◌, ◌==◌, ◌&&◌, ◌||◌, Bool, true, false, ℤ}
use Rattle.std.specs.Prelude.{List, [], ◌∷◌, Option, Some, None, nat_lt, length, take, drop}
use Rattle.std.specs.Prelude.{if◌then◌else◌, option_map}
use Rattle.std.specs.Char.{is_ascii_digit}
use Rattle.std.specs.List.{prefix_len}
use Rattle.lin_values.specs.Value.{scaled_value, with_sign, IsReadable, IsShortest}
use Rattle.lin_values.specs.declared.decimals.Decimal.{Decimal}

-- n units and digits, of which the next counts 10 ^ (left - 1) units; later ones are all 0
abbrev pub places_after : ℕ → ℕ → List ℕ → Option ℕ
places_after n left [] = Some n
places_after n zero (c ∷ cs) = if c == 48 then places_after n zero cs else None
places_after n (suc k) (c ∷ cs) = if is_ascii_digit c then places_after (n + (c - 48) * 10 ^ k) k cs else None

-- so many units and places are left after one digit more, within the limits
abbrev pub IsPlaced : ℕ → ℕ → ℕ → ℕ × ℕ → Type 0
IsPlaced n left c r =
    ((cs : List ℕ) → places_after n left (c ∷ cs) ≡ places_after r.0 r.1 cs)
    × (r.0 + 10 ^ r.1 ≤ 10 ^ 38) × (r.1 ≤ 24)

-- the digits of the whole part after those of n, which is below 10 ^ 14, and the places
abbrev pub whole_after : ℕ → List ℕ → Option ℕ
whole_after n [] = if nat_lt n (10 ^ 14) then Some (n * 10 ^ 24) else None
whole_after n (c ∷ cs) =
    if is_ascii_digit c then whole_after (n * 10 + (c - 48)) cs
    else if c == 46 && nat_lt n (10 ^ 14) && nat_lt 0 (length cs) then places_after (n * 10 ^ 24) 24 cs
    else None

abbrev pub unsigned_number : List ℕ → Option ℕ
unsigned_number [] = None
unsigned_number (c ∷ cs) = if is_ascii_digit c then whole_after 0 (c ∷ cs) else None

-- a decimal is the shortest that has this value
abbrev pub IsShortestOf : Option ℤ → Decimal → Type 0
IsShortestOf value d = (value ≡ Some (scaled_value d)) × IsReadable d × IsShortest d

abbrev pub signed_number : List ℕ → Option ℤ
signed_number [] = None
signed_number (c ∷ cs) =
    if c == 45 then option_map (with_sign true) (unsigned_number cs)
    else option_map (with_sign false) (unsigned_number (if c == 43 then cs else c ∷ cs))

-- ---- a number and its unit

abbrev pub is_number_byte : ℕ → Bool
is_number_byte c = is_ascii_digit c || (c == 46 || (c == 45 || c == 43))

-- how many bytes of the front are of a number
abbrev pub number_end : List ℕ → ℕ
number_end text = prefix_len is_number_byte text

abbrev pub spaces_at_front : List ℕ → ℕ
spaces_at_front text = prefix_len (λ c. c == 32) text

abbrev pub without_spaces : List ℕ → List ℕ
without_spaces text = drop (spaces_at_front text) text

-- the decimal in front, and what stands behind it and the spaces there
abbrev pub number_and_unit : List ℕ → Option (ℤ × List ℕ)
number_and_unit text =
    option_map (λ z. (z, without_spaces (drop (number_end text) text)))
    (signed_number (take (number_end text) text))
