-- REALs of LDF texts: the number without its sign, as one text. With the digits before and behind its
-- point, m of them behind it, and the exponent e it is worth digits * 10 ^ (e - m).
use Rattle.std.specs.Prelude.{ℕ, ◌≡◌, ◌<◌, ◌≤◌, ◌+◌, ◌*◌, ◌/◌, ◌%◌, ◌^◌, ◌-◌, ◌==◌, ◌&&◌, ◌||◌, not, List, []}
use Rattle.std.specs.Prelude.{◌∷◌, ◌++◌, length, take, drop, fold, nat_lt, nat_le, Option, Some, None}
use Rattle.std.specs.Prelude.{option_and_then, option_map, if◌then◌else◌}
use Rattle.std.specs.List.{list_all, prefix_len}
use Rattle.std.specs.Char.{is_ascii_digit}
use Rattle.lin_ldf.specs.Numbers.{point_at}

abbrev pub digits_value : List ℕ → ℕ
digits_value ds = fold (λ n c. 10 * n + (c - 48)) 0 ds

-- num / den, where that is a whole number below 10 ^ 33
abbrev pub whole_quotient : ℕ → ℕ → Option ℕ
whole_quotient num den =
    if num % den == 0 && nat_lt (num / den) (10 ^ 33) then Some (num / den) else None

-- the units of 10 ^ -24 of digits, of which so many stand behind the point, times 10 ^ up / 10 ^ down
abbrev pub scaled_units : List ℕ → ℕ → ℕ → ℕ → Option ℕ
scaled_units ds behind up down =
    whole_quotient (digits_value ds * 10 ^ (24 + up)) (10 ^ (behind + down))

-- The digits that are left, of which the first counts 10 ^ (left - 1 - down) units, leave the units
-- below 10 ^ 33.
abbrev pub HasRoom : ℕ → ℕ → ℕ → Type 0
HasRoom units left down =
    (33 < left - down → units ≡ 0) × (left - down ≤ 33 → units + 10 ^ (left - down) ≤ 10 ^ 33)

-- the same digit by digit: the next one counts 10 ^ (left - 1 - down) units, and is 0 where that is no
-- whole number of them, or too many
abbrev pub digit_units : ℕ → ℕ → ℕ → ℕ → Option ℕ
digit_units units left down c =
    if c == 48 then Some units
    else if nat_lt down left && nat_le (left - down) 33
    then Some (units + (c - 48) * 10 ^ (left - down - 1)) else None

abbrev pub digits_units : ℕ → ℕ → ℕ → List ℕ → Option ℕ
digits_units units left down [] = Some units
digits_units units left down (c ∷ cs) =
    if is_ascii_digit c
    then option_and_then (λ n. digits_units n (left - 1) down cs) (digit_units units left down c)
    else None

-- some digits, before the point or behind it
abbrev pub mantissa_units : List ℕ → List ℕ → ℕ → ℕ → Option ℕ
mantissa_units whole fraction up down =
    if nat_lt 0 (length (whole ++ fraction)) && list_all is_ascii_digit (whole ++ fraction)
    then scaled_units (whole ++ fraction) (length fraction) up down else None

-- 1 to 3 digits
abbrev pub exponent_size : List ℕ → Option ℕ
exponent_size ds =
    if nat_lt 0 (length ds) && (nat_le (length ds) 3 && list_all is_ascii_digit ds)
    then Some (digits_value ds) else None

-- what stands behind the `e`: up and down
abbrev pub exponent : List ℕ → Option (ℕ × ℕ)
exponent [] = None
exponent (c ∷ cs) =
    if c == 45 then option_map (λ n. (0, n)) (exponent_size cs)
    else option_map (λ n. (n, 0)) (exponent_size (if c == 43 then cs else c ∷ cs))

-- where the first `e` or `E` stands, or the length
abbrev pub exponent_at : List ℕ → ℕ
exponent_at text = prefix_len (λ c. not (c == 101 || c == 69)) text

-- up and down of a whole number's exponent
abbrev pub shift_of : List ℕ → Option (ℕ × ℕ)
shift_of text =
    if nat_lt (exponent_at text) (length text) then exponent (drop (exponent_at text + 1) text)
    else Some (0, 0)

abbrev pub point_units : List ℕ → ℕ × ℕ → Option ℕ
point_units m shift =
    mantissa_units (take (point_at m) m) (drop (point_at m + 1) m) shift.0 shift.1

-- the units that a number without a sign spells
abbrev pub real_units : List ℕ → Option ℕ
real_units text =
    option_and_then (λ shift. point_units (take (exponent_at text) text) shift) (shift_of text)
