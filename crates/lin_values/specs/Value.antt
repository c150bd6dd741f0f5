-- What a decimal is worth.
use Rattle.std.specs.Prelude.{ℕ, zero, suc, ◌≡◌, ◌*◌, ◌/◌, ◌^◌, ◌-◌, ◌+◌, ◌<◌, ◌≤◌, ◌%◌, ◌==◌, ◌&&◌}
use Rattle.std.specs.Prelude.{Bool, true, false, ℤ, max, nat_lt, unsigned_abs, if◌then◌else◌}
use Rattle.std.specs.Int.{is_negative}
use lib.IntN.{pos, neg_ℤ}
use Rattle.lin_values.specs.declared.decimals.Decimal.{Decimal}

abbrev pub with_sign : Bool → ℕ → ℤ
with_sign false n = pos n
with_sign true n = neg_ℤ (pos n)

-- the value, counted in units of 10 ^ -24
abbrev pub scaled_value : Decimal → ℤ
scaled_value d = with_sign d.negative (d.digits * 10 ^ (24 - d.places))

-- below 10 ^ 9 in size, with at most 24 places
abbrev pub IsInLimits : Decimal → Type 0
IsInLimits d = (d.places ≤ 24) × (d.digits < 10 ^ (9 + d.places))

abbrev pub is_small : ℤ → Bool
is_small units = nat_lt (unsigned_abs units) (10 ^ 33)

-- the greatest size of `number * scale + offset`, in units of the finer decimal of the two
abbrev pub greatest_size : ℕ → Decimal → Decimal → ℕ
greatest_size number scale offset =
    let places = max scale.places offset.places
    in number * (scale.digits * 10 ^ (places - scale.places))
    + offset.digits * 10 ^ (places - offset.places)

-- whether `number * scale + offset` is told exactly: below 2 ^ 127 in size, in these units
abbrev pub fits : ℕ → Decimal → Decimal → Bool
fits number scale offset = nat_lt (greatest_size number scale offset) (2 ^ 127)

-- with at most 24 places, as all physical values are
abbrev pub IsExact : Decimal → Type 0
IsExact d = (d.places ≤ 24) × (d.digits < 2 ^ 127)

-- below 10 ^ 14 in size, as the physical values of scalars are
abbrev pub IsReadable : Decimal → Type 0
IsReadable d = (d.places ≤ 24) × (d.digits < 10 ^ (14 + d.places))

-- no digit 0 ends the places, and 0 has no sign
abbrev pub IsShortest : Decimal → Type 0
IsShortest d = (0 < d.places → 0 < d.digits % 10) × (d.negative ≡ true → 0 < d.digits)

-- so many digits and places without zeros at the end
abbrev pub without_zeros : ℕ → ℕ → ℕ × ℕ
without_zeros n zero = (n, 0)
without_zeros n (suc k) = if n % 10 == 0 then without_zeros (n / 10) k else (n, suc k)

-- the shortest decimal of so many digits, of which so many are places
abbrev pub shortest_at : Bool → ℕ → ℕ → Decimal
shortest_at negative digits places =
    let s = without_zeros digits places
    in record { negative = negative && nat_lt 0 digits; digits = s.0; places = s.1 }

abbrev pub shortest : Bool → ℕ → Decimal
shortest negative units = shortest_at negative units 24

abbrev pub decimal_of : ℤ → Decimal
decimal_of z = shortest (is_negative z) (unsigned_abs z)
