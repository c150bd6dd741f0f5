-- All values of a signal that words say: scalars from the lowest on, and arrays.
use Rattle.std.specs.Prelude.{◌≡◌, ℕ, ◌<◌, Bool, true, false, ℤ, List, [], ◌∷◌, ◌++◌, filter, map}
use Rattle.std.specs.Prelude.{Option, Some, None}
use Rattle.std.specs.List.{list_any, range_with_len}
use Rattle.std.specs.Option.{option_to_list}
use Rattle.lin_frame.specs.declared.value.Value.{Value}
use Rattle.lin_frame.specs.declared.value.Value.TheVariants.{Scalar, Bytes}
use Rattle.lin_values.specs.Coded.{CodedData}
use Rattle.lin_values.specs.Raws.{has, raws_within, same_raw, scalars, RawsData}

-- those that mean a decimal from one to another with a unit; with any where that is empty
abbrev pub values_within : CodedData → ℕ → ℤ → ℤ → List ℕ → List Value
values_within k s low high unit = filter (raws_within k s low high unit) (map Scalar (scalars k s))

-- whether a value is among these
abbrev pub is_among_values : List Value → Value → Bool
is_among_values values v = list_any (same_raw v) values

-- the one that there is
abbrev pub only_one : List Value → Option Value
only_one [] = None
only_one (v ∷ []) = Some v
only_one (v ∷ w ∷ values) = None

-- ---- as code has them

abbrev pub is_array : Value → Bool
is_array (Scalar n) = false
is_array (Bytes bytes) = true

-- how many scalars there are
unfoldable pub scalar_count : ℕ
scalar_count = 65536

abbrev pub all_scalars : List Value
all_scalars = map Scalar (range_with_len 0 scalar_count)

abbrev pub values_in : RawsData → List Value
values_in r = filter (has r) all_scalars ++ filter is_array (option_to_list r.coded)

-- no scalar is greater than 65,535
abbrev pub AreSmall : RawsData → Type 0
AreSmall r = (n : ℕ) → has r (Scalar n) ≡ true → n < 65536
