-- What digits and characters spell.
use Rattle.std.specs.Prelude.{◌≡◌, ◌≢◌, ◌≤◌, ℕ, ◌+◌, ◌-◌, ◌*◌, ◌&&◌, Bool, true, false, List, [], ◌∷◌, Option, Some, None}
use Rattle.std.specs.Prelude.{◌++◌, ◌/◌, length, nat_le, replicate, slice_index, if◌then◌else◌}
use Rattle.std.specs.Char.{is_ascii_digit}
use Rattle.std.specs.Option.{option_map}
use Rattle.lin_frame.specs.declared.value.Value.{Value}
use Rattle.lin_frame.specs.declared.value.Value.TheVariants.{Scalar, Bytes}
use Rattle.lin_values.specs.Warnings.{greatest_raw}

-- the array of characters, filled up with 00
abbrev pub character_array : ℕ → List ℕ → Value
character_array bits ls = Bytes (ls ++ replicate (bits / 8 - length ls) 0)

-- a number, where so many bits have it
abbrev pub scalar_within : ℕ → ℕ → Option Value
scalar_within bits n = if nat_le n (greatest_raw bits) then Some (Scalar n) else None

abbrev pub in_quotes : List ℕ → List ℕ
in_quotes ls = 34 ∷ (ls ++ 34 ∷ [])

-- the number of digits, four bits for each, behind those of another
abbrev pub bcd_after : ℕ → List ℕ → Option ℕ
bcd_after n [] = Some n
bcd_after n (c ∷ cs) = if is_ascii_digit c then bcd_after (n * 16 + (c - 48)) cs else None

abbrev pub byte_of : ℕ → ℕ → ℕ
byte_of a b = (a - 48) * 16 + (b - 48)

-- two digits for each byte
abbrev pub pairs : List ℕ → Option (List ℕ)
pairs [] = Some []
pairs (a ∷ []) = None
pairs (a ∷ b ∷ cs) =
    if is_ascii_digit a && is_ascii_digit b then option_map (λ bs. byte_of a b ∷ bs) (pairs cs) else None

-- two characters at most, the lowest first
abbrev pub character_scalar : List ℕ → ℕ
character_scalar [] = 0
character_scalar (a ∷ []) = a
character_scalar (a ∷ b ∷ cs) = a + 256 * b

-- this is what characters in quotes, or digits, spell as an array or a scalar of so many bits
abbrev pub IsArrayOfLetters : ℕ → List ℕ → Option Value → Type 0
IsArrayOfLetters bits text v =
    (ls : List ℕ) → text ≡ in_quotes ls → length ls ≤ bits / 8 → bits / 8 ≤ 8
    → v ≡ Some (character_array bits ls)

abbrev pub IsArrayOfDigits : ℕ → List ℕ → Option Value → Type 0
IsArrayOfDigits bits text v =
    (bs : List ℕ) → slice_index text 0 ≢ 34 → pairs text ≡ Some bs → length bs ≤ bits / 8 → bits / 8 ≤ 8
    → v ≡ Some (character_array bits bs)

abbrev pub IsScalarOfLetters : ℕ → List ℕ → Option Value → Type 0
IsScalarOfLetters bits text v =
    (ls : List ℕ) → text ≡ in_quotes ls → length ls ≤ 2 → v ≡ scalar_within bits (character_scalar ls)

abbrev pub IsScalarOfDigits : ℕ → List ℕ → Option Value → Type 0
IsScalarOfDigits bits text v =
    (n : ℕ) → slice_index text 0 ≢ 34 → bcd_after 0 text ≡ Some n → length text ≤ 4
    → v ≡ scalar_within bits n

-- a signal of so many bits, or an array of them, has the value
abbrev pub IsHeld : ℕ → Bool → Value → Type 0
IsHeld bits array (Scalar n) = (array ≡ false) × (n ≤ greatest_raw bits)
IsHeld bits array (Bytes bs) =
    (array ≡ true) × (length bs ≡ bits / 8) × (length bs ≤ 8)
