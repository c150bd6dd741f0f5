-- The text of what a raw value means.
use Rattle.std.specs.Prelude.{ℕ, zero, suc, ◌/◌, ◌^◌, ◌%◌, ◌+◌, Bool, true, false, List, [], ◌∷◌, ◌++◌}
use Rattle.std.specs.Fmt.{decimal}
use Rattle.lin_values.specs.Spelled.{in_quotes}
use Rattle.lin_values.specs.Value.{decimal_of}
use Rattle.lin_values.specs.Meant.{Meant, Named, Number, Physical, Digits, Letters}
use Rattle.lin_values.specs.declared.decimals.Decimal.{Decimal}

-- the last k digits of n
abbrev pub last_digits : ℕ → ℕ → List ℕ
last_digits zero n = []
last_digits (suc k) n = (48 + n / 10 ^ k) ∷ last_digits k (n % 10 ^ k)

abbrev pub fraction : ℕ → ℕ → List ℕ
fraction zero n = []
fraction (suc k) n = 46 ∷ last_digits (suc k) n

abbrev pub sign : Bool → List ℕ
sign true = 45 ∷ []
sign false = []

abbrev pub decimal_shown : Decimal → List ℕ
decimal_shown d =
    sign d.negative
    ++ (decimal (d.digits / 10 ^ d.places) ++ fraction d.places (d.digits % 10 ^ d.places))

-- a unit behind a space, where there is one
abbrev pub unit_shown : List ℕ → List ℕ
unit_shown [] = []
unit_shown (c ∷ cs) = 32 ∷ c ∷ cs

-- without unit and quotes
abbrev pub plain_shown : Meant → List ℕ
plain_shown (Named text) = text
plain_shown (Number n) = decimal n
plain_shown (Physical z unit) = decimal_shown (decimal_of z)
plain_shown (Digits text) = text
plain_shown (Letters text) = text

abbrev pub shown : Meant → List ℕ
shown (Named text) = text
shown (Number n) = decimal n
shown (Physical z unit) = decimal_shown (decimal_of z) ++ unit_shown unit
shown (Digits text) = text
shown (Letters text) = in_quotes text
