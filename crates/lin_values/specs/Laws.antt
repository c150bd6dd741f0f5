-- What holds of meanings, texts and raw values.
use Rattle.std.specs.Prelude.{◌≡◌, ◌<◌, ◌≤◌, ◌⊎◌, ℕ, ℤ, Contains, List, Some, true}
use Rattle.lin_frame.specs.declared.value.Value.{Value}
use Rattle.lin_values.specs.Coded.{signal_at, CodedData}
use Rattle.lin_values.specs.Meaning.{meaning, value_bytes}
use Rattle.lin_values.specs.Meant.{Meant}
use Rattle.lin_values.specs.Raws.{decimals, distance, is_plain, is_value, nearest, raws_of}
use Rattle.lin_values.specs.Shown.{shown}

-- A value whose meaning has a text is one of the values of that text. (Of characters only where none
-- is shown as `?` in place of a byte. A unit doesn't begin like a number; a text of a value may.)
abbrev pub ValuesHaveTheirTexts : Type 0
ValuesHaveTheirTexts =
    (k : CodedData) (s : ℕ) (v : Value) (m : Meant) → is_value k s v ≡ true → meaning k s v ≡ Some m
    → is_plain (value_bytes (signal_at k s) v) m ≡ true → raws_of k s (shown m) v ≡ true

-- no raw value is nearer than the nearest, and none as near is lower
abbrev pub NearestIsNearest : Type 0
NearestIsNearest =
    (k : CodedData) (s : ℕ) (x : ℤ) (unit : List ℕ) (raw : ℕ) → nearest k s x unit ≡ Some raw
    → (z : ℤ) × Contains (decimals k s unit) (raw, z)
    × ((other : ℕ) (y : ℤ) → Contains (decimals k s unit) (other, y)
    → (distance x z < distance x y) ⊎ ((distance x z ≡ distance x y) × (raw ≤ other)))
