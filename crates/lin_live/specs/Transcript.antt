-- What is answered to lines.
use Rattle.std.specs.Prelude.{ℕ, nat_le, if◌then◌else◌, List, [], ◌∷◌, ◌++◌, length}
use Rattle.std.specs.Prelude.{Option, Some, None}

-- the most bytes of a line that is read
abbrev pub most_bytes : ℕ
most_bytes = 16777216

-- a line; none where it has more bytes than are read
abbrev pub short : List ℕ → Option (List ℕ)
short line = if nat_le (length line) most_bytes then Some line else None

-- the state after lines, where `reply` says what each makes of a state, and the answer to it
abbrev pub state_after : {S : Type 0} → (S → Option (List ℕ) → S × List ℕ) → S → List (List ℕ) → S
state_after reply s [] = s
state_after reply s (line ∷ more) = state_after reply (reply s (short line)).0 more

-- what is answered to lines, each after those before it
abbrev pub transcript : {S : Type 0} → (S → Option (List ℕ) → S × List ℕ) → S → List (List ℕ)
    → List ℕ
transcript reply s [] = []
transcript reply s (line ∷ more) =
    (reply s (short line)).1 ++ transcript reply (reply s (short line)).0 more
