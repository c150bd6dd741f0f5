-- The lines of an input.
use Rattle.std.specs.Prelude.{◌≡◌, ℕ, ◌==◌, false, if◌then◌else◌, List, [], ◌∷◌, ◌++◌, length, map}
use Rattle.std.specs.List.{All, slice_split}
use Rattle.std.specs.Str.Lines.{strip_carriage_return}

abbrev pub HasNoLf : List ℕ → Type 0
HasNoLf bytes = All (λ b. (b == 10) ≡ false) bytes

-- what stands before the first LF, between two, and after the last one
abbrev pub pieces_at_lf : List ℕ → List (List ℕ)
pieces_at_lf bytes = slice_split (λ b. b == 10) bytes

abbrev pub but_last : List (List ℕ) → List (List ℕ)
but_last [] = []
but_last (l ∷ []) = []
but_last (l ∷ m ∷ ls) = l ∷ but_last (m ∷ ls)

abbrev pub last_one : List (List ℕ) → List ℕ
last_one [] = []
last_one (l ∷ []) = l
last_one (l ∷ m ∷ ls) = last_one (m ∷ ls)

-- the lines that an LF ends; one CR before a line's end belongs to no line
abbrev pub ended_lines : List ℕ → List (List ℕ)
ended_lines bytes = map strip_carriage_return (but_last (pieces_at_lf bytes))

-- what stands after the last LF
abbrev pub after_last_lf : List ℕ → List ℕ
after_last_lf bytes = last_one (pieces_at_lf bytes)

-- this is a line where it has a byte
abbrev pub last_line : List ℕ → List (List ℕ)
last_line rest = if length rest == 0 then [] else strip_carriage_return rest ∷ []

abbrev pub lines : List ℕ → List (List ℕ)
lines bytes = ended_lines bytes ++ last_line (after_last_lf bytes)
