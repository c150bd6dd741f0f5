-- A bench script as it is written: its lines that have fields, at their places.
use Rattle.std.specs.Prelude.{ℕ, ◌+◌, ◌-◌, ◌==◌, ◌&&◌, Bool, not, nat_lt, if◌then◌else◌, List, [], ◌∷◌, ◌++◌, codes, drop}
use Rattle.std.specs.Prelude.{flat_map, length, map, slice_index, take, Option, Some, None}
use Rattle.std.specs.List.{slice_split}
use Rattle.std.specs.Str.{bytes_eq}
use Rattle.std.specs.Str.Lines.{strip_carriage_return}
use Rattle.lin_bench.specs.Fields.{line_fields}
use Rattle.lin_bench.specs.Words.{from_end}
use Rattle.lin_bench.specs.declared.place.LinePlace.{LinePlace}

-- the place of line n of the script's own file; it is in no test
abbrev pub line_place : ℕ → LinePlace
line_place n = record { file = 0; line = n; own = n; test = 0 }

-- a text without the mark EF BB BF at its start
abbrev pub without_mark : List ℕ → List ℕ
without_mark text =
    if slice_index text 0 == 0xEF && slice_index text 1 == 0xBB && slice_index text 2 == 0xBF
    then drop 3 text else text

-- ---- the lines of a text that have fields, each with those that follow in place of `\`
-- a line that says something: it has a field, and isn't a reply of a log
abbrev pub is_said : List ℕ → Bool
is_said l = not (slice_index l 0 == 62) && nat_lt 0 (length (line_fields l))

-- a line whose last field is `\`: the fields of the next one follow in its place
abbrev pub goes_on : List ℕ → Bool
goes_on l = bytes_eq (from_end (line_fields l) 0) (codes "\\")

-- the number of the first of these lines, and they
pub record Written : Type 0 where
  pub number : ℕ
  pub parts : List (List ℕ)

-- the lines from number n on; those before them that go on are these, if there are some
abbrev pub written_after : Option Written → ℕ → List (List ℕ) → List Written
written_after None n [] = []
written_after (Some w) n [] = w ∷ []
written_after None n (l ∷ ls) =
    let w : Written = record { number = n; parts = l ∷ [] }
    in if not (is_said l) then written_after None (n + 1) ls
    else if goes_on l then written_after (Some w) (n + 1) ls
    else w ∷ written_after None (n + 1) ls
written_after (Some w) n (l ∷ ls) =
    let longer : Written = record w { parts = w.parts ++ l ∷ [] }
    in if goes_on l then written_after (Some longer) (n + 1) ls
    else longer ∷ written_after None (n + 1) ls

abbrev pub lines_of : List ℕ → List (List ℕ)
lines_of text = map strip_carriage_return (slice_split (λ b. b == 10) text)

abbrev pub script_lines : List ℕ → List (List ℕ)
script_lines text = lines_of (without_mark text)

abbrev pub written_lines : List ℕ → List Written
written_lines text = written_after None 1 (script_lines text)

abbrev pub part_fields : List ℕ → List (List ℕ)
part_fields l =
    if goes_on l then take (length (line_fields l) - 1) (line_fields l) else line_fields l

abbrev pub written_fields : Written → List (List ℕ)
written_fields w = flat_map part_fields w.parts
