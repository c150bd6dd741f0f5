-- `mark NAME` and `back NAME`: the forms of these lines, and the marks of a session.
use Rattle.std.specs.Prelude.{ℕ, ◌+◌, ◌==◌, ◌&&◌, ◌||◌, Bool, false, not, if◌then◌else◌, List, [], ◌∷◌, ◌++◌}
use Rattle.std.specs.Prelude.{Option, Some, None, Result, Ok, Err, codes, filter, option_and_then, option_map, position, slice_get, take}
use Rattle.std.specs.Char.{is_ascii_alphanumeric}
use Rattle.std.specs.List.{list_all}
use Rattle.std.specs.Option.{option_map_or}
use Rattle.std.specs.Str.{bytes_eq}
use Rattle.lin_log.specs.Said.{is_number}
use Rattle.lin_bench.specs.Made.{BenchState}
use Rattle.lin_bench.specs.Played.{initial_bench}
use Rattle.lin_live.specs.Asked.{◌>>=◌}
use Rattle.lin_live.specs.declared.reason.Reason.{Reason}
use Rattle.lin_live.specs.declared.reason.Reason.TheVariants.{BackForm, MarkForm, NoName, StartMark}

-- ---- the forms
-- whether the first of these fields is this word
abbrev pub has_first_word : List ℕ → List (List ℕ) → Bool
has_first_word word [] = false
has_first_word word (f ∷ fs) = bytes_eq f word

-- a letter, a digit or `_`
abbrev pub is_name_byte : ℕ → Bool
is_name_byte b = is_ascii_alphanumeric b || b == 95

-- such bytes, of which the first isn't a digit
abbrev pub is_mark_name : List ℕ → Bool
is_mark_name f = not (is_number f) && list_all is_name_byte f

-- the only field
abbrev pub lone_field : List (List ℕ) → Option (List ℕ)
lone_field (f ∷ []) = Some f
lone_field fs = None

-- a field that is a name
abbrev pub field_name : List ℕ → Result (List ℕ) Reason
field_name f = if is_mark_name f then Ok f else Err (NoName f)

-- one name, or why there isn't one
abbrev pub lone_name : Reason → List (List ℕ) → Result (List ℕ) Reason
lone_name usage fs = option_map_or field_name (lone_field fs) (Err usage)

-- the mark of the beginning
abbrev pub start_name : List ℕ
start_name = codes "start"

abbrev pub unless_start : List ℕ → Result (List ℕ) Reason
unless_start name = if bytes_eq name start_name then Err StartMark else Ok name

abbrev pub mark_name : List (List ℕ) → Result (List ℕ) Reason
mark_name fs = lone_name MarkForm fs >>= unless_start

abbrev pub back_name : List (List ℕ) → Result (List ℕ) Reason
back_name fs = lone_name BackForm fs

-- ---- the marks of a session, in the order in which they were set: a name, and the bench as it was
pub record Marked : Type 0 where
  pub name : List ℕ
  pub bench : BenchState

-- the place of the mark with a name
abbrev pub mark_place : List Marked → List ℕ → Option ℕ
mark_place marks name = position (λ m. bytes_eq m.name name) marks

-- one more mark, in place of an older one of its name
abbrev pub is_other : List ℕ → Marked → Bool
is_other name m = not (bytes_eq m.name name)

abbrev pub with_mark : List Marked → List ℕ → BenchState → List Marked
with_mark marks name bench =
    filter (is_other name) marks ++ record { name = name; bench = bench } ∷ []

-- the bench at the mark at a place, and the marks that were set up to it; nothing without the mark
abbrev pub bench_at_place : List Marked → ℕ → Option (BenchState × List Marked)
bench_at_place marks i = option_map (λ (m : Marked). (m.bench, take (i + 1) marks)) (slice_get marks i)

-- the bench at a mark, and the marks that were set up to it
abbrev pub bench_at : List Marked → List ℕ → Option (BenchState × List Marked)
bench_at marks name =
    if bytes_eq name start_name then Some (initial_bench, [])
    else option_and_then (bench_at_place marks) (mark_place marks name)
