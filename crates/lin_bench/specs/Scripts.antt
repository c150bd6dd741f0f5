-- What bench scripts say.
use Rattle.std.specs.Prelude.{ℕ, ◌+◌, ◌==◌, ◌&&◌, Bool, if◌then◌else◌, List, [], ◌∷◌, Option, Some, None, Result, Ok, Err}
use Rattle.std.specs.List.{list_any}
use Rattle.std.specs.Str.Lines.{strip_carriage_return}
use Rattle.lin_parts.specs.declared.parts.Parts.{Parts}
use Rattle.lin_values.specs.Coded.{CodedData}
use Rattle.lin_bench.specs.Files.{SourceData}
use Rattle.lin_bench.specs.Resolved.{Item, items}
use Rattle.lin_bench.specs.Words.{read_worded_line}
use Rattle.lin_bench.specs.Written.{line_place}
use Rattle.lin_bench.specs.declared.line.ScriptLine.{ScriptLine}
use Rattle.lin_bench.specs.declared.line.ScriptLine.TheVariants.{Test}
use Rattle.lin_bench.specs.declared.place.LinePlace.{LinePlace}
use Rattle.lin_bench.specs.declared.reason.Reason.{Reason}
use Rattle.lin_bench.specs.declared.rules.NodeLimits.{NodeLimits}

-- the lines that say something, with their places, or the first that is bad
abbrev pub Script : Type 0
Script = Result (List (LinePlace × ScriptLine)) (LinePlace × Reason)

abbrev pub with_line : LinePlace × ScriptLine → Script → Script
with_line l (Ok ls) = Ok (l ∷ ls)
with_line l (Err bad) = Err bad

abbrev pub with_read_line : LinePlace → Result (Option ScriptLine) Reason → Script → Script
with_read_line p (Err why) more = Err (p, why)
with_read_line p (Ok None) more = more
with_read_line p (Ok (Some l)) more = with_line (p, l) more

-- what lines from number n on say that resolve nothing; one CR before a line's end is dropped
abbrev pub read_lines : Parts → Option CodedData → List NodeLimits → ℕ → List (List ℕ) → Script
read_lines c k limits n [] = Ok []
read_lines c k limits n (l ∷ ls) =
    with_read_line (line_place n) (read_worded_line c k limits (strip_carriage_return l)) (read_lines c k limits (n + 1) ls)

-- what lines say after what they resolve
abbrev pub item_read
    : Parts → Option CodedData → List NodeLimits → Result (List ℕ) Reason → Result (Option ScriptLine) Reason
item_read c k limits (Err why) = Err why
item_read c k limits (Ok text) = read_worded_line c k limits text

abbrev pub read_items : Parts → Option CodedData → List NodeLimits → List Item → Script
read_items c k limits [] = Ok []
read_items c k limits (i ∷ is) = with_read_line i.0 (item_read c k limits i.1) (read_items c k limits is)

-- ---- tests
-- how many tests have begun after a line, where so many had before it
abbrev pub tests_after : ℕ → ScriptLine → ℕ
tests_after t (Test name) = t + 1
tests_after t l = t

-- lines in the tests that they begin, where so many had begun before them
abbrev pub in_tests : ℕ → List (LinePlace × ScriptLine) → List (LinePlace × ScriptLine)
in_tests t [] = []
in_tests t (l ∷ ls) =
    (record l.0 { test = tests_after t l.1 }, l.1) ∷ in_tests (tests_after t l.1) ls

abbrev pub script_in_tests : ℕ → Script → Script
script_in_tests t (Ok ls) = Ok (in_tests t ls)
script_in_tests t (Err bad) = Err bad

-- what a bench script says, each line in its test, or its first bad line. Lines are counted from 1 over
-- all lines of a file
unfoldable pub read : Parts → Option CodedData → List NodeLimits → SourceData → Script
read c k limits s = script_in_tests 0 (read_items c k limits (items s))

-- ---- the bad lines
abbrev pub with_bad_line : LinePlace → Result (Option ScriptLine) Reason → List (LinePlace × Reason)
    → List (LinePlace × Reason)
with_bad_line p (Err why) more = (p, why) ∷ more
with_bad_line p (Ok said) more = more

abbrev pub bad_items : Parts → Option CodedData → List NodeLimits → List Item → List (LinePlace × Reason)
bad_items c k limits [] = []
bad_items c k limits (i ∷ is) = with_bad_line i.0 (item_read c k limits i.1) (bad_items c k limits is)

-- a line that is read several times is listed once; these are listed before
abbrev pub is_same_line : LinePlace → LinePlace → Bool
is_same_line p q = q.file == p.file && q.line == p.line

abbrev pub is_listed : List LinePlace → LinePlace → Bool
is_listed seen p = list_any (is_same_line p) seen

abbrev pub once_after : List LinePlace → List (LinePlace × Reason) → List (LinePlace × Reason)
once_after seen [] = []
once_after seen (b ∷ bs) =
    if is_listed seen b.0 then once_after seen bs else b ∷ once_after (b.0 ∷ seen) bs

-- all bad lines of a bench script
unfoldable pub bad_lines
    : Parts → Option CodedData → List NodeLimits → SourceData → List (LinePlace × Reason)
bad_lines c k limits s = once_after [] (bad_items c k limits (items s))
