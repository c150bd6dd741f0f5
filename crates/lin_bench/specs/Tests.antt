-- The tests of a bench script, by the lines that begin them.
use Rattle.std.specs.Prelude.{◌≡◌, ◌==◌, ◌+◌, ℕ, if◌then◌else◌, List, [], ◌∷◌, ◌++◌, codes, count_by, map}
use Rattle.std.specs.Prelude.{Option, Some, None}
use Rattle.std.specs.List.{filter_map}
use Rattle.std.specs.Fmt.{decimal}
use Rattle.std.specs.Str.{bytes_eq}
use Rattle.lin_bench.specs.declared.line.ScriptLine.{ScriptLine}
use Rattle.lin_bench.specs.declared.line.ScriptLine.TheVariants.{Test}
use Rattle.lin_bench.specs.declared.place.LinePlace.{LinePlace}
use Rattle.lin_bench.specs.declared.tests.TestName.{TestName}

-- the name of the test that a line begins, if it does
abbrev pub name_begun : ScriptLine → Option (List ℕ)
name_begun (Test name) = Some name
name_begun l = None

-- names in order, each with how many before it are the same; these are before all of them
abbrev pub numbered_after : List (List ℕ) → List (List ℕ) → List TestName
numbered_after before [] = []
numbered_after before (n ∷ ns) =
    record { name = n; before = count_by (λ m. bytes_eq m n) before } ∷ numbered_after (before ++ n ∷ []) ns

abbrev pub numbered : List (List ℕ) → List TestName
numbered ns = numbered_after [] ns

-- the tests that these lines begin
abbrev pub test_names : List (LinePlace × ScriptLine) → List TestName
test_names ls = numbered (filter_map (λ (l : LinePlace × ScriptLine). name_begun l.1) ls)

-- tests that are numbered by their names
abbrev pub AreNumbered : List TestName → Type 0
AreNumbered ts = ts ≡ numbered (map (λ (t : TestName). t.name) ts)

-- the name as it is shown: the second one of a name ends with `#2`, the third one with `#3`
abbrev pub test_text : TestName → List ℕ
test_text t =
    t.name ++ (if t.before == 0 then [] else codes " #" ++ decimal (t.before + 1))
