-- What a bench script comes to: its lines on a bench, and the judgements on what is expected.
use Rattle.std.specs.Prelude.{ℕ, Bool, false, true, ◌&&◌, if◌then◌else◌, length, List, [], ◌∷◌, map}
use Rattle.std.specs.Prelude.{◌++◌, slice_get, Option, Some, None, Result, Ok, Err}
use Rattle.std.specs.List.{list_any}
use Rattle.lin_parts.specs.declared.parts.Parts.{Parts}
use Rattle.lin_bench.specs.Faults.{armed_fault}
use Rattle.lin_bench.specs.Made.{BenchState, made}
use Rattle.lin_bench.specs.Rules.{no_rules}
use Rattle.lin_bench.specs.Slots.{slot_limit}
use Rattle.lin_bench.specs.Strict.{entries_since, left_out, silent_lines, speaks_of_last, strictly}
use Rattle.lin_bench.specs.declared.got.Judged.{Judged}
use Rattle.lin_bench.specs.declared.got.Judged.TheVariants as judged
use Rattle.lin_bench.specs.declared.got.Judgement.{Judgement}
use Rattle.lin_bench.specs.declared.got.Verdict.{Verdict}
use Rattle.lin_bench.specs.declared.got.Verdict.TheVariants.{Met, Unmet, SlotLimit}
use Rattle.lin_bench.specs.declared.faults.SlotFault.{SlotFault}
use Rattle.lin_bench.specs.declared.line.ScriptLine.{ScriptLine}
use Rattle.lin_bench.specs.declared.place.LinePlace.{LinePlace}
use Rattle.lin_bench.specs.declared.playing.LineEnd.{LineEnd}

-- ---- the bench
-- under these faults
abbrev pub first_under : List SlotFault → BenchState
first_under fs = record {
  past = [];
  rules = record no_rules { faults = map armed_fault fs };
  taken = [];
  left = slot_limit;
}

abbrev pub initial_bench : BenchState
initial_bench = first_under []

abbrev pub is_limit : Verdict → Bool
is_limit SlotLimit = true
is_limit verdict = false

-- what a line came to; its place alone where it makes more slots than are left
abbrev pub line_result : LinePlace → BenchState → Verdict → Result BenchState LinePlace
line_result p b SlotLimit = Err p
line_result p b verdict = Ok b

-- one more line with its place
abbrev pub next : Parts → ℕ → ℕ → BenchState → LinePlace × ScriptLine → Result BenchState LinePlace
next c opening capacity b l = let all = made c opening capacity b l.1 in line_result l.0 all.0 all.1

-- lines in order, each after those before it
abbrev pub in_turn : Parts → ℕ → ℕ → Result BenchState LinePlace → List (LinePlace × ScriptLine) → Result BenchState LinePlace
in_turn c opening capacity (Err n) ls = Err n
in_turn c opening capacity (Ok b) [] = Ok b
in_turn c opening capacity (Ok b) (l ∷ ls) =
    in_turn c opening capacity (next c opening capacity b l) ls

-- the bench to which these lines come under faults, or the line that makes more slots than a run may
-- have
abbrev pub come_to_under : Parts → ℕ → ℕ → List SlotFault → List (LinePlace × ScriptLine) → Result BenchState LinePlace
come_to_under c opening capacity fs ls = in_turn c opening capacity (Ok (first_under fs)) ls

abbrev pub come_to : Parts → ℕ → ℕ → List (LinePlace × ScriptLine) → Result BenchState LinePlace
come_to c opening capacity ls = come_to_under c opening capacity [] ls

-- ---- the judgements
-- what a line expects came to
abbrev pub own : Verdict → Option Judged
own (Met what) = Some (judged.Met what)
own (Unmet what got) = Some (judged.Unmet what got)
own verdict = None

-- a judgement on a line when the log had so many entries, if there is one
abbrev pub on_line : LinePlace → ℕ → Option Judged → List Judgement
on_line p entries None = []
on_line p entries (Some what) =
    (record { place = p; entries = entries; judged = what }) ∷ []

-- the judgements on a line, before which a bench was this and which came to that: what it expects,
-- and, where the play is strict, what that judges beside it, by whether the next line speaks of the
-- line's last step
abbrev pub of_line : Bool → BenchState → LinePlace × ScriptLine → BenchState × Verdict → Bool → List Judgement
of_line strict b l m is_told =
    on_line l.0 (length m.0.past) (own m.1)
    ++ (if strict
    then on_line l.0 (length m.0.past)
    (strictly (left_out l.1) is_told (entries_since b.past m.0.past))
    else [])

-- the judgements that nothing is expected, on these lines
abbrev pub nothing_expected : ℕ → List LinePlace → List Judgement
nothing_expected entries ps =
    map (λ p. record { place = p; entries = entries; judged = judged.NothingExpected }) ps

-- the judgements on lines on a bench, and then on these that nothing is expected
abbrev pub judged_from : Bool → List LinePlace → Parts → ℕ → ℕ → BenchState → List (LinePlace × ScriptLine)
    → List Judgement
judged_from strict silent c opening capacity b [] =
    nothing_expected (length b.past) silent
judged_from strict silent c opening capacity b (l ∷ ls) =
    of_line strict b l (made c opening capacity b l.1) (speaks_of_last (slice_get ls 0))
    ++ judged_from strict silent c opening capacity (made c opening capacity b l.1).0 ls

abbrev pub judgements_under : Bool → Parts → ℕ → ℕ → List SlotFault → List (LinePlace × ScriptLine)
    → List Judgement
judgements_under strict c opening capacity fs ls =
    judged_from strict (silent_lines strict ls) c opening capacity (first_under fs) ls

abbrev pub judgements : Bool → Parts → ℕ → ℕ → List (LinePlace × ScriptLine) → List Judgement
judgements strict c opening capacity ls = judgements_under strict c opening capacity [] ls

abbrev pub is_unmet : Judged → Bool
is_unmet (judged.Met what) = false
is_unmet what = true

abbrev pub some_unmet : List Judgement → Bool
some_unmet js = list_any (λ (j : Judgement). is_unmet j.judged) js

-- ---- both: a bench after some lines, and the judgements on these, in order
pub record Run : Type 0 where
  pub bench : BenchState
  pub judgements : List Judgement

abbrev pub with_judgements : List Judgement → Result BenchState LinePlace → Result Run LinePlace
with_judgements js (Ok b) = Ok (record { bench = b; judgements = js })
with_judgements js (Err n) = Err n

-- what a bench script of these lines comes to under faults, or the line that makes more slots than a
-- run may have
abbrev pub played_under : Bool → Parts → ℕ → ℕ → List SlotFault → List (LinePlace × ScriptLine) → Result Run LinePlace
played_under strict c opening capacity fs ls =
    with_judgements (judgements_under strict c opening capacity fs ls)
    (come_to_under c opening capacity fs ls)

-- under no fault it is a play
abbrev pub play_result : Bool → Parts → ℕ → ℕ → List (LinePlace × ScriptLine) → Result Run LinePlace
play_result strict c opening capacity ls = played_under strict c opening capacity [] ls

-- ---- the ends of lines
-- how many entries the log had after each of these lines on a bench, up to one that makes more slots
-- than are left
abbrev pub add_line_end : LinePlace × ScriptLine → BenchState × Verdict → List LineEnd → List LineEnd
add_line_end l (b, SlotLimit) more = []
add_line_end l (b, verdict) more = record { place = l.0; entries = length b.past } ∷ more

abbrev pub ends_from : Parts → ℕ → ℕ → BenchState → List (LinePlace × ScriptLine) → List LineEnd
ends_from c opening capacity b [] = []
ends_from c opening capacity b (l ∷ ls) =
    let m = made c opening capacity b l.1
    in add_line_end l m (ends_from c opening capacity m.0 ls)

abbrev pub ends_under : Parts → ℕ → ℕ → List SlotFault → List (LinePlace × ScriptLine) → List LineEnd
ends_under c opening capacity fs ls = ends_from c opening capacity (first_under fs) ls

-- ---- the whole of a play, also if it reaches the limit
-- the bench after lines on a bench, where the last of them that was made may be one that makes more
-- slots than are left
abbrev pub bench_after : Parts → ℕ → ℕ → BenchState → List (LinePlace × ScriptLine) → BenchState
bench_after c opening capacity b [] = b
bench_after c opening capacity b (l ∷ ls) =
    let m = made c opening capacity b l.1
    in if is_limit m.1 then m.0 else bench_after c opening capacity m.0 ls

-- likewise the judgements
abbrev pub judged_up_to : Bool → List LinePlace → Parts → ℕ → ℕ → BenchState → List (LinePlace × ScriptLine)
    → List Judgement
judged_up_to strict silent c opening capacity b [] =
    nothing_expected (length b.past) silent
judged_up_to strict silent c opening capacity b (l ∷ ls) =
    let m = made c opening capacity b l.1
    in if is_limit m.1 then []
    else of_line strict b l m (speaks_of_last (slice_get ls 0))
    ++ judged_up_to strict silent c opening capacity m.0 ls
