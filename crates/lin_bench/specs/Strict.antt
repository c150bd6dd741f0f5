-- What a strict play judges of a line, beside what the line expects.
use Rattle.std.specs.Prelude.{ℕ, ◌-◌, ◌==◌, ◌&&◌, Bool, true, false, not, is_some, if◌then◌else◌, List, []}
use Rattle.std.specs.Prelude.{◌∷◌, ◌++◌, drop, find, length, option_map, reverse, take, Option, Some, None}
use Rattle.std.specs.List.{list_any, take_while}
use Rattle.std.specs.Option.{option_map_or, option_or}
use Rattle.lin_core.specs.History.{events}
use Rattle.lin_core.specs.declared.event.Event.{Event}
use Rattle.lin_core.specs.declared.log.LogEntry.{LogEntry}
use Rattle.lin_core.specs.declared.reply.Refusal.{Refusal}
use Rattle.lin_core.specs.declared.reply.Reply.{Reply}
use Rattle.lin_core.specs.declared.reply.Reply.TheVariants.{Done, Refused}
use Rattle.lin_bench.specs.Made.{expects}
use Rattle.lin_bench.specs.Written.{line_place}
use Rattle.lin_bench.specs.Slots.{due_node, leave_nodes}
use Rattle.lin_bench.specs.declared.expected.Expected.TheVariants as expected
use Rattle.lin_bench.specs.declared.got.Got.TheVariants as got
use Rattle.lin_bench.specs.declared.got.Judged.{Judged}
use Rattle.lin_bench.specs.declared.got.Judged.TheVariants.{Unmet, NotDue}
use Rattle.lin_bench.specs.declared.line.ScriptLine.{ScriptLine}
use Rattle.lin_bench.specs.declared.place.LinePlace.{LinePlace}
use Rattle.lin_bench.specs.declared.line.ScriptLine.TheVariants as line

-- the entries by which a history grew, the oldest first
abbrev pub entries_since : List LogEntry → List LogEntry → List LogEntry
entries_since past later = drop (length past) (reverse later)

abbrev pub refusal_in : Reply → Option Refusal
refusal_in (Done events) = None
refusal_in (Refused why) = Some why

-- the first refusal among entries
abbrev pub first_refusal : List LogEntry → Option Refusal
first_refusal [] = None
first_refusal (e ∷ es) = option_or (refusal_in e.reply) (first_refusal es)

-- whether what a line expects, if there is one, is said of the last step before it
abbrev pub speaks_of_last : Option (LinePlace × ScriptLine) → Bool
speaks_of_last (Some (n, line.Expect expected.Done)) = true
speaks_of_last (Some (n, line.Expect (expected.Refused why))) = true
speaks_of_last other = false

-- the entries of a line that count: all but the last one where the next line speaks of that
abbrev pub counted_entries : Bool → List LogEntry → List LogEntry
counted_entries is_told es = if is_told then take (length es - 1) es else es

-- the nodes whose responses a line leaves out
abbrev pub left_out : ScriptLine → List ℕ
left_out (line.Slot how) = leave_nodes how
left_out (line.Slots s) = s.leave
left_out (line.Until s what) = s.leave
left_out (line.While s what) = s.leave
left_out line = []

-- whether a node is due in a slot which an entry opened
abbrev pub is_due_event : ℕ → Event → Bool
is_due_event node event = option_map_or (λ n. n == node) (due_node event) false

abbrev pub tells_due : ℕ → LogEntry → Bool
tells_due node e = list_any (is_due_event node) (events e)

-- the first of these nodes that is due in none of the slots which a line's entries opened
abbrev pub is_never_due : List LogEntry → ℕ → Bool
is_never_due es node = not (list_any (tells_due node) es)

abbrev pub not_due : List ℕ → List LogEntry → Option ℕ
not_due nodes [] = None
not_due nodes (e ∷ es) = find (is_never_due (e ∷ es)) nodes

-- what is judged of a line's entries, the oldest first: that none of those that count was refused,
-- and where none at all was, that the nodes whose responses it leaves out were due
abbrev pub strictly : List ℕ → Bool → List LogEntry → Option Judged
strictly nodes is_told es =
    if is_some (first_refusal es)
    then option_map (λ why. Unmet expected.Done (got.Refused why)) (first_refusal (counted_entries is_told es))
    else option_map (λ node. NotDue node) (not_due nodes es)

-- ---- that something is expected
-- some line expects something
abbrev pub expects_something : List (LinePlace × ScriptLine) → Bool
expects_something ls = list_any (λ (l : LinePlace × ScriptLine). is_some (expects l.1)) ls

-- a line that begins a test
abbrev pub begins_test : ScriptLine → Bool
begins_test (line.Test name) = true
begins_test l = false

abbrev pub has_test : List (LinePlace × ScriptLine) → Bool
has_test ls = list_any (λ (l : LinePlace × ScriptLine). begins_test l.1) ls

-- the lines of a test that has begun, by those after its first one
abbrev pub lines_of_test : List (LinePlace × ScriptLine) → List (LinePlace × ScriptLine)
lines_of_test ls = take_while (λ (l : LinePlace × ScriptLine). not (begins_test l.1)) ls

-- the lines that begin a test in which nothing is expected
abbrev pub quiet_tests : List (LinePlace × ScriptLine) → List LinePlace
quiet_tests [] = []
quiet_tests (l ∷ ls) =
    (if begins_test l.1 && not (expects_something (lines_of_test ls)) then l.0 ∷ [] else []) ++ quiet_tests ls

-- the lines at which it is judged that nothing is expected: those of tests, or of a script without
-- tests its first line
abbrev pub quiet_lines : List (LinePlace × ScriptLine) → List LinePlace
quiet_lines ls =
    if has_test ls then quiet_tests ls else (if expects_something ls then [] else line_place 1 ∷ [])

-- a play that isn't strict doesn't judge that
abbrev pub silent_lines : Bool → List (LinePlace × ScriptLine) → List LinePlace
silent_lines strict ls = if strict then quiet_lines ls else []
