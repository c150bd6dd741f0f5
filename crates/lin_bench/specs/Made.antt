-- What a line of a bench script comes to on a bench: the steps that it says, and its verdict.
use Rattle.std.specs.Prelude.{ℕ, ◌-◌, ◌&&◌, Bool, false, length, nat_lt, not, if◌then◌else◌, List, [], ◌∷◌, Option}
use Rattle.std.specs.Prelude.{Some, None, is_none, is_some, true}
use Rattle.std.specs.Option.{option_map_or}
use Rattle.lin_parts.specs.declared.parts.Parts.{Parts}
use Rattle.lin_core.specs.History.{time}
use Rattle.lin_core.specs.declared.log.LogEntry.{LogEntry}
use Rattle.lin_core.specs.declared.port.PortId.{PortId}
use Rattle.lin_core.specs.declared.step.Step.{Step}
pub use Rattle.lin_bench.specs.Ons.{condition_begun}
use Rattle.lin_bench.specs.Ons.{begun_rule}
use Rattle.lin_bench.specs.Rules.{has_rule, ruled}
use Rattle.lin_bench.specs.Slots.{Course, course_after, extent_steps, most, ended_slot_count}
use Rattle.lin_bench.specs.Verdicts.{all_taken, kind_taken, next_event, taking, verdict}
use Rattle.lin_bench.specs.declared.expected.Expected.{Expected}
use Rattle.lin_bench.specs.declared.expected.Expected.TheVariants as expected
use Rattle.lin_bench.specs.declared.got.Got.{Got}
use Rattle.lin_bench.specs.declared.got.Got.TheVariants.{NoRule}
use Rattle.lin_bench.specs.declared.got.Verdict.{Verdict}
use Rattle.lin_bench.specs.declared.got.Verdict.TheVariants.{Nothing, Met, Unmet, SlotLimit}
use Rattle.lin_bench.specs.declared.line.Disturbance.TheVariants.{Leave}
use Rattle.lin_bench.specs.declared.line.Extent.{Extent}
use Rattle.lin_bench.specs.declared.line.Extent.TheVariants.{Count, Idle}
use Rattle.lin_bench.specs.declared.line.ScriptLine.{ScriptLine}
use Rattle.lin_bench.specs.declared.line.ScriptLine.TheVariants as line
use Rattle.lin_bench.specs.declared.rules.Rule.{Rule}
use Rattle.lin_bench.specs.declared.rules.Rule.TheVariants as rule
use Rattle.lin_bench.specs.declared.rules.RuleEnd.{RuleEnd}
use Rattle.lin_bench.specs.declared.rules.Rules.{Rules}
use Rattle.lin_bench.specs.declared.taken.EventKind.{EventKind}

-- a bench: the entries of its log, the newest first, the rules in force, of which kinds expectations
-- took events, in order, and how many slots lines of slots may still make
pub record BenchState : Type 0 where
  pub past : List LogEntry
  pub rules : Rules
  pub taken : List EventKind
  pub left : ℕ

abbrev pub course_of : BenchState → Course
course_of b = record { past = b.past; rules = b.rules }

-- what is expected of a line that begins in this history: a signal is to change from the value that it
-- has now
abbrev pub expected_begun : Parts → List LogEntry → Expected → Expected
expected_begun c past (expected.Is what) = expected.Is (condition_begun c past what)
expected_begun c past (expected.Not what) = expected.Not (condition_begun c past what)
expected_begun c past what = what

-- what is waited for comes: where it speaks of messages or of what became of them, there is one that
-- isn't taken, right or wrong; and otherwise it is so
abbrev pub comes : Parts → ℕ → List EventKind → Expected → Course → Bool
comes c opening taken what at =
    option_map_or (λ kind. is_some (next_event at.past taken kind))
    (kind_taken at.past taken what) (is_none (verdict c opening at.past at.rules.noted taken what))

-- after a line began with so many entries, slots were made, and what is to hold doesn't
abbrev pub fails : Parts → ℕ → List EventKind → ℕ → Expected → Course → Bool
fails c opening taken began what at =
    nat_lt began (length at.past) && not (comes c opening taken what at)

abbrev pub never_ends : Course → Bool
never_ends at = false

-- the steps that a line says on a bench, without those that the rules add; where they are slots, at
-- most as many as a limit of their extent allows
unfoldable pub steps_said : Parts → ℕ → ℕ → (Extent → ℕ) → BenchState → ScriptLine → List (PortId × Step)
steps_said c opening capacity limit b (line.Step by step) = (by, step) ∷ []
steps_said c opening capacity limit b (line.Slot how) =
    extent_steps c opening capacity how (Count 1) never_ends (limit (Count 1)) (course_of b)
steps_said c opening capacity limit b (line.Slots s) =
    extent_steps c opening capacity (Leave s.leave) s.extent never_ends (limit s.extent) (course_of b)
steps_said c opening capacity limit b (line.Until s what) =
    extent_steps c opening capacity (Leave s.leave) s.extent
    (comes c opening b.taken (expected_begun c b.past what)) (limit s.extent) (course_of b)
steps_said c opening capacity limit b (line.While s what) =
    extent_steps c opening capacity (Leave s.leave) s.extent
    (fails c opening b.taken (length b.past) (expected_begun c b.past what)) (limit s.extent) (course_of b)
steps_said c opening capacity limit b (line.Expect what) = []
steps_said c opening capacity limit b line.Forget = []
steps_said c opening capacity limit b (line.Test name) = []
steps_said c opening capacity limit b (line.Rule r) = []

-- how many slots a line of slots made by these steps; no other line makes any
abbrev pub slots_made : ScriptLine → List (PortId × Step) → ℕ
slots_made (line.Step by step) steps = 0
slots_made (line.Slot how) steps = ended_slot_count steps
slots_made (line.Slots s) steps = ended_slot_count steps
slots_made (line.Until s what) steps = ended_slot_count steps
slots_made (line.While s what) steps = ended_slot_count steps
slots_made (line.Expect what) steps = 0
slots_made line.Forget steps = 0
slots_made (line.Test name) steps = 0
slots_made (line.Rule r) steps = 0

-- what slots expect after them
abbrev pub expected_after : Extent → Option Expected
expected_after (Idle n) = Some expected.Idle
expected_after extent = None

-- what a line expects, of the history after its steps
abbrev pub expects : ScriptLine → Option Expected
expects (line.Slots s) = expected_after s.extent
expects (line.Until s what) = Some what
expects (line.While s what) = Some what
expects (line.Expect what) = Some what
expects line = None

-- likewise of a line that begins in this history
abbrev pub expects_from : Parts → List LogEntry → ScriptLine → Option Expected
expects_from c past (line.Until s what) = Some (expected_begun c past what)
expects_from c past (line.While s what) = Some (expected_begun c past what)
expects_from c past line = expects line

abbrev pub met_or : Expected → Option Got → Verdict
met_or what None = Met what
met_or what (Some got) = Unmet what got

-- a bench on which a line's steps were made, and its verdict on what the line expects
abbrev pub bench_with_verdict : Parts → ℕ → BenchState → Option Expected → BenchState × Verdict
bench_with_verdict c opening b None = (b, Nothing)
bench_with_verdict c opening b (Some what) = (
  record b { taken = taking b.past b.taken (kind_taken b.past b.taken what) },
  met_or what (verdict c opening b.past b.rules.noted b.taken what),
)

-- a bench after these steps and those that the rules add, by which so many slots were made
abbrev pub bench_after_steps : Parts → ℕ → ℕ → BenchState → ℕ → List (PortId × Step) → BenchState
bench_after_steps c opening capacity b count steps =
    let at = course_after c opening capacity (course_of b) steps
    in record b { past = at.past; rules = at.rules; left = b.left - count }

-- What steps that make so many slots come to, and what is expected after them; where these are more
-- slots than are left, the steps of those that are left are made, and nothing is judged.
abbrev pub made_within : Parts → ℕ → ℕ → BenchState → ℕ → List (PortId × Step)
    → List (PortId × Step) → Option Expected → BenchState × Verdict
made_within c opening capacity b count steps first what =
    if nat_lt b.left count then (bench_after_steps c opening capacity b b.left first, SlotLimit)
    else bench_with_verdict c opening (bench_after_steps c opening capacity b count steps) what

-- a bench of which all events so far are taken
abbrev pub forgotten : BenchState → BenchState
forgotten b = record b { taken = all_taken b.past }

-- a bench with one more rule, which is in force for the lines after it
abbrev pub with_rule : Parts → BenchState → Rule → BenchState
with_rule c b r = record b { rules = ruled (time c b.past) b.rules (begun_rule c b.past r) }

-- the end of rules is a check only where there is no such rule
abbrev pub ended_verdict : Bool → RuleEnd → Verdict
ended_verdict true e = Nothing
ended_verdict false e = Unmet (expected.HasRule e) NoRule

abbrev pub rule_verdict : Rules → Rule → Verdict
rule_verdict rules (rule.End e) = ended_verdict (has_rule rules e) e
rule_verdict rules r = Nothing

-- a bench after a line, and the line's verdict
unfoldable pub made : Parts → ℕ → ℕ → BenchState → ScriptLine → BenchState × Verdict
made c opening capacity b line.Forget = (forgotten b, Nothing)
made c opening capacity b (line.Test name) = (forgotten b, Nothing)
made c opening capacity b (line.Rule r) = (with_rule c b r, rule_verdict b.rules r)
made c opening capacity b line =
    let steps = steps_said c opening capacity most b line
    in made_within c opening capacity b (slots_made line steps) steps
    (steps_said c opening capacity (λ extent. b.left) b line) (expects_from c b.past line)
