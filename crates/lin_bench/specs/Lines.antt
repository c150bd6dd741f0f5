-- What the lines of a bench script say: steps, slots to be made, and expectations.
use Rattle.std.specs.Prelude.{◌≡◌, ℕ, ◌+◌, ◌==◌, ◌&&◌, ◌||◌, Bool, false, true, if◌then◌else◌, List, [], ◌∷◌, drop}
use Rattle.std.specs.Prelude.{slice_index, Option, Some, None, Result, Ok, Err, codes}
use Rattle.std.specs.List.{slice_split}
use Rattle.std.specs.Str.{bytes_eq}
use Rattle.std.specs.Str.Lines.{strip_carriage_return}
use Rattle.lin_parts.specs.declared.parts.Parts.{Parts}
use Rattle.lin_core.specs.declared.port.PortId.TheVariants.{Bus}
use Rattle.lin_log.specs.Language.{named_language}
use Rattle.lin_log.specs.Said.{is_port, port_step, step_form}
use Rattle.lin_log.specs.declared.reason.Reason.TheVariants.{Takes}
use Rattle.lin_bench.specs.Fields.{◌>>=◌, bytes_fields, count_field, line_fields, node_field, of_step}
use Rattle.lin_bench.specs.Expectations.{expectation, until_form, while_form}
use Rattle.lin_bench.specs.LineWords.{fields_text}
use Rattle.lin_bench.specs.OnLines.{on_form}
use Rattle.lin_bench.specs.RuleLines.{errors_form, every_form, services_form, power_form, state_form, timeouts_form, when_form}
use Rattle.lin_bench.specs.declared.reason.Reason.{Reason}
use Rattle.lin_bench.specs.declared.reason.Reason.TheVariants.{Step, SlotsForm, SlotForm}
use Rattle.lin_bench.specs.declared.reason.Reason.TheVariants.{ForScripts, LeaveForm, SlotsLeaveForm, TestForm}
use Rattle.lin_bench.specs.declared.line.Disturbance.{Disturbance}
use Rattle.lin_bench.specs.declared.line.Disturbance.TheVariants as slot
use Rattle.lin_bench.specs.declared.line.Extent.{Extent}
use Rattle.lin_bench.specs.declared.line.Extent.TheVariants as slots
use Rattle.lin_bench.specs.declared.line.ScriptLine.{ScriptLine}
use Rattle.lin_bench.specs.declared.line.ScriptLine.TheVariants as line
use Rattle.lin_bench.specs.declared.line.Slots.{Slots}

-- slots in which each node that is due answers
abbrev pub all_answer : Extent → Slots
all_answer extent = record { extent = extent; leave = [] }

-- until no message waits, at most 10,000 slots where no number says how many
abbrev pub idle_form : List (List ℕ) → Result ScriptLine Reason
idle_form [] = Ok (line.Slots (all_answer (slots.Idle 10000)))
idle_form (f ∷ []) = count_field f >>= (λ n. Ok (line.Slots (all_answer (slots.Idle n))))
idle_form fs = Err SlotsForm

-- ---- what ends slots early
abbrev pub ends_early : List ℕ → Bool
ends_early word = bytes_eq word (codes "until") || bytes_eq word (codes "while")

abbrev pub early_form : Parts → Slots → List (List ℕ) → Result ScriptLine Reason
early_form c s [] = Ok (line.Slots s)
early_form c s (word ∷ fs) =
    if bytes_eq word (codes "until") then until_form c fs >>= (λ what. Ok (line.Until s what))
    else if bytes_eq word (codes "while") then while_form c fs >>= (λ what. Ok (line.While s what))
    else Err SlotsForm

-- ---- the nodes that leave their responses out
abbrev pub node_fields : Parts → List (List ℕ) → Result (List ℕ) Reason
node_fields c [] = Ok []
node_fields c (f ∷ fs) = do
  node ← node_field c f
  nodes ← node_fields c fs
  Ok (node ∷ nodes)

-- the fields before the first `until` or `while`, and from that one on
abbrev pub nodes_and_early : List (List ℕ) → List (List ℕ) × List (List ℕ)
nodes_and_early [] = ([], [])
nodes_and_early (f ∷ fs) =
    if ends_early f then ([], f ∷ fs)
    else let rest = nodes_and_early fs in (f ∷ rest.0, rest.1)

abbrev pub nodes_read : Parts → List (List ℕ) × List (List ℕ)
    → Result (List ℕ × List (List ℕ)) Reason
nodes_read c (fs, gs) = node_fields c fs >>= (λ nodes. Ok (nodes, gs))

abbrev pub left_form : Parts → Extent → List (List ℕ) × List (List ℕ) → Result ScriptLine Reason
left_form c extent ([], gs) = Err SlotsLeaveForm
left_form c extent (f ∷ fs, gs) = do
  read ← nodes_read c (f ∷ fs, gs)
  early_form c (record { extent = extent; leave = read.0 }) read.1

-- as code reads them: the first of the nodes' fields and those after it
abbrev pub BeginsNodes : Option (List ℕ × List (List ℕ)) → List (List ℕ) → Type 0
BeginsNodes None fs = nodes_and_early fs ≡ ([], fs)
BeginsNodes (Some p) fs = (fs ≡ p.0 ∷ p.1) × (ends_early p.0 ≡ false)

-- ---- so many slots, or for so many milliseconds of the schedule's time
abbrev pub extent_of : Bool → List ℕ → Result Extent Reason
extent_of is_time f =
    count_field f >>= (λ n. Ok (if is_time then slots.Milliseconds n else slots.Count n))

abbrev pub after_count : Parts → Bool → List ℕ → List (List ℕ) → Result ScriptLine Reason
after_count c is_time f [] =
    extent_of is_time f >>= (λ extent. Ok (line.Slots (all_answer extent)))
after_count c is_time f (word ∷ fs) =
    if bytes_eq word (codes "leave")
    then extent_of is_time f >>= (λ extent. left_form c extent (nodes_and_early fs))
    else if ends_early word
    then extent_of is_time f >>= (λ extent. early_form c (all_answer extent) (word ∷ fs))
    else Err SlotsForm

abbrev pub count_form : Parts → List ℕ → List (List ℕ) → Result ScriptLine Reason
count_form c f [] = after_count c false f []
count_form c f (word ∷ fs) =
    if bytes_eq word (codes "ms") then after_count c true f fs
    else after_count c false f (word ∷ fs)

-- how many slots are made, by the fields after `slots`
unfoldable pub slots_form : Parts → List (List ℕ) → Result ScriptLine Reason
slots_form c [] = Err SlotsForm
slots_form c (f ∷ fs) = if bytes_eq f (codes "idle") then idle_form fs else count_form c f fs

abbrev pub leave_form : Parts → List (List ℕ) → Result Disturbance Reason
leave_form c [] = Err LeaveForm
leave_form c (f ∷ fs) = node_fields c (f ∷ fs) >>= (λ nodes. Ok (slot.Leave nodes))

-- how the slot of `slot` is disturbed
unfoldable pub slot_form : Parts → List (List ℕ) → Result Disturbance Reason
slot_form c [] = Ok slot.Undisturbed
slot_form c (word ∷ fs) =
    if bytes_eq word (codes "hurt") then bytes_fields c fs >>= (λ bytes. Ok (slot.Hurt bytes))
    else if bytes_eq word (codes "leave") then leave_form c fs
    else Err (SlotForm word)

abbrev pub forget_form : List (List ℕ) → Result ScriptLine Reason
forget_form [] = Ok line.Forget
forget_form fs = Err (Step (Takes (codes "forget") 0))

-- a test, by the fields of its name
abbrev pub test_form : List (List ℕ) → Result ScriptLine Reason
test_form [] = Err TestForm
test_form fs = Ok (line.Test (fields_text fs))

-- a word of lines that are resolved while a script is read
abbrev pub is_resolved : List ℕ → Bool
is_resolved word =
    bytes_eq word (codes "set")
    || (bytes_eq word (codes "repeat") || (bytes_eq word (codes "end") || bytes_eq word (codes "include")))

-- what a line of a rule says, or of a step before which no port stands: the bus gives it
abbrev pub rule_or_step_form : Parts → List ℕ → List (List ℕ) → Result ScriptLine Reason
rule_or_step_form c word fs =
    if bytes_eq word (codes "when") then when_form c fs >>= (λ rule. Ok (line.Rule rule))
    else if bytes_eq word (codes "timeouts")
    then timeouts_form c fs >>= (λ rule. Ok (line.Rule rule))
    else if bytes_eq word (codes "every") then every_form c fs >>= (λ rule. Ok (line.Rule rule))
    else if bytes_eq word (codes "services")
    then services_form c fs >>= (λ rule. Ok (line.Rule rule))
    else if bytes_eq word (codes "response_errors")
    then errors_form c fs >>= (λ rule. Ok (line.Rule rule))
    else if bytes_eq word (codes "state") then state_form c fs >>= (λ rule. Ok (line.Rule rule))
    else if bytes_eq word (codes "node") then power_form c fs >>= (λ rule. Ok (line.Rule rule))
    else if bytes_eq word (codes "on") then on_form c fs >>= (λ rule. Ok (line.Rule rule))
    else of_step (step_form (named_language c) word fs) >>= (λ step. Ok (line.Step Bus step))

-- what a line says, by its first field and those after it
unfoldable pub line_form : Parts → List ℕ → List (List ℕ) → Result ScriptLine Reason
line_form c word fs =
    if is_port word then of_step (port_step (named_language c) word fs) >>= (λ s. Ok (line.Step s.0 s.1))
    else if bytes_eq word (codes "slots") then slots_form c fs
    else if bytes_eq word (codes "slot") then slot_form c fs >>= (λ how. Ok (line.Slot how))
    else if bytes_eq word (codes "expect") then expectation c fs >>= (λ what. Ok (line.Expect what))
    else if bytes_eq word (codes "forget") then forget_form fs
    else if bytes_eq word (codes "test") then test_form fs
    else if is_resolved word then Err (ForScripts word)
    else rule_or_step_form c word fs

abbrev pub line_of_fields : Parts → List (List ℕ) → Result (Option ScriptLine) Reason
line_of_fields c [] = Ok None
line_of_fields c (word ∷ fs) = line_form c word fs >>= (λ l. Ok (Some l))

-- what a line says, nothing where it has no field or begins with `>`, as the replies of a log do
unfoldable pub read_line : Parts → List ℕ → Result (Option ScriptLine) Reason
read_line c l = if slice_index l 0 == 62 then Ok None else line_of_fields c (line_fields l)
