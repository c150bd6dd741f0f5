-- What the lines of steps say that signals and frames call for.
use Rattle.std.specs.Prelude.{ℕ, ◌&&◌, ◌||◌, if◌then◌else◌, true, false, not, Bool}
use Rattle.std.specs.Prelude.{List, [], ◌∷◌, length, position, slice_index_or, suc, take, zero}
use Rattle.std.specs.Prelude.{Option, Some, None, Result, Ok, Err, codes}
use Rattle.std.specs.Str.{bytes_eq}
use Rattle.lin_parts.specs.declared.parts.Parts.{Parts}
use Rattle.lin_core.specs.declared.port.PortId.{PortId}
use Rattle.lin_core.specs.declared.port.PortId.TheVariants.{Bus}
use Rattle.lin_core.specs.declared.step.Step.{Step}
use Rattle.lin_core.specs.declared.step.Step.TheVariants.{AskSleep, Send, Switch, Write}
use Rattle.lin_log.specs.Language.{named_language}
use Rattle.lin_log.specs.Said.{is_port, port_step, step_form}
use Rattle.lin_bench.specs.Expectations.{condition_form}
use Rattle.lin_bench.specs.Fields.{◌>>=◌, of_step}
use Rattle.lin_bench.specs.declared.expected.Condition.{Condition}
use Rattle.lin_bench.specs.declared.reason.Reason.{Reason}
use Rattle.lin_bench.specs.declared.reason.Reason.TheVariants.{OnForm, OnStep, UnknownExpectation, UnknownOn}
use Rattle.lin_bench.specs.declared.rules.Form.{Form}
use Rattle.lin_bench.specs.declared.rules.Rule.{Rule}
use Rattle.lin_bench.specs.declared.rules.Rule.TheVariants as rule
use Rattle.lin_bench.specs.declared.rules.RuleEnd.TheVariants as end

-- ---- the form: a condition that is to hold, or isn't
abbrev pub may_call : Bool → List ℕ → Bool
may_call wanted word =
    bytes_eq word (codes "signal") || bytes_eq word (codes "seen") || bytes_eq word (codes "frame")
    || bytes_eq word (codes "slot") || (wanted && bytes_eq word (codes "changed"))

abbrev pub on_reason : List (List ℕ) → Reason → Reason
on_reason all (UnknownExpectation fs) = UnknownOn all
on_reason all why = why

abbrev pub as_form : List (List ℕ) → Bool → Result (Option Condition) Reason → Result Form Reason
as_form all wanted (Ok (Some what)) = Ok (record { wanted = wanted; what = what })
as_form all wanted (Ok None) = Err (UnknownOn all)
as_form all wanted (Err why) = Err (on_reason all why)

abbrev pub form_of : Parts → List (List ℕ) → Bool → List ℕ → List (List ℕ) → Result Form Reason
form_of c all wanted word fs =
    if may_call wanted word then as_form all wanted (condition_form c all word fs)
    else Err (UnknownOn all)

abbrev pub after_not : Parts → List (List ℕ) → List ℕ → List (List ℕ) → Result Form Reason
after_not c all f [] = form_of c all true f []
after_not c all f (word ∷ fs) =
    if bytes_eq f (codes "not") then form_of c all false word fs else form_of c all true f (word ∷ fs)

abbrev pub form_fields : Parts → List (List ℕ) → Result Form Reason
form_fields c [] = Err OnForm
form_fields c (f ∷ fs) = after_not c (f ∷ fs) f fs

-- ---- the step
abbrev pub called_step : PortId × Step → Result (PortId × Step) Reason
called_step (by, Send from to message) = Ok (by, Send from to message)
called_step (by, Write node signal value) = Ok (by, Write node signal value)
called_step (by, Switch table) = Ok (by, Switch table)
called_step (by, AskSleep) = Ok (by, AskSleep)
called_step other = Err OnStep

abbrev pub is_called : List ℕ → Bool
is_called word =
    bytes_eq word (codes "send") || bytes_eq word (codes "write") || bytes_eq word (codes "switch")
    || bytes_eq word (codes "sleep")

abbrev pub on_step : Parts → List ℕ → List (List ℕ) → Result (PortId × Step) Reason
on_step c word fs =
    if is_port word then of_step (port_step (named_language c) word fs) >>= called_step
    else if is_called word
    then of_step (step_form (named_language c) word fs) >>= (λ step. Ok (Bus, step))
    else Err OnStep

-- ---- the line: a form up to the first field `do`, and a step after that; or a form and `off`
abbrev pub is_do : List ℕ → Bool
is_do f = bytes_eq f (codes "do")

abbrev pub after_do : List (List ℕ) → Option (List (List ℕ))
after_do [] = None
after_do (f ∷ fs) = if is_do f then Some fs else after_do fs

abbrev pub some_fields : Option (List (List ℕ)) → Option (List (List ℕ))
some_fields (Some (f ∷ fs)) = Some (f ∷ fs)
some_fields fs = None

abbrev pub step_after : List (List ℕ) → Option (List (List ℕ))
step_after fs = some_fields (after_do fs)

abbrev pub called_by : Parts → List (List ℕ) → Option (List (List ℕ)) → Result Rule Reason
called_by c form (Some (word ∷ fs)) = do
  what ← form_fields c form
  s ← on_step c word fs
  Ok (rule.On (record { on = record { form = what; by = s.0; step = s.1 }; held = false }))
called_by c form other = Err OnForm

abbrev pub on_do : Parts → List (List ℕ) → List (List ℕ) → Result Rule Reason
on_do c form fs = called_by c form (step_after fs)

-- where `off` is the last field
abbrev pub off_at : List (List ℕ) → Option ℕ
off_at [] = None
off_at (f ∷ fs) =
    if bytes_eq (slice_index_or (f ∷ fs) (length fs) []) (codes "off") then Some (length fs) else None

abbrev pub ended_form : Parts → List (List ℕ) → Result Rule Reason
ended_form c form = form_fields c form >>= (λ what. Ok (rule.End (end.On what)))

abbrev pub on_end_at : Parts → List (List ℕ) → Option ℕ → Result Rule Reason
on_end_at c fs None = Err OnForm
on_end_at c fs (Some zero) = Ok rule.OnOff
on_end_at c fs (Some (suc n)) = ended_form c (take (suc n) fs)

abbrev pub on_end : Parts → List (List ℕ) → Result Rule Reason
on_end c fs = on_end_at c fs (off_at fs)

abbrev pub on_by : Parts → List (List ℕ) → Option ℕ → Result Rule Reason
on_by c fs None = on_end c fs
on_by c fs (Some at) = on_do c (take at fs) fs

unfoldable pub on_form : Parts → List (List ℕ) → Result Rule Reason
on_form c fs = on_by c fs (position is_do fs)
