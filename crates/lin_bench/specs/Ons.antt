-- Steps that signals and frames call for: which forms call for theirs after a slot, and what is kept of a
-- look at them.
use Rattle.std.specs.Prelude.{ℕ, ◌&&◌, Bool, true, false, not, is_none, List, [], filter, map}
use Rattle.lin_parts.specs.declared.parts.Parts.{Parts}
use Rattle.lin_core.specs.declared.log.LogEntry.{LogEntry}
use Rattle.lin_core.specs.declared.port.PortId.{PortId}
use Rattle.lin_core.specs.declared.step.Step.{Step}
use Rattle.lin_bench.specs.Added.{is_by_off}
use Rattle.lin_bench.specs.Verdicts.{found, judged_so, value_seen}
use Rattle.lin_bench.specs.declared.expected.Condition.{Condition}
use Rattle.lin_bench.specs.declared.expected.Condition.TheVariants as condition
use Rattle.lin_bench.specs.declared.rules.Form.{Form}
use Rattle.lin_bench.specs.declared.rules.Rule.{Rule}
use Rattle.lin_bench.specs.declared.rules.Rule.TheVariants as rule
use Rattle.lin_bench.specs.declared.rules.Rules.{Rules}
use Rattle.lin_bench.specs.declared.rules.Watched.{Watched}

-- a form holds in a history: its condition does, or doesn't. Where it is of a slot, there was one
abbrev pub holds : Parts → List LogEntry → Form → Bool
holds c past f = is_none (judged_so f.wanted (found c past [] f.what))

-- a form of the value of a signal calls for its step when it begins to hold; any other calls for it after
-- each slot after which it holds
abbrev pub is_once : Condition → Bool
is_once (condition.Signal node signal value) = true
is_once (condition.SignalWithin node signal low high) = true
is_once (condition.SignalMeans node signal text values) = true
is_once what = false

-- by whether it holds now, and whether it held at the last look
abbrev pub reacts : Watched → Bool → Bool
reacts w held = held && not (is_once w.on.form.what && w.held)

-- a node that is off does nothing, but its forms are looked at
abbrev pub calls : List ℕ → Watched → Bool → Bool
calls offs w held = reacts w held && not (is_by_off offs w.on.step)

abbrev pub reaction : Watched → PortId × Step
reaction w = (w.on.by, w.on.step)

abbrev pub reactions_of : Parts → List LogEntry → List ℕ → List Watched → List (PortId × Step)
reactions_of c past offs ons =
    map reaction (filter (λ w. calls offs w (holds c past w.on.form)) ons)

-- ---- what is kept of a look: whether the form held, and the value from which a signal is to change
abbrev pub condition_begun : Parts → List LogEntry → Condition → Condition
condition_begun c past (condition.Changed node signal first) =
    condition.Changed node signal (value_seen c past node signal)
condition_begun c past what = what

abbrev pub form_begun : Parts → List LogEntry → Form → Form
form_begun c past f = record f { what = condition_begun c past f.what }

abbrev pub looked : Parts → List LogEntry → Watched → Bool → Watched
looked c past w held = record {
  on = record w.on { form = form_begun c past w.on.form };
  held = held;
}

abbrev pub looked_now : Parts → List LogEntry → Watched → Watched
looked_now c past w = looked c past w (holds c past w.on.form)

-- a form is looked at for the first time at its line
abbrev pub begun_rule : Parts → List LogEntry → Rule → Rule
begun_rule c past (rule.On w) = rule.On (looked_now c past w)
begun_rule c past r = r

-- ---- all forms, in the order of their lines, each on the same history
abbrev pub reactions : Parts → List LogEntry → Rules → List (PortId × Step)
reactions c past rules = reactions_of c past rules.offs rules.ons

abbrev pub after_look : Parts → List LogEntry → Rules → Rules
after_look c past rules = record rules { ons = map (looked_now c past) rules.ons }
