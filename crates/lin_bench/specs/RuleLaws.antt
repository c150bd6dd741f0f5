-- What rules add, and what they leave alone.
use Rattle.std.specs.Prelude.{◌≡◌, ◌⊎◌, ℕ, List, [], ◌∷◌, ◌++◌, false, filter, find}
use Rattle.std.specs.List.{list_any}
use Rattle.lin_parts.specs.declared.parts.Parts.{Parts}
use Rattle.lin_core.specs.declared.log.LogEntry.{LogEntry}
use Rattle.lin_core.specs.declared.port.PortId.{PortId}
use Rattle.lin_core.specs.declared.reply.Reply.{Reply}
use Rattle.lin_core.specs.declared.step.Step.{Step}
use Rattle.lin_bench.specs.Added.{added_steps, rules_after}
use Rattle.lin_bench.specs.Made.{BenchState, made}
use Rattle.lin_bench.specs.Ons.{reactions}
use Rattle.lin_bench.specs.Rules.{is_rule_for, no_rules, rule_for, same_rule, whens_with}
use Rattle.lin_bench.specs.Slots.{course_after, past_after, slot_steps, way}
use Rattle.lin_bench.specs.declared.line.Disturbance.TheVariants as slot
use Rattle.lin_bench.specs.declared.line.ScriptLine.TheVariants as line
use Rattle.lin_bench.specs.declared.rules.Rules.{Rules}
use Rattle.lin_bench.specs.declared.rules.When.{When}

-- where no rule is in force and no answer is noted, nothing is added or noted
abbrev pub NoRuleAddsNothing : Type 0
NoRuleAddsNothing = (c : Parts) (e : LogEntry) (past : List LogEntry)
    → (added_steps c e past no_rules ≡ []) × (rules_after c e past no_rules ≡ no_rules)

-- so steps come to what they come to by themselves
abbrev pub NoRuleChangesNothing : Type 0
NoRuleChangesNothing = (c : Parts) (opening capacity : ℕ) (past : List LogEntry)
    (steps : List (PortId × Step))
    → course_after c opening capacity (record { past = past; rules = no_rules }) steps
    ≡ record { past = past_after c opening capacity past steps; rules = no_rules }

-- whoever gives a finish, the same is added that messages, limits, repetitions and errors ask for, and forms
-- that are looked at after it call for the same
abbrev pub AddedByAnyFinish : Type 0
AddedByAnyFinish = (c : Parts) (by other : PortId) (step : Step) (reply : Reply)
    (past : List LogEntry) (rules : Rules)
    → (added_steps c (record { port = by; step = step; reply = reply }) past rules
    ≡ added_steps c (record { port = other; step = step; reply = reply }) past rules)
    × (reactions c (record { port = by; step = step; reply = reply } ∷ past) rules
    ≡ reactions c (record { port = other; step = step; reply = reply } ∷ past) rules)

-- what a step comes to is told by the history and the rules, whatever expectations took and however
-- many slots are left
abbrev pub AddedByHistoryAndRules : Type 0
AddedByHistoryAndRules = (c : Parts) (opening capacity : ℕ) (a b : BenchState) (by : PortId)
    (step : Step)
    → a.past ≡ b.past → a.rules ≡ b.rules
    → ((made c opening capacity a (line.Step by step)).0.past
    ≡ (made c opening capacity b (line.Step by step)).0.past)
    × ((made c opening capacity a (line.Step by step)).0.rules
    ≡ (made c opening capacity b (line.Step by step)).0.rules)

-- where nodes are off, a slot has the steps of one in which they leave their responses out
abbrev pub OffIsLeave : Type 0
OffIsLeave = (c : Parts) (opening capacity : ℕ) (left offs : List ℕ) (past : List LogEntry)
    → slot_steps c opening capacity (way (slot.Leave left) offs) past
    ≡ slot_steps c opening capacity (way (slot.Leave (left ++ offs)) []) past

-- no two rules are for the same node, state and pattern
abbrev pub AreDistinct : List When → Type 0
AreDistinct [] = Unit {0}
AreDistinct (w ∷ ws) = (list_any (same_rule w) ws ≡ false) × AreDistinct ws

-- a rule is one of these
abbrev pub IsOneOf : List When → When → Type 0
IsOneOf [] w = ⊥
IsOneOf (v ∷ vs) w = (v ≡ w) ⊎ IsOneOf vs w

-- the lines of rules keep them distinct
abbrev pub KeepsDistinct : Type 0
KeepsDistinct = (ws : List When) (w : When) → AreDistinct ws → AreDistinct (whens_with ws w)

-- of the same rules, in whatever order, the same one applies
abbrev pub OrderOfRules : Type 0
OrderOfRules = (ws vs : List When) (node : ℕ) (state message : List ℕ)
    → AreDistinct ws → ((w : When) → IsOneOf ws w → IsOneOf vs w)
    → ((w : When) → IsOneOf vs w → IsOneOf ws w)
    → rule_for ws node state message ≡ rule_for vs node state message

-- where only one rule of a node in a state matches a message, it is the first that matches
abbrev pub OldScripts : Type 0
OldScripts = (ws : List When) (w : When) (node : ℕ) (state message : List ℕ)
    → filter (is_rule_for node state message) ws ≡ w ∷ []
    → rule_for ws node state message ≡ find (is_rule_for node state message) ws
