-- Slots and lines on a bench.
use Rattle.std.proofs.Common.{◌≡◌, ◌∙◌, ℕ, ◌+◌, ◌-◌, Bool, true, false, nat_lt, le-ltb, List, [], ◌∷◌, refl, ap, arith, ltb-false, ltb-true, Option, Some, None, Result, Ok, Err}
use Rattle.lin_parts.specs.declared.parts.Parts.{Parts}
use Rattle.lin_core.specs.Core.{CoreData, past_of}
use Rattle.lin_core.specs.History.{time}
use Rattle.lin_core.specs.declared.port.PortId.{PortId}
use Rattle.lin_core.specs.declared.step.Step.{Step}
use Rattle.lin_bench.specs.Bench.{BenchData, MakeFails, GivesVerdict, MakesBench, MakesLine, made_early, made_on, made_slots, ruled_of, state_of}
use Rattle.lin_bench.specs.Made.{BenchState, expected_begun, bench_with_verdict, ended_verdict, made, steps_said, bench_after_steps, rule_verdict}
use Rattle.lin_bench.specs.Making.{IsGrown, AreExecuted, MakesSteps, RuledData, SlotsFail, StepsFail, extent_on}
use Rattle.lin_bench.specs.Ons.{begun_rule}
use Rattle.lin_bench.specs.Rules.{has_rule, ruled, without_rule}
use Rattle.lin_bench.specs.Slots.{Course, ended_slot_count}
use Rattle.lin_bench.specs.declared.bench.Early.TheVariants.{Until, While}
use Rattle.lin_bench.specs.declared.expected.Expected.{Expected}
use Rattle.lin_bench.specs.declared.fault.MakeFault.{MakeFault}
use Rattle.lin_bench.specs.declared.fault.MakeFault.TheVariants.{LogFull, OutOfMemory}
use Rattle.lin_bench.specs.declared.got.Verdict.{Verdict}
use Rattle.lin_bench.specs.declared.got.Verdict.TheVariants.{Nothing}
use Rattle.lin_bench.specs.declared.line.Disturbance.{Disturbance}
use Rattle.lin_bench.specs.declared.line.Disturbance.TheVariants.{Leave}
use Rattle.lin_bench.specs.declared.line.Extent.{Extent}
use Rattle.lin_bench.specs.declared.line.ScriptLine.TheVariants as line
use Rattle.lin_bench.specs.declared.line.Slots.{Slots}
use Rattle.lin_bench.specs.declared.rules.Rule.{Rule}
use Rattle.lin_bench.specs.declared.rules.Rule.TheVariants as rule
use Rattle.lin_bench.specs.declared.rules.RuleEnd.{RuleEnd}
use Rattle.lin_bench.specs.declared.rules.Rules.{Rules}
use Rattle.lin_bench.proofs.Makes.{grown-made, grown-more, grown-nothing}

-- a log only grows
pub steps-grown : {X : Type 0} (a b : RuledData) (ss : List (PortId × Step)) (r : Result X MakeFault) → MakesSteps a ss r b → IsGrown a.core b.core
steps-grown a b ss (Ok x) made = grown-made a b ss made
steps-grown a b ss (Err fault) fails = fails.1

-- there is no room for slots
judged-past : (c : Parts) (o : ℕ) (b : BenchState) (what : Option Expected) → (bench_with_verdict c o b what).0.past ≡ b.past
judged-past c o b None = refl
judged-past c o b (Some what) = refl

no-room-within : (b : BenchData) (how : Disturbance) (extent : Extent) (ends : Course → Bool) (what : Option Expected) (t : Bool)
    → nat_lt b.left (ended_slot_count (extent_on (ruled_of b) how extent ends)) ≡ t → SlotsFail LogFull (ruled_of b) how extent ends b.left
    → MakeFails LogFull (made_slots b how extent ends what).0
no-room-within b how extent ends what true h full =
    let many = ltb-true b.left (ended_slot_count (extent_on (ruled_of b) how extent ends)) h in
    rw h (full.1 many)
no-room-within b how extent ends what false h full =
    let few = ltb-false b.left (ended_slot_count (extent_on (ruled_of b) how extent ends)) h in
    let all = extent_on (ruled_of b) how extent ends in
    rw h (rw (judged-past b.core.cluster b.core.opening (bench_after_steps b.core.cluster b.core.opening b.core.capacity (state_of b) (ended_slot_count all) all) what) (full.0 few))

pub slots-fail : (fault : MakeFault) (b : BenchData) (how : Disturbance) (extent : Extent) (ends : Course → Bool) (what : Option Expected)
    → SlotsFail fault (ruled_of b) how extent ends b.left → MakeFails fault (made_slots b how extent ends what).0
slots-fail LogFull b how extent ends what full = no-room-within b how extent ends what _ refl full
slots-fail OutOfMemory b how extent ends what none = tt

-- a bench is as steps left it
made-state : (b new : BenchData) (count : ℕ) (ss : List (PortId × Step)) → AreExecuted (ruled_of b) ss (ruled_of new) → new.taken ≡ b.taken → new.left ≡ b.left - count
    → state_of new ≡ bench_after_steps b.core.cluster b.core.opening b.core.capacity (state_of b) count ss
made-state b new count ss made taken left =
    ap (λ (k : Course). record (state_of new) { past = k.past; rules = k.rules }) made.course ∙ rw (taken, left) refl

-- slots were made, and then it was judged
pub slots-judged : (b mid new : BenchData) (how : Disturbance) (extent : Extent) (ends : Course → Bool) (what : Option Expected) (r : Result Verdict MakeFault)
    → AreExecuted (ruled_of b) (extent_on (ruled_of b) how extent ends) (ruled_of mid) → ended_slot_count (extent_on (ruled_of b) how extent ends) + mid.left ≡ b.left
    → mid.taken ≡ b.taken → GivesVerdict mid what r new → MakesBench (made_slots b how extent ends what) b r new
slots-judged b mid new how extent ends what (Ok verdict) made count taken (is, same) =
    let all = extent_on (ruled_of b) how extent ends in
    let few : nat_lt b.left (ended_slot_count all) ≡ false = le-ltb _ _ (omega (arith, count)) in
    let left : mid.left ≡ b.left - ended_slot_count all = omega (arith, count) in
    let state = made-state b mid (ended_slot_count all) all made taken left in (
      is ∙ ap (λ (s : BenchState). bench_with_verdict mid.core.cluster mid.core.opening s what) state ∙ rw (made.alike.0, made.alike.1, few) refl,
      (ap (λ (k : CoreData). k.cluster) same ∙ made.alike.0, ap (λ (k : CoreData). k.opening) same ∙ made.alike.1, ap (λ (k : CoreData). k.capacity) same ∙ made.alike.2),
    )
slots-judged b mid new how extent ends what (Err LogFull) made count taken none = absurd none
slots-judged b mid new how extent ends what (Err OutOfMemory) made count taken same = (
  tt,
  grown-more b.core mid.core new.core (grown-made (ruled_of b) (ruled_of mid) (extent_on (ruled_of b) how extent ends) made)
      (grown-nothing mid.core new.core (ap (λ (k : CoreData). k.log) same)),
)

-- a step was made
pub step-made : (b new : BenchData) (by : PortId) (step : Step) → AreExecuted (ruled_of b) ((by, step) ∷ []) (ruled_of new) → new.taken ≡ b.taken → new.left ≡ b.left
    → MakesLine b (line.Step by step) (Ok Nothing) new
unfolding made steps_said
step-made b new by step made taken left =
    let none : nat_lt b.left 0 ≡ false = le-ltb _ _ (omega arith) in
    let same : new.left ≡ b.left - 0 = omega arith in
    (rw none (ap (λ (s : BenchState). (s, Nothing)) (made-state b new 0 ((by, step) ∷ []) made taken same)), made.alike)

pub step-fails : (fault : MakeFault) (b : BenchData) (by : PortId) (step : Step) → StepsFail fault (ruled_of b) ((by, step) ∷ [])
    → MakeFails fault (made_on b (line.Step by step)).0
unfolding made steps_said
step-fails LogFull b by step full = let none : nat_lt b.left 0 ≡ false = le-ltb _ _ (omega arith) in rw none full
step-fails OutOfMemory b by step none = tt

-- a rule was put in force
pub rule-made : (b new : BenchData) (r : Rule) → new.core ≡ b.core
    → new.rules ≡ ruled (time b.core.cluster (past_of b.core)) b.rules (begun_rule b.core.cluster (past_of b.core) r)
    → new.taken ≡ b.taken → new.left ≡ b.left → MakesLine b (line.Rule r) (Ok (rule_verdict b.rules r)) new
unfolding made
rule-made b new r core rules taken left = rw (core, rules, taken, left) (refl, (refl, refl, refl))

-- a rule that ends none comes to no verdict
pub other-verdict : (rules : Rules) (r : Rule) → ((e : RuleEnd) → r ≡ rule.End e → ⊥) → rule_verdict rules r ≡ Nothing
other-verdict rules (rule.End e) h = absurd (h e refl)
other-verdict rules r h = refl

-- slots were made that end early, by what was expected as the line began
pub until-made : (b new : BenchData) (s : Slots) (what from : Expected) (core : CoreData) (r : Result Verdict MakeFault) → core ≡ b.core → from ≡ expected_begun core.cluster (past_of core) what
    → MakesBench (made_early b (Leave s.leave) s.extent Until (Some from)) b r new → MakesLine b (line.Until s what) r new
unfolding made steps_said
until-made b new s what from core r same is h = rw (is, same) at h

pub while-made : (b new : BenchData) (s : Slots) (what from : Expected) (core : CoreData) (r : Result Verdict MakeFault) → core ≡ b.core → from ≡ expected_begun core.cluster (past_of core) what
    → MakesBench (made_early b (Leave s.leave) s.extent While (Some from)) b r new → MakesLine b (line.While s what) r new
unfolding made steps_said
while-made b new s what from core r same is h = rw (is, same) at h

-- single rules were put out of force
pub end-made : (b new : BenchData) (e : RuleEnd) (found : Bool) → found ≡ has_rule b.rules e → new.core ≡ b.core → new.rules ≡ without_rule b.rules e
    → new.taken ≡ b.taken → new.left ≡ b.left → MakesLine b (line.Rule (rule.End e)) (Ok (ended_verdict found e)) new
unfolding made ruled
end-made b new e found is core rules taken left = rw (is, core, rules, taken, left) (refl, (refl, refl, refl))
