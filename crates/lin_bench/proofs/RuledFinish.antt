-- What rules add after a finish, on a core on which they are in force.
use Rattle.std.proofs.Common.{◌≡◌, ◌∙◌, ℕ, List, [], ◌∷◌, ◌++◌, map, refl, sym, subst, ap, append_assoc, cond, is_some, true, slice_index_or, length, ◌-◌, Result, Ok, Err}
use Rattle.std.specs.Prelude.{filter}
use Rattle.lin_core.specs.Core.{entry_with_reply, past_of}
use Rattle.lin_core.specs.History.{Slot, done, finished_slot, is_finish, open_slot, time}
use Rattle.lin_core.specs.Replies.{may}
use Rattle.lin_core.specs.declared.log.LogEntry.{LogEntry}
use Rattle.lin_core.specs.declared.port.PortId.{PortId}
use Rattle.lin_core.specs.declared.step.Step.{Step}
use Rattle.lin_core.specs.declared.step.Step.TheVariants.{Send, Write, Open, Answer, Leave, Hurt, Finish, Timeout, Switch, AskSleep, Wake, Close}
use Rattle.lin_bench.specs.Added.{added_after, rules_after_arrivals, is_repeated, rules_after, send_of, step_to_repeat, timeouts, with_kept}
use Rattle.lin_bench.specs.Errors.{errors_told}
use Rattle.lin_bench.specs.Adding.{AddsAfterFinish, AddsFirst, AreAdded, HasFinished, MakesAdded, finish_of}
use Rattle.lin_bench.specs.Making.{IsMadeSo, MakesUnchanged, RuledData}
use Rattle.lin_bench.specs.Rules.{kept_at, no_rules, sent_at}
use Rattle.lin_bench.specs.declared.fault.MakeFault.{MakeFault}
use Rattle.lin_bench.specs.declared.rules.Noted.{Noted}
use Rattle.lin_bench.specs.declared.rules.Rules.{Rules}
use Rattle.lin_bench.proofs.HeardLinks.{finish-allowed, finished-slot}
use Rattle.lin_bench.proofs.AddedSteps.{finish-added, has-finished}
use Rattle.lin_bench.proofs.Makes.{newest-past}
use Rattle.lin_bench.proofs.NotedAnswers.{arrived-kept}
use Rattle.lin_bench.proofs.RuleLaws.{called-nothing, no-rule}

-- the core as it is when the answers to the finish are noted, and what is added there
pub record IsReady (a i : RuledData) (by : PortId) (past : List LogEntry) (began now : ℕ) : Type 0 where
  pub core : i.core ≡ a.core
  pub rules : i.rules ≡ rules_after_arrivals a.core.cluster (finish_of a.core past by) past a.rules
  pub began_is : began ≡ time a.core.cluster past
  pub now_is : now ≡ time i.core.cluster (past_of i.core)

all-steps : (a i : RuledData) (by : PortId) (past : List LogEntry) (s : Slot) (began now : ℕ) → HasFinished a.core by past s → IsReady a i by past began now
    → timeouts i.core.cluster (past_of i.core) i.rules
    ++ (errors_told i.core.cluster (finish_of i.core past by) past i.rules.offs i.rules.errors
    ++ (map send_of (sent_at now i.rules.noted) ++ map step_to_repeat (filter (is_repeated began now i.rules.offs) i.rules.everies)))
    ≡ added_after a.core.cluster (finish_of a.core past by) past a.rules
all-steps a i by past s began now fin at =
    let kept = arrived-kept a.core.cluster (finish_of a.core past by) past a.rules in
    let late = ap (λ (r : Rules). timeouts a.core.cluster (finish_of a.core past by ∷ past) r) kept in
    let errors = ap (λ (r : Rules). r.errors) kept in
    let offs = ap (λ (r : Rules). r.offs) kept in
    let everies = ap (λ (r : Rules). r.everies) kept in
    rw (at.now_is, at.rules, at.core, at.began_is, fin.newest, late, errors, offs, everies) refl

all-rules : (a i : RuledData) (by : PortId) (past : List LogEntry) (s : Slot) (began now : ℕ) → HasFinished a.core by past s → IsReady a i by past began now
    → record i.rules { noted = kept_at now i.rules.noted } ≡ rules_after a.core.cluster (finish_of a.core past by) past a.rules
all-rules a i by past s began now fin at =
    let is = finished-slot a.core.cluster a.core.opening a.core.capacity past by s fin.slot fin.may in
    let kept : with_kept now i.rules ≡ with_kept (time a.core.cluster (finish_of a.core past by ∷ past)) (rules_after_arrivals a.core.cluster (finish_of a.core past by) past a.rules) =
    rw (at.now_is, at.rules, at.core, fin.newest) refl in
    kept
    ∙ ap (λ b. cond b (with_kept (time a.core.cluster (finish_of a.core past by ∷ past)) (rules_after_arrivals a.core.cluster (finish_of a.core past by) past a.rules)) a.rules)
    (sym (ap is_some is))

in-turn : {X : Type 0} (a d : RuledData) (e : LogEntry) (past : List LogEntry) (steps : List (PortId × Step)) (r : Result X MakeFault)
    → steps ≡ added_after a.core.cluster e past a.rules → MakesAdded a.core steps r d.core → d.rules ≡ rules_after a.core.cluster e past a.rules → AddsFirst a e past r d
in-turn a d e past steps (Ok x) is made rules = (rw is at made, rules)
in-turn a d e past steps (Err fault) is made rules = rw is at made

pub rules-add : {X : Type 0} (a i d : RuledData) (by : PortId) (past : List LogEntry) (s : Slot) (began now : ℕ) (s0 s1 st s2 s3 : List (PortId × Step)) (noted : List Noted) (r : Result X MakeFault)
    → HasFinished a.core by past s → IsReady a i by past began now
    → s0 ≡ [] → s1 ≡ s0 ++ timeouts i.core.cluster (past_of i.core) i.rules
    → (HasFinished i.core by past s → st ≡ s1 ++ errors_told i.core.cluster (finish_of i.core past by) past i.rules.offs i.rules.errors)
    → s2 ≡ st ++ map send_of (sent_at now i.rules.noted) → noted ≡ kept_at now i.rules.noted
    → s3 ≡ s2 ++ map step_to_repeat (filter (is_repeated began now i.rules.offs) i.rules.everies)
    → MakesAdded i.core s3 r d.core → d.rules ≡ record i.rules { noted = noted }
    → AddsFirst a (finish_of a.core past by) past r d
rules-add a i d by past s began now s0 s1 st s2 s3 noted r fin at e0 e1 et e2 en e3 made rules =
    let sent : List (PortId × Step) = map send_of (sent_at now i.rules.noted) in
    let given : List (PortId × Step) = timeouts i.core.cluster (past_of i.core) i.rules in
    let again : List (PortId × Step) = map step_to_repeat (filter (is_repeated began now i.rules.offs) i.rules.everies) in
    let told : List (PortId × Step) = errors_told i.core.cluster (finish_of i.core past by) past i.rules.offs i.rules.errors in
    let steps : s3 ≡ given ++ (told ++ (sent ++ again)) =
    e3 ∙ ap (λ l. l ++ again) (e2 ∙ ap (λ l. l ++ sent) (et (subst (λ k. HasFinished k by past s) (sym at.core) fin) ∙ ap (λ l. l ++ told) (e1 ∙ ap (λ l. l ++ given) e0)))
    ∙ append_assoc (given ++ told) sent again ∙ append_assoc given told (sent ++ again) in
    in-turn a d (finish_of a.core past by) past s3 r (steps ∙ all-steps a i by past s began now fin at) (rw at.core at made)
    (rules ∙ ap (λ l. record i.rules { noted = l }) en ∙ all-rules a i by past s began now fin at)

-- ---- a step that is a finish which was done
pub finish-is : (step : Step) → is_finish step ≡ true → step ≡ Finish
finish-is (Send from to message) h = absurd (cc)
finish-is (Write by signal value) h = absurd (cc)
finish-is Open h = absurd (cc)
finish-is (Answer node) h = absurd (cc)
finish-is (Leave node) h = absurd (cc)
finish-is (Hurt bytes) h = absurd (cc)
finish-is Finish h = refl
finish-is (Timeout node dir) h = absurd (cc)
finish-is (Switch table) h = absurd (cc)
finish-is AskSleep h = absurd (cc)
finish-is Wake h = absurd (cc)
finish-is (Close host) h = absurd (cc)

-- what adding answers, whatever finish the newest step is
abbrev pub AddsAfter : {X : Type 0} → RuledData → ℕ → Result X MakeFault → RuledData → Type 0
AddsAfter b began r d =
    (by : PortId) → (past : List LogEntry) → (s : Slot) → HasFinished b.core by past s → began ≡ time b.core.cluster past → AddsAfterFinish b (finish_of b.core past by) past r d

finish-made : {X : Type 0} (a b d : RuledData) (by : PortId) (newest : LogEntry) (began : ℕ) (r : Result X MakeFault) → AreAdded a.core ((by, Finish) ∷ []) b.core → b.rules ≡ a.rules
    → newest ≡ slice_index_or b.core.log (length b.core.log - 1) newest → is_some (done newest) ≡ true → began ≡ time a.core.cluster (past_of a.core)
    → AddsAfter b began r d → MakesUnchanged a ((by, Finish) ∷ []) r d
finish-made a b d by newest began r p same new is-done at adds =
    let is : newest ≡ finish_of a.core (past_of a.core) by = newest-past b.core (finish_of a.core (past_of a.core) by) newest (past_of a.core) p.past new in
    let allowed = finish-allowed a.core.cluster a.core.opening a.core.capacity (past_of a.core) by (open_slot (past_of a.core)) (may by Finish) refl refl (rw is at is-done) in
    let fin = has-finished a.core b.core by allowed.0 p allowed.1 allowed.2 in
    finish-added a b d by allowed.0 r p same fin (adds by (past_of a.core) allowed.0 fin (at ∙ ap (λ c. time c (past_of a.core)) (sym p.alike.0)))

pub done-finish : {X : Type 0} (a b d : RuledData) (by : PortId) (step : Step) (newest : LogEntry) (began : ℕ) (r : Result X MakeFault) → is_finish step ≡ true → AreAdded a.core ((by, step) ∷ []) b.core
    → b.rules ≡ a.rules → newest ≡ slice_index_or b.core.log (length b.core.log - 1) newest → is_some (done newest) ≡ true → began ≡ time a.core.cluster (past_of a.core)
    → AddsAfter b began r d → MakesUnchanged a ((by, step) ∷ []) r d
done-finish a b d by step newest began r f p same new is-done at adds =
    let is = finish-is step f in
    rw is (finish-made a b d by newest began r (rw is at p) same new is-done at adds)

-- ---- where no rule is in force
pub unruled-made : (a b : RuledData) (by : PortId) (step : Step) → AreAdded a.core ((by, step) ∷ []) b.core → b.rules ≡ a.rules → b.rules ≡ no_rules → IsMadeSo a ((by, step) ∷ []) b
unruled-made a b by step p same none =
    let before : a.rules ≡ no_rules = sym same ∙ none in
    let adds = no-rule a.core.cluster (entry_with_reply a.core by step) (past_of a.core) in
    let e : LogEntry = entry_with_reply a.core by step in
    let calls = called-nothing a.core.cluster a.core.opening a.core.capacity (e ∷ past_of a.core) [] (is_some (finished_slot e (past_of a.core))) in
    record { course = (let past = p.past in rw (past, none, before, adds.0, adds.1) (sym calls)); alike = p.alike }
