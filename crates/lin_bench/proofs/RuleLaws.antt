-- What rules add, and what they leave alone.
use Rattle.std.proofs.Common.{◌≡◌, ◌∙◌, ◌==◌, ℕ, nat_lt, Bool, true, false, not, ◌&&◌, ◌||◌, List, [], ◌∷◌, ◌++◌, Option, Some, None, ap, filter, map, refl, sym, arith, is_none, is_some, cond}
use Rattle.std.specs.List.{list_any}
use Rattle.std.proofs.lemmas.Grind.{common_steps}
use Rattle.std.proofs.lemmas.List.Folds.{list_any-append}
use Rattle.std.specs.Option.{option_map_or}
use Rattle.lin_parts.specs.declared.parts.Parts.{Parts}
use Rattle.lin_core.specs.History.{events, finished_slot, is_in, time}
use Rattle.lin_core.specs.Runs.{entry_of}
use Rattle.lin_core.specs.declared.event.Event.{Event}
use Rattle.lin_core.specs.declared.event.Event.TheVariants as event
use Rattle.lin_core.specs.declared.log.LogEntry.{LogEntry}
use Rattle.lin_bench.specs.Added.{added_steps, added_after, rules_after_arrivals, rules_after, went_to_all}
use Rattle.lin_core.specs.declared.port.PortId.{PortId}
use Rattle.lin_core.specs.declared.port.PortId.TheVariants.{Bus}
use Rattle.lin_core.specs.declared.reply.Reply.{Reply}
use Rattle.lin_core.specs.declared.step.Step.{Step}
use Rattle.lin_core.specs.declared.step.Step.TheVariants.{Answer, Finish, Leave, Open}
use Rattle.lin_bench.specs.Faults.{changed_steps, disturbed_steps, is_struck, slots_finished, struck, struck_by, target}
use Rattle.lin_bench.specs.Slots.{Course, Way, after_made, called_if, course_after, decision, due_now, leaves, past_after, slot_rest, slot_steps, way}
use Rattle.lin_bench.specs.declared.expected.Condition.{Condition}
use Rattle.lin_bench.specs.declared.expected.Condition.TheVariants as condition
use Rattle.lin_bench.specs.declared.faults.FaultKind.{FaultKind}
use Rattle.lin_bench.specs.declared.faults.ArmedFault.{ArmedFault}
use Rattle.lin_bench.specs.declared.line.Disturbance.TheVariants as slot
use Rattle.lin_bench.specs.declared.rules.Form.{Form}
use Rattle.lin_bench.specs.declared.rules.Rules.{Rules}
use Rattle.lin_bench.specs.declared.rules.Watched.{Watched}
use Rattle.lin_bench.proofs.GivenUp.{none-late}
use Rattle.lin_bench.specs.Made.{course_of, made, steps_said}
use Rattle.lin_bench.specs.Ons.{calls, holds, reaction, reactions_of}
use Rattle.lin_bench.specs.RuleLaws.{AddedByAnyFinish, AddedByHistoryAndRules, NoRuleAddsNothing, NoRuleChangesNothing, OffIsLeave}
use Rattle.lin_bench.specs.Rules.{after_event, after_events, no_rules, rules_after_reaction, rule_for, state_of}
use Rattle.lin_bench.specs.Verdicts.{found, judged_so}

nothing-or : {A : Type 0} (b : Bool) (xs : List A) → xs ≡ [] → cond b xs [] ≡ []
nothing-or true xs e = e
nothing-or false xs e = refl

abbrev pub no_rules_under : List ArmedFault → Rules
no_rules_under faults = record no_rules { faults = faults }

react-nothing : (rules : Rules) (is_to_all : Bool) (t node : ℕ) (message : List ℕ) → rules_after_reaction None is_to_all t rules node message None ≡ rules
react-nothing rules true t node message = refl
react-nothing rules false t node message = refl

same-either : {A : Type 0} (b : Bool) (x y : A) → x ≡ y → cond b x y ≡ y
same-either true x y e = e
same-either false x y e = refl

-- where no rule is in force, events change nothing
abbrev pub HasNoWhens : Rules → Type 0
HasNoWhens rules = rules.whens ≡ []

event-nothing : (rules : Rules) (is_to_all : Bool) (t : ℕ) (e : Event) → HasNoWhens rules → after_event None is_to_all t rules e ≡ rules
event-nothing rules to t (event.Accepted host number) h = refl
event-nothing rules to t (event.Slot table entry header) h = refl
event-nothing rules to t event.Service h = refl
event-nothing rules to t (event.Due node) h = refl
event-nothing rules to t (event.Put node answer) h = refl
event-nothing rules to t (event.Seen how) h = refl
event-nothing rules to t (event.Message from node bytes) h =
    let none = ap (λ ws. rules_after_reaction None to t rules node bytes (rule_for ws node (state_of rules.states node) bytes)) h ∙ react-nothing rules to t node bytes in
    same-either (from == 0 && not (is_in rules.offs node)) (rules_after_reaction None to t rules node bytes (rule_for rules.whens node (state_of rules.states node) bytes)) rules none
event-nothing rules to t (event.Sent host number) h = refl
event-nothing rules to t (event.Lost host number cause) h = refl
event-nothing rules to t event.Asleep h = refl

events-nothing : (rules : Rules) (is_to_all : Bool) (t : ℕ) (es : List Event) → HasNoWhens rules → after_events None is_to_all t rules es ≡ rules
events-nothing rules to t [] h = refl
events-nothing rules to t (e ∷ es) h = ap (λ r. after_events None to t r es) (event-nothing rules to t e h) ∙ events-nothing rules to t es h

arrived-nothing : (c : Parts) (e : LogEntry) (past : List LogEntry) (faults : List ArmedFault) → rules_after_arrivals c e past (no_rules_under faults) ≡ no_rules_under faults
arrived-nothing c e past faults =
    events-nothing (no_rules_under faults) (option_map_or went_to_all (finished_slot e past) false) (time c (e ∷ past)) (events e) refl

after-nothing : (c : Parts) (e : LogEntry) (past : List LogEntry) → added_after c e past no_rules ≡ []
after-nothing c e past = rw (none-late c (e ∷ past) no_rules refl refl, arrived-nothing c e past []) refl

added-nothing : (c : Parts) (e : LogEntry) (past : List LogEntry) → added_steps c e past no_rules ≡ []
added-nothing c e past = nothing-or (is_some (finished_slot e past)) (added_after c e past no_rules) (after-nothing c e past)

same-rules : (c : Parts) (e : LogEntry) (past : List LogEntry) (b : Bool) → is_some (finished_slot e past) ≡ b → rules_after c e past no_rules ≡ no_rules
same-rules c e past true h = rw (h, arrived-nothing c e past []) refl
same-rules c e past false h = rw h refl

pub no-rule : NoRuleAddsNothing
no-rule c e past = (added-nothing c e past, same-rules c e past (is_some (finished_slot e past)) refl)

-- ---- where no rule is in force, under some faults
pub added-under : (c : Parts) (e : LogEntry) (past : List LogEntry) (faults : List ArmedFault) → added_steps c e past (no_rules_under faults) ≡ []
added-under c e past faults = nothing-or (is_some (finished_slot e past)) (added_after c e past (no_rules_under faults)) (rw (none-late c (e ∷ past) (no_rules_under faults) refl refl, arrived-nothing c e past faults) refl)

rules-under-by : (c : Parts) (e : LogEntry) (past : List LogEntry) (faults : List ArmedFault) (b : Bool) → is_some (finished_slot e past) ≡ b
    → rules_after c e past (no_rules_under faults) ≡ no_rules_under faults
rules-under-by c e past faults true h = rw (h, arrived-nothing c e past faults) refl
rules-under-by c e past faults false h = rw h refl

pub rules-under : (c : Parts) (e : LogEntry) (past : List LogEntry) (faults : List ArmedFault) → rules_after c e past (no_rules_under faults) ≡ no_rules_under faults
rules-under c e past faults = rules-under-by c e past faults (is_some (finished_slot e past)) refl

-- and nothing is called for
pub called-nothing : (c : Parts) (o cap : ℕ) (past : List LogEntry) (faults : List ArmedFault) (b : Bool)
    → called_if c o cap b (record { past = past; rules = no_rules_under faults }) ≡ record { past = past; rules = no_rules_under faults }
called-nothing c o cap past faults true = refl
called-nothing c o cap past faults false = refl

pub made-under : (c : Parts) (o cap : ℕ) (past : List LogEntry) (faults : List ArmedFault) (ss : List (PortId × Step))
    → after_made c o cap (record { past = past; rules = no_rules_under faults }) ss ≡ record { past = past_after c o cap past ss; rules = no_rules_under faults }
made-under c o cap past faults [] = refl
made-under c o cap past faults (s ∷ ss) =
    let e : LogEntry = entry_of c o cap past s in
    rw (added-under c e past faults, rules-under c e past faults) (
    ap (λ (at : Course). after_made c o cap at ss) (called-nothing c o cap (e ∷ past) faults (is_some (finished_slot e past)))
    ∙ made-under c o cap (e ∷ past) faults ss
    )

-- no fault changes a step
changed-by-none : (n : ℕ) (t : Option FaultKind) → option_map_or (λ kind. list_any (is_struck n kind) []) t false ≡ false
changed-by-none n None = refl
changed-by-none n (Some kind) = refl

struck-none : (n : ℕ) (t : Option FaultKind) → option_map_or (λ kind. map (struck_by n kind) []) t [] ≡ []
struck-none n None = refl
struck-none n (Some kind) = refl

pub undisturbed : (c : Parts) (cap : ℕ) (past : List LogEntry) (s : PortId × Step) → disturbed_steps c cap [] past s ≡ s ∷ []
undisturbed c cap past s = ap (λ b. cond b (changed_steps s) (s ∷ [])) (changed-by-none (slots_finished past) (target c cap past s))

pub unstruck : (c : Parts) (cap : ℕ) (past : List LogEntry) (s : PortId × Step) → struck c cap [] past s ≡ []
unstruck c cap past s = struck-none (slots_finished past) (target c cap past s)

pub unchanged : NoRuleChangesNothing
unchanged c o cap past [] = refl
unchanged c o cap past (s ∷ ss) =
    let e : LogEntry = entry_of c o cap past s in
    rw (undisturbed c cap past s, unstruck c cap past s, added-nothing c e past, same-rules c e past (is_some (finished_slot e past)) refl) (
    ap (λ (at : Course). course_after c o cap at ss) (called-nothing c o cap (e ∷ past) [] (is_some (finished_slot e past)))
    ∙ unchanged c o cap (e ∷ past) ss
    )

-- one step more that is called for, or isn't
called-too : (b : Bool) (w : Watched) (some others : List Watched) → map reaction some ≡ map reaction others
    → map reaction (cond b (w ∷ some) some) ≡ map reaction (cond b (w ∷ others) others)
called-too true w some others rest = ap (λ l. reaction w ∷ l) rest
called-too false w some others rest = rest

-- no condition sees who gave a step, so no form does
module _ (c : Parts) (by other : PortId) (step : Step) (reply : Reply) (past : List LogEntry) where
  abbrev given_by : PortId → List LogEntry
  given_by port = record { port = port; step = step; reply = reply } ∷ past

  found-alike : (what : Condition) → found c (given_by by) [] what ≡ found c (given_by other) [] what
  unfolding found
  found-alike (condition.Signal node signal value) = refl
  found-alike (condition.SignalWithin node signal low high) = refl
  found-alike (condition.SignalMeans node signal text values) = refl
  found-alike (condition.Waiting host count) = refl
  found-alike (condition.Messages from to low high) = refl
  found-alike (condition.Seen how) = refl
  found-alike (condition.Frame frame pattern) = refl
  found-alike (condition.Slot table entry) = refl
  found-alike (condition.Changed node signal first) = refl

  holds-alike : (f : Form) → holds c (given_by by) f ≡ holds c (given_by other) f
  holds-alike f = ap (λ x. is_none (judged_so f.wanted x)) (found-alike f.what)

  called-alike : (offs : List ℕ) (ws : List Watched) → reactions_of c (given_by by) offs ws ≡ reactions_of c (given_by other) offs ws
  called-alike offs [] = refl
  called-alike offs (w ∷ ws) =
      let rest = called-alike offs ws in
      let some : List Watched = filter (λ v. calls offs v (holds c (given_by by) v.on.form)) ws in
      let others : List Watched = filter (λ v. calls offs v (holds c (given_by other) v.on.form)) ws in
      ap (λ held. map reaction (cond (calls offs w held) (w ∷ some) some)) (holds-alike w.on.form)
      ∙ called-too (calls offs w (holds c (given_by other) w.on.form)) w some others rest

pub any-finish : AddedByAnyFinish
any-finish c by other step reply past rules = (refl, called-alike c by other step reply past rules.offs rules.ons)

pub by-history : AddedByHistoryAndRules
unfolding made steps_said
by-history c o cap a b by step p r =
    let x : nat_lt a.left 0 ≡ false = grind (arith, common_steps) in
    let y : nat_lt b.left 0 ≡ false = grind (arith, common_steps) in
    let steps : List (PortId × Step) = (by, step) ∷ [] in
    let same : course_of a ≡ course_of b = rw (p, r) refl in
    rw (x, y) (
      ap (λ (k : Course). (course_after c o cap k steps).past) same,
      ap (λ (k : Course). (course_after c o cap k steps).rules) same,
    )

-- ---- nodes that are off
or-none : (b : Bool) → (b || false) ≡ b
or-none true = refl
or-none false = refl

abbrev all_left : List ℕ → List ℕ → Way
all_left left offs = way (slot.Leave (left ++ offs)) []

leaves-alike : (left offs : List ℕ) (n : ℕ) → leaves (way (slot.Leave left) offs) n ≡ leaves (all_left left offs) n
leaves-alike left offs n = sym (or-none (is_in (left ++ offs) n) ∙ list_any-append (λ x. x == n) left offs)

decided-alike : (left offs due : List ℕ) → map (decision (way (slot.Leave left) offs)) due ≡ map (decision (all_left left offs)) due
decided-alike left offs [] = refl
decided-alike left offs (n ∷ ns) =
    ap (λ b. (Bus, cond b (Leave n) (Answer n)) ∷ map (decision (way (slot.Leave left) offs)) ns) (leaves-alike left offs n)
    ∙ ap (λ l. decision (all_left left offs) n ∷ l) (decided-alike left offs ns)

rest-alike : (left offs : List ℕ) (due : Option (List ℕ)) → slot_rest (way (slot.Leave left) offs) due ≡ slot_rest (all_left left offs) due
rest-alike left offs None = refl
rest-alike left offs (Some due) = ap (λ l. l ++ (Bus, Finish) ∷ []) (decided-alike left offs due)

pub off-is-leave : OffIsLeave
unfolding slot_steps
off-is-leave c o cap left offs past = ap (λ l. (Bus, Open) ∷ l) (rest-alike left offs (due_now c o cap past))
