-- Before the first slot of each fault, lines come to what they come to undisturbed.
use Rattle.std.proofs.Common.{◌≡◌, ◌∙◌, ℕ, suc, zero, ◌+◌, ◌<◌, ◌==◌, nat_lt, nat_le, Bool, true, false, not, ◌&&◌, ◌||◌, cond, sym, subst, List, [], ◌∷◌, ◌++◌, map, refl, ap, arith, is_some, is_none, length, ◌-◌, All, inl, inr, Option, Some, None}
use Rattle.std.specs.List.{list_any}
use Rattle.std.specs.Option.{option_map_or}
use Rattle.std.proofs.lemmas.Bool.Decides.{nat_tests}
use Rattle.std.proofs.lemmas.Grind.{common_steps}
use Rattle.std.proofs.lemmas.List.Elements.{All-head, All-tail, All-weaker}
use Rattle.lin_parts.specs.Cluster.{nodes}
use Rattle.lin_parts.specs.declared.parts.Parts.{Parts}
use Rattle.lin_core.specs.History.{Slot, events, finished_slot, is_finish, is_in, open_slot, slot_after, time}
use Rattle.lin_core.specs.Replies.{refusal}
use Rattle.lin_core.specs.Runs.{entry_of}
use Rattle.lin_core.specs.declared.event.Event.{Event}
use Rattle.lin_core.specs.declared.event.Event.TheVariants as event
use Rattle.lin_core.specs.declared.log.LogEntry.{LogEntry}
use Rattle.lin_core.specs.declared.port.PortId.{PortId}
use Rattle.lin_core.specs.declared.reply.Reply.{Reply}
use Rattle.lin_core.specs.declared.reply.Reply.TheVariants.{Done, Refused}
use Rattle.lin_core.specs.declared.step.Step.{Step}
use Rattle.lin_core.specs.declared.step.Step.TheVariants.{Send, Write, Open, Answer, Leave, Hurt, Finish, Timeout, Switch, AskSleep, Wake, Close}
use Rattle.lin_bench.specs.Added.{added_steps, rules_after_arrivals, rules_after, went_to_all}
use Rattle.lin_bench.specs.FaultLaws.{IsAlikeBefore, IsBefore, with_faults}
use Rattle.lin_bench.specs.Faults.{disturbed_steps, is_for, is_struck, slots_finished, struck, target}
use Rattle.lin_bench.specs.Made.{BenchState, expected_begun, bench_after_steps, bench_with_verdict, comes, course_of, expected_after, fails, made, made_within, never_ends, rule_verdict, steps_said}
use Rattle.lin_bench.specs.Ons.{begun_rule, reactions}
use Rattle.lin_bench.specs.Rules.{after_event, after_events, rules_after_reaction, rule_for, ruled, serving, state_of}
use Rattle.lin_bench.specs.Slots.{Course, course_after, after_made, due_now, extent_steps, goes_on, called_if, first_added, is_opened, most, goes_on_until, past_after, slot_steps, ended_slot_count, slots_steps, way, with_entry, with_struck}
use Rattle.lin_bench.specs.declared.expected.Expected.{Expected}
use Rattle.lin_bench.specs.declared.faults.FaultKind.{FaultKind}
use Rattle.lin_bench.specs.declared.faults.ArmedFault.{ArmedFault}
use Rattle.lin_bench.specs.declared.got.Verdict.{Verdict}
use Rattle.lin_bench.specs.declared.got.Verdict.TheVariants.{SlotLimit}
use Rattle.lin_bench.specs.declared.line.Disturbance.{Disturbance}
use Rattle.lin_bench.specs.declared.line.Disturbance.TheVariants as slot
use Rattle.lin_bench.specs.declared.line.Extent.{Extent}
use Rattle.lin_bench.specs.declared.line.Extent.TheVariants.{Count, Milliseconds, Idle}
use Rattle.lin_bench.specs.declared.line.ScriptLine.{ScriptLine}
use Rattle.lin_bench.specs.declared.line.ScriptLine.TheVariants as line
use Rattle.lin_bench.specs.declared.rules.Rule.{Rule}
use Rattle.lin_bench.specs.declared.rules.Rule.TheVariants as rule
use Rattle.lin_bench.specs.declared.rules.Rules.{Rules}
use Rattle.lin_bench.specs.declared.rules.When.{When}
use Rattle.lin_bench.proofs.FaultSteps.{none-struck}
use Rattle.lin_bench.proofs.Makes.{after-append, after_one}
use Rattle.lin_bench.proofs.RuleLaws.{undisturbed, unstruck}
use Rattle.lin_bench.proofs.SlotSteps.{one-slot, slots_in-append}

-- a course under other faults
abbrev under : List ArmedFault → Course → Course
under fs at = record at { rules = record at.rules { faults = fs } }

-- ---- a fault whose first slot wasn't opened changes no step
out-of : (n : ℕ) (f : ArmedFault) → n < f.fault.first → is_for f.fault n ≡ false
out-of n f h = let no : nat_le f.fault.first n ≡ false = grind (arith, nat_tests) in rw no refl

none-for : (past : List LogEntry) (f : ArmedFault) (s : Slot) → open_slot past ≡ Some s → IsBefore past f → is_for f.fault (slots_finished past) ≡ false
none-for past f s is (inl h) = out-of (slots_finished past) f h
none-for past f s is (inr h) = let no : None ≡ Some s = sym h.1 ∙ is in absurd (cc)

none-any : (past : List LogEntry) (kind : FaultKind) (fs : List ArmedFault) (s : Slot) → open_slot past ≡ Some s → All (IsBefore past) fs
    → list_any (is_struck (slots_finished past) kind) fs ≡ false
none-any past kind [] s is h = refl
none-any past kind (f ∷ fs) s is h =
    let no = none-for past f s is (All-head (IsBefore past) f fs h) in rw no (none-any past kind fs s is (All-tail (IsBefore past) f fs h))

-- only steps in an open slot can be changed
answer-refused : (c : Parts) (cap : ℕ) (past : List LogEntry) (by : PortId) (n : ℕ) (b : Bool) → open_slot past ≡ None → nat_le (nodes c) n ≡ b
    → is_none (refusal c cap past by (Answer n)) ≡ false
answer-refused c cap past by n true h k = rw k refl
answer-refused c cap past by n false h k = rw (k, h) refl

target-open : (c : Parts) (cap : ℕ) (past : List LogEntry) (by : PortId) (step : Step) (kind : FaultKind) (o : Option Slot) → open_slot past ≡ o
    → target c cap past (by, step) ≡ Some kind → (s : Slot) × (open_slot past ≡ Some s)
target-open c cap past by step kind (Some s) h t = (s, h)
target-open c cap past by (Answer n) kind None h t =
    let no : None ≡ Some kind = rw (answer-refused c cap past by n (nat_le (nodes c) n) h refl) at t in absurd (cc)
target-open c cap past by Finish kind None h t = let no : None ≡ Some kind = rw h at t in absurd (cc)
target-open c cap past by (Send from to message) kind None h t = absurd (cc)
target-open c cap past by (Write at signal value) kind None h t = absurd (cc)
target-open c cap past by Open kind None h t = absurd (cc)
target-open c cap past by (Leave n) kind None h t = absurd (cc)
target-open c cap past by (Hurt bytes) kind None h t = absurd (cc)
target-open c cap past by (Timeout node dir) kind None h t = absurd (cc)
target-open c cap past by (Switch table) kind None h t = absurd (cc)
target-open c cap past by AskSleep kind None h t = absurd (cc)
target-open c cap past by Wake kind None h t = absurd (cc)
target-open c cap past by (Close host) kind None h t = absurd (cc)

quiet : (c : Parts) (cap : ℕ) (fs : List ArmedFault) (past : List LogEntry) (s : PortId × Step) (t : Option FaultKind) → All (IsBefore past) fs → target c cap past s ≡ t
    → (disturbed_steps c cap fs past s ≡ s ∷ []) × (struck c cap fs past s ≡ fs)
quiet c cap fs past s None before h = (rw h refl, rw h refl)
quiet c cap fs past s (Some kind) before h =
    let is = target-open c cap past s.0 s.1 kind (open_slot past) refl h in
    let no = none-any past kind fs is.0 is.1 before in
    (rw (h, no) refl, rw h (none-struck (slots_finished past) kind fs no))

-- ---- what comes after an entry is after what comes before it
stays-by : (d : Option Step) (es : List Event) (past : List LogEntry) (s : Slot) → open_slot past ≡ Some s
    → option_map_or (λ step. cond (is_finish step) (open_slot past) None) d None ≡ None
    → is_some (option_map_or (λ step. slot_after step es (open_slot past)) d (open_slot past)) ≡ true
stays-by None es past s h k = rw h refl
stays-by (Some Finish) es past s h k = let no : Some s ≡ None = sym h ∙ k in absurd (cc)
stays-by (Some Open) es past s h k = refl
stays-by (Some (Send from to message)) es past s h k = rw h refl
stays-by (Some (Write at signal value)) es past s h k = rw h refl
stays-by (Some (Answer n)) es past s h k = rw h refl
stays-by (Some (Leave n)) es past s h k = rw h refl
stays-by (Some (Hurt bytes)) es past s h k = rw h refl
stays-by (Some (Timeout node dir)) es past s h k = rw h refl
stays-by (Some (Switch table)) es past s h k = rw h refl
stays-by (Some AskSleep) es past s h k = rw h refl
stays-by (Some Wake) es past s h k = rw h refl
stays-by (Some (Close host)) es past s h k = rw h refl

stays-open : (by : PortId) (step : Step) (r : Reply) (past : List LogEntry) (s : Slot) → open_slot past ≡ Some s
    → finished_slot (record { port = by; step = step; reply = r }) past ≡ None → is_some (open_slot (record { port = by; step = step; reply = r } ∷ past)) ≡ true
stays-open by step (Done es) past s h k = stays-by (Some step) es past s h k
stays-open by step (Refused why) past s h k = rw h refl

before-by : (e : LogEntry) (past : List LogEntry) (f : ArmedFault) (fin o : Option Slot) → finished_slot e past ≡ fin → open_slot past ≡ o → IsBefore (e ∷ past) f → IsBefore past f
before-by e past f (Some s) o h k (inl lt) = let l : suc (slots_finished past) < f.fault.first = rw h at lt in inl (omega (arith, l))
before-by e past f (Some s) o h k (inr is) = let l : suc (slots_finished past) ≡ f.fault.first = rw h at is.0 in inl (omega (arith, l))
before-by e past f None o h k (inl lt) = inl (rw h at lt)
before-by e past f None None h k (inr is) = inr (rw h at is.0, k)
before-by e past f None (Some s) h k (inr is) =
    let no : false ≡ true = sym (ap is_some is.1) ∙ stays-open e.port e.step e.reply past s k h in absurd (cc)

before-entry : (e : LogEntry) (past : List LogEntry) (fs : List ArmedFault) → All (IsBefore (e ∷ past)) fs → All (IsBefore past) fs
before-entry e past fs h = All-weaker (IsBefore (e ∷ past)) (IsBefore past) (λ f k. before-by e past f (finished_slot e past) (open_slot past) refl refl k) fs h

before-past : (c : Parts) (o cap : ℕ) (past : List LogEntry) (ss : List (PortId × Step)) (fs : List ArmedFault) → All (IsBefore (past_after c o cap past ss)) fs → All (IsBefore past) fs
before-past c o cap past [] fs h = h
before-past c o cap past (s ∷ ss) fs h =
    let e : LogEntry = entry_of c o cap past s in before-entry e past fs (before-past c o cap (e ∷ past) ss fs h)

before-called : (c : Parts) (o cap : ℕ) (b : Bool) (at : Course) (fs : List ArmedFault) → All (IsBefore (called_if c o cap b at).past) fs → All (IsBefore at.past) fs
before-called c o cap true at fs h = before-past c o cap at.past (reactions c at.past at.rules) fs h
before-called c o cap false at fs h = h

before-with : (c : Parts) (o cap : ℕ) (at : Course) (e : LogEntry) (fs : List ArmedFault) → All (IsBefore (with_entry c o cap at e).past) fs → All (IsBefore at.past) fs
before-with c o cap at e fs h =
    before-entry e at.past fs
    (before-past c o cap (e ∷ at.past) (added_steps c e at.past at.rules) fs
    (before-called c o cap (is_some (finished_slot e at.past)) (first_added c o cap at e) fs h))

before-made : (c : Parts) (o cap : ℕ) (at : Course) (ss : List (PortId × Step)) (fs : List ArmedFault) → All (IsBefore (after_made c o cap at ss).past) fs → All (IsBefore at.past) fs
before-made c o cap at [] fs h = h
before-made c o cap at (s ∷ ss) fs h =
    let e : LogEntry = entry_of c o cap at.past s in before-with c o cap at e fs (before-made c o cap (with_entry c o cap at e) ss fs h)

before-after : (c : Parts) (o cap : ℕ) (at : Course) (ss : List (PortId × Step)) (fs : List ArmedFault) → All (IsBefore (course_after c o cap at ss).past) fs → All (IsBefore at.past) fs
before-after c o cap at [] fs h = h
before-after c o cap at (s ∷ ss) fs h =
    before-made c o cap (with_struck c cap at s) (disturbed_steps c cap at.rules.faults at.past s) fs (before-after c o cap (after_one c o cap at s) ss fs h)

-- ---- rules and faults don't know of each other
reacted-under : (served : Option Parts) (to : Bool) (t : ℕ) (rules : Rules) (fs : List ArmedFault) (node : ℕ) (message : List ℕ) (w : Option When)
    → rules_after_reaction served to t (record rules { faults = fs }) node message w ≡ record (rules_after_reaction served to t rules node message w) { faults = fs }
reacted-under served to t rules fs node message None = refl
reacted-under served to t rules fs node message (Some w) = refl

either-under : (b : Bool) (x y : Rules) (rules : Rules) (fs : List ArmedFault) → x ≡ record y { faults = fs } → cond b x (record rules { faults = fs }) ≡ record (cond b y rules) { faults = fs }
either-under true x y rules fs e = e
either-under false x y rules fs e = refl

event-under : (served : Option Parts) (to : Bool) (t : ℕ) (rules : Rules) (fs : List ArmedFault) (e : Event)
    → after_event served to t (record rules { faults = fs }) e ≡ record (after_event served to t rules e) { faults = fs }
event-under served to t rules fs (event.Accepted host number) = refl
event-under served to t rules fs (event.Slot table entry header) = refl
event-under served to t rules fs event.Service = refl
event-under served to t rules fs (event.Due node) = refl
event-under served to t rules fs (event.Put node answer) = refl
event-under served to t rules fs (event.Seen how) = refl
event-under served to t rules fs (event.Message from node bytes) =
    let w : Option When = rule_for rules.whens node (state_of rules.states node) bytes in
    either-under (from == 0 && not (is_in rules.offs node)) _ (rules_after_reaction served to t rules node bytes w) rules fs (reacted-under served to t rules fs node bytes w)
event-under served to t rules fs (event.Sent host number) = refl
event-under served to t rules fs (event.Lost host number cause) = refl
event-under served to t rules fs event.Asleep = refl

events-under : (served : Option Parts) (to : Bool) (t : ℕ) (rules : Rules) (fs : List ArmedFault) (es : List Event)
    → after_events served to t (record rules { faults = fs }) es ≡ record (after_events served to t rules es) { faults = fs }
events-under served to t rules fs [] = refl
events-under served to t rules fs (e ∷ es) =
    ap (λ r. after_events served to t r es) (event-under served to t rules fs e) ∙ events-under served to t (after_event served to t rules e) fs es

arrived-under : (c : Parts) (e : LogEntry) (past : List LogEntry) (rules : Rules) (fs : List ArmedFault)
    → rules_after_arrivals c e past (record rules { faults = fs }) ≡ record (rules_after_arrivals c e past rules) { faults = fs }
arrived-under c e past rules fs =
    events-under (serving c rules.services) (option_map_or went_to_all (finished_slot e past) false) (time c (e ∷ past)) rules fs (events e)

added-same : (c : Parts) (e : LogEntry) (past : List LogEntry) (rules : Rules) (fs : List ArmedFault) → added_steps c e past (record rules { faults = fs }) ≡ added_steps c e past rules
added-same c e past rules fs = rw (arrived-under c e past rules fs) refl

rules-under : (c : Parts) (e : LogEntry) (past : List LogEntry) (rules : Rules) (fs : List ArmedFault) (b : Bool) → is_some (finished_slot e past) ≡ b
    → rules_after c e past (record rules { faults = fs }) ≡ record (rules_after c e past rules) { faults = fs }
rules-under c e past rules fs true h = rw (h, arrived-under c e past rules fs) refl
rules-under c e past rules fs false h = rw h refl

first-under : (c : Parts) (o cap : ℕ) (at : Course) (e : LogEntry) (fs : List ArmedFault) → first_added c o cap (under fs at) e ≡ under fs (first_added c o cap at e)
first-under c o cap at e fs =
    let past : List LogEntry = past_after c o cap (e ∷ at.past) (added_steps c e at.past at.rules) in
    ap (λ (ss : List (PortId × Step)). record { past = past_after c o cap (e ∷ at.past) ss; rules = rules_after c e at.past (record at.rules { faults = fs }) }) (added-same c e at.past at.rules fs)
    ∙ ap (λ (r : Rules). record { past = past; rules = r }) (rules-under c e at.past at.rules fs (is_some (finished_slot e at.past)) refl)

called-under : (c : Parts) (o cap : ℕ) (b : Bool) (at : Course) (fs : List ArmedFault) → called_if c o cap b (under fs at) ≡ under fs (called_if c o cap b at)
called-under c o cap true at fs = refl
called-under c o cap false at fs = refl

entry-under : (c : Parts) (o cap : ℕ) (at : Course) (e : LogEntry) (fs : List ArmedFault) → with_entry c o cap (under fs at) e ≡ under fs (with_entry c o cap at e)
entry-under c o cap at e fs =
    ap (called_if c o cap (is_some (finished_slot e at.past))) (first-under c o cap at e fs)
    ∙ called-under c o cap (is_some (finished_slot e at.past)) (first_added c o cap at e) fs

free-called : (c : Parts) (o cap : ℕ) (b : Bool) (at : Course) → at.rules.faults ≡ [] → (called_if c o cap b at).rules.faults ≡ []
free-called c o cap true at h = h
free-called c o cap false at h = h

free-rules : (c : Parts) (e : LogEntry) (past : List LogEntry) (rules : Rules) (b : Bool) → is_some (finished_slot e past) ≡ b → rules.faults ≡ []
    → (rules_after c e past rules).faults ≡ []
free-rules c e past rules true h none = rw h (ap (λ (r : Rules). r.faults) (arrived-under c e past rules rules.faults) ∙ none)
free-rules c e past rules false h none = rw h none

ruled-under : (t : ℕ) (rules : Rules) (fs : List ArmedFault) (r : Rule) → ruled t (record rules { faults = fs }) r ≡ record (ruled t (record rules { faults = [] }) r) { faults = fs }
unfolding ruled
ruled-under t rules fs (rule.When w) = refl
ruled-under t rules fs rule.WhenOff = refl
ruled-under t rules fs (rule.Timeouts ms) = refl
ruled-under t rules fs rule.TimeoutsOff = refl
ruled-under t rules fs (rule.Every every) = refl
ruled-under t rules fs rule.EveryOff = refl
ruled-under t rules fs (rule.Errors on) = refl
ruled-under t rules fs (rule.Services on) = refl
ruled-under t rules fs (rule.End e) = refl
ruled-under t rules fs (rule.State node name) = refl
ruled-under t rules fs (rule.TimeoutsOf node limit) = refl
ruled-under t rules fs (rule.TimeoutsLdf limits) = refl
ruled-under t rules fs (rule.On w) = refl
ruled-under t rules fs rule.OnOff = refl
ruled-under t rules fs (rule.Power node true) = refl
ruled-under t rules fs (rule.Power node false) = refl

verdict-under : (rules : Rules) (fs : List ArmedFault) (r : Rule) → rule_verdict (record rules { faults = fs }) r ≡ rule_verdict (record rules { faults = [] }) r
verdict-under rules fs (rule.End e) = refl
verdict-under rules fs r = refl

-- ---- steps
quiet-one : (c : Parts) (o cap : ℕ) (at : Course) (s : PortId × Step) → disturbed_steps c cap at.rules.faults at.past s ≡ s ∷ [] → struck c cap at.rules.faults at.past s ≡ at.rules.faults
    → after_one c o cap at s ≡ with_entry c o cap at (entry_of c o cap at.past s)
quiet-one c o cap at s d t =
    ap (λ (l : List (PortId × Step)). after_made c o cap (with_struck c cap at s) l) d
    ∙ ap (λ (fs : List ArmedFault). after_made c o cap (under fs at) (s ∷ [])) t

free-one : (c : Parts) (o cap : ℕ) (at : Course) (s : PortId × Step) → at.rules.faults ≡ [] → after_one c o cap at s ≡ with_entry c o cap at (entry_of c o cap at.past s)
free-one c o cap at s free =
    quiet-one c o cap at s
    (ap (λ (fs : List ArmedFault). disturbed_steps c cap fs at.past s) free ∙ undisturbed c cap at.past s)
    (ap (λ (fs : List ArmedFault). struck c cap fs at.past s) free ∙ unstruck c cap at.past s ∙ sym free)

alike-after : (c : Parts) (o cap : ℕ) (at : Course) (fs : List ArmedFault) (ss : List (PortId × Step)) → at.rules.faults ≡ [] → All (IsBefore (course_after c o cap at ss).past) fs
    → (course_after c o cap (under fs at) ss ≡ under fs (course_after c o cap at ss)) × ((course_after c o cap at ss).rules.faults ≡ [])
alike-after c o cap at fs [] free h = (refl, free)
alike-after c o cap at fs (s ∷ ss) free h =
    let e : LogEntry = entry_of c o cap at.past s in
    let then : Course = with_entry c o cap at e in
    let calm : after_one c o cap at s ≡ then = free-one c o cap at s free in
    let there : All (IsBefore (course_after c o cap then ss).past) fs = subst (λ (k : Course). All (IsBefore (course_after c o cap k ss).past) fs) calm h in
    let now : All (IsBefore at.past) fs = before-with c o cap at e fs (before-after c o cap then ss fs there) in
    let no = quiet c cap fs at.past s (target c cap at.past s) now refl in
    let one : after_one c o cap (under fs at) s ≡ under fs then = quiet-one c o cap (under fs at) s no.0 no.1 ∙ entry-under c o cap at e fs in
    let finishes = is_some (finished_slot e at.past) in
    let more = alike-after c o cap then fs ss (free-called c o cap finishes (first_added c o cap at e) (free-rules c e at.past at.rules finishes refl free)) there in (
      ap (λ (k : Course). course_after c o cap k ss) one ∙ more.0 ∙ ap (λ (k : Course). under fs (course_after c o cap k ss)) (sym calm),
      ap (λ (k : Course). (course_after c o cap k ss).rules.faults) calm ∙ more.1,
    )

-- ---- slots
-- a test that doesn't look at faults
abbrev IsBlind : List ArmedFault → (Course → Bool) → Type 0
IsBlind fs goes = (at : Course) → goes (under fs at) ≡ goes at

goes-alike : (c : Parts) (extent : Extent) (began : ℕ) (fs : List ArmedFault) → IsBlind fs (goes_on c extent began)
goes-alike c (Count n) began fs at = refl
goes-alike c (Milliseconds n) began fs at = refl
goes-alike c (Idle n) began fs at = refl

more-alike : (c : Parts) (extent : Extent) (ends : Course → Bool) (began : ℕ) (fs : List ArmedFault) → IsBlind fs ends → IsBlind fs (goes_on_until c extent ends began)
more-alike c extent ends began fs same at =
    ap (λ (b : Bool). b && not (ends (under fs at))) (goes-alike c extent began fs at)
    ∙ ap (λ (b : Bool). goes_on c extent began at && not b) (same at)

slots-turn : (c : Parts) (o cap : ℕ) (how : Disturbance) (goes : Course → Bool) (n : ℕ) (at : Course) (fs : List ArmedFault) (goes_now opened : Bool)
    → goes at ≡ goes_now → is_opened (due_now c o cap at.past) ≡ opened → IsBlind fs goes → at.rules.faults ≡ []
    → ((k : Course) → k.rules.faults ≡ [] → All (IsBefore (course_after c o cap k (slots_steps c o cap how goes n k)).past) fs
    → slots_steps c o cap how goes n (under fs k) ≡ slots_steps c o cap how goes n k)
    → All (IsBefore (course_after c o cap at (slots_steps c o cap how goes (suc n) at)).past) fs
    → slots_steps c o cap how goes (suc n) (under fs at) ≡ slots_steps c o cap how goes (suc n) at
unfolding slots_steps
slots-turn c o cap how goes n at fs false opened h i same free more before = rw (same at ∙ h, h) refl
slots-turn c o cap how goes n at fs true false h i same free more before = rw (same at ∙ h, h, i) refl
slots-turn c o cap how goes n at fs true true h i same free more before =
    let one : List (PortId × Step) = slot_steps c o cap (way how at.rules.offs) at.past in
    let then : Course = course_after c o cap at one in
    let rest : List (PortId × Step) = slots_steps c o cap how goes n then in
    let all : All (IsBefore (course_after c o cap at (one ++ rest)).past) fs = rw (h, i) at before in
    let there : All (IsBefore (course_after c o cap then rest).past) fs = subst (λ (k : Course). All (IsBefore k.past) fs) (after-append c o cap at one rest) all in
    let now = alike-after c o cap at fs one free (before-after c o cap then rest fs there) in
    let same_rest : slots_steps c o cap how goes n (course_after c o cap (under fs at) one) ≡ rest =
    ap (λ (k : Course). slots_steps c o cap how goes n k) now.0 ∙ more then now.1 there in
    rw (same at ∙ h, h, i) (ap (λ (l : List (PortId × Step)). one ++ l) same_rest)

slots-alike : (c : Parts) (o cap : ℕ) (how : Disturbance) (goes : Course → Bool) (n : ℕ) (at : Course) (fs : List ArmedFault) → IsBlind fs goes → at.rules.faults ≡ []
    → All (IsBefore (course_after c o cap at (slots_steps c o cap how goes n at)).past) fs
    → slots_steps c o cap how goes n (under fs at) ≡ slots_steps c o cap how goes n at
unfolding slots_steps
slots-alike c o cap how goes zero at fs same free before = refl
slots-alike c o cap how goes (suc n) at fs same free before =
    slots-turn c o cap how goes n at fs (goes at) (is_opened (due_now c o cap at.past)) refl refl same free
    (λ k is there. slots-alike c o cap how goes n k fs same is there) before

-- whether there are more slots than a number, where all of these are before
count-more : (one rest : List (PortId × Step)) → ended_slot_count one ≡ 1 → ended_slot_count (one ++ rest) ≡ suc (ended_slot_count rest)
count-more one rest h = omega (arith, slots_in-append one rest, h)

both-more : (m n : ℕ) → nat_lt (suc m) (suc n) ≡ nat_lt m n
both-more m n = grind (arith, nat_tests)

some-more : (n : ℕ) → nat_lt 0 (suc n) ≡ true
some-more n = grind (arith, nat_tests)

more-turn : (c : Parts) (o cap : ℕ) (how : Disturbance) (goes : Course → Bool) (m n : ℕ) (at : Course) (fs : List ArmedFault) (goes_now opened : Bool)
    → goes at ≡ goes_now → is_opened (due_now c o cap at.past) ≡ opened → IsBlind fs goes → at.rules.faults ≡ []
    → ((k : Course) → k.rules.faults ≡ [] → All (IsBefore (course_after c o cap k (slots_steps c o cap how goes m k)).past) fs
    → nat_lt m (ended_slot_count (slots_steps c o cap how goes n (under fs k))) ≡ nat_lt m (ended_slot_count (slots_steps c o cap how goes n k)))
    → All (IsBefore (course_after c o cap at (slots_steps c o cap how goes (suc m) at)).past) fs
    → nat_lt (suc m) (ended_slot_count (slots_steps c o cap how goes (suc n) (under fs at))) ≡ nat_lt (suc m) (ended_slot_count (slots_steps c o cap how goes (suc n) at))
unfolding slots_steps
more-turn c o cap how goes m n at fs false opened h i same free more before = rw (same at ∙ h, h) refl
more-turn c o cap how goes m n at fs true false h i same free more before = rw (same at ∙ h, h, i) refl
more-turn c o cap how goes m n at fs true true h i same free more before =
    let one : List (PortId × Step) = slot_steps c o cap (way how at.rules.offs) at.past in
    let then : Course = course_after c o cap at one in
    let rest : List (PortId × Step) = slots_steps c o cap how goes m then in
    let all : All (IsBefore (course_after c o cap at (one ++ rest)).past) fs = rw (h, i) at before in
    let there : All (IsBefore (course_after c o cap then rest).past) fs = subst (λ (k : Course). All (IsBefore k.past) fs) (after-append c o cap at one rest) all in
    let now = alike-after c o cap at fs one free (before-after c o cap then rest fs there) in
    let ends = one-slot c o cap (way how at.rules.offs) at.past i in
    let under_fs : List (PortId × Step) = slots_steps c o cap how goes n (course_after c o cap (under fs at) one) in
    let calm : List (PortId × Step) = slots_steps c o cap how goes n then in
    rw (same at ∙ h, h, i)
    (ap (λ (k : ℕ). nat_lt (suc m) k) (count-more one under_fs ends) ∙ both-more m (ended_slot_count under_fs)
    ∙ ap (λ (k : Course). nat_lt m (ended_slot_count (slots_steps c o cap how goes n k))) now.0 ∙ more then now.1 there
    ∙ sym (both-more m (ended_slot_count calm)) ∙ sym (ap (λ (k : ℕ). nat_lt (suc m) k) (count-more one calm ends)))

first-turn : (c : Parts) (o cap : ℕ) (how : Disturbance) (goes : Course → Bool) (n : ℕ) (at : Course) (fs : List ArmedFault) (goes_now opened : Bool)
    → goes at ≡ goes_now → is_opened (due_now c o cap at.past) ≡ opened → IsBlind fs goes
    → nat_lt 0 (ended_slot_count (slots_steps c o cap how goes (suc n) (under fs at))) ≡ nat_lt 0 (ended_slot_count (slots_steps c o cap how goes (suc n) at))
unfolding slots_steps
first-turn c o cap how goes n at fs false opened h i same = rw (same at ∙ h, h) refl
first-turn c o cap how goes n at fs true false h i same = rw (same at ∙ h, h, i) refl
first-turn c o cap how goes n at fs true true h i same =
    let one : List (PortId × Step) = slot_steps c o cap (way how at.rules.offs) at.past in
    let ends = one-slot c o cap (way how at.rules.offs) at.past i in
    let under_fs : List (PortId × Step) = slots_steps c o cap how goes n (course_after c o cap (under fs at) one) in
    let calm : List (PortId × Step) = slots_steps c o cap how goes n (course_after c o cap at one) in
    rw (same at ∙ h, h, i)
    (ap (λ (k : ℕ). nat_lt 0 k) (count-more one under_fs ends) ∙ some-more (ended_slot_count under_fs)
    ∙ sym (some-more (ended_slot_count calm)) ∙ sym (ap (λ (k : ℕ). nat_lt 0 k) (count-more one calm ends)))

count-alike : (c : Parts) (o cap : ℕ) (how : Disturbance) (goes : Course → Bool) (m n : ℕ) (at : Course) (fs : List ArmedFault) → IsBlind fs goes → at.rules.faults ≡ []
    → All (IsBefore (course_after c o cap at (slots_steps c o cap how goes m at)).past) fs
    → nat_lt m (ended_slot_count (slots_steps c o cap how goes n (under fs at))) ≡ nat_lt m (ended_slot_count (slots_steps c o cap how goes n at))
unfolding slots_steps
count-alike c o cap how goes m zero at fs same free before = refl
count-alike c o cap how goes zero (suc n) at fs same free before =
    first-turn c o cap how goes n at fs (goes at) (is_opened (due_now c o cap at.past)) refl refl same
count-alike c o cap how goes (suc m) (suc n) at fs same free before =
    more-turn c o cap how goes m n at fs (goes at) (is_opened (due_now c o cap at.past)) refl refl same free
    (λ k is there. count-alike c o cap how goes m n k fs same is there) before

-- ---- lines
judged-past : (c : Parts) (o : ℕ) (b : BenchState) (what : Option Expected) → (bench_with_verdict c o b what).0.past ≡ b.past
judged-past c o b None = refl
judged-past c o b (Some what) = refl

judged-alike : (c : Parts) (o : ℕ) (b : BenchState) (fs : List ArmedFault) (what : Option Expected)
    → bench_with_verdict c o (with_faults fs b) what ≡ (with_faults fs (bench_with_verdict c o b what).0, (bench_with_verdict c o b what).1)
judged-alike c o b fs None = refl
judged-alike c o b fs (Some what) = refl

stepped-alike : (c : Parts) (o cap : ℕ) (b : BenchState) (fs : List ArmedFault) (count : ℕ) (steps : List (PortId × Step))
    → All (IsBefore (bench_after_steps c o cap (with_faults [] b) count steps).past) fs
    → bench_after_steps c o cap (with_faults fs b) count steps ≡ with_faults fs (bench_after_steps c o cap (with_faults [] b) count steps)
stepped-alike c o cap b fs count steps before =
    ap (λ (at : Course). record b { past = at.past; rules = at.rules; left = b.left - count })
    (alike-after c o cap (course_of (with_faults [] b)) fs steps refl before).0

-- the steps of a line of slots, of at most n
abbrev of_slots : Parts → ℕ → ℕ → Disturbance → Extent → (Course → Bool) → BenchState → ℕ → List (PortId × Step)
of_slots c o cap how extent ends b n = extent_steps c o cap how extent ends n (course_of b)

slots-line : (c : Parts) (o cap : ℕ) (b : BenchState) (fs : List ArmedFault) (how : Disturbance) (extent : Extent) (ends : Course → Bool) (what : Option Expected) (t : Bool)
    → IsBlind fs ends → nat_lt b.left (ended_slot_count (of_slots c o cap how extent ends (with_faults [] b) (most extent))) ≡ t
    → All (IsBefore (made_within c o cap (with_faults [] b) (ended_slot_count (of_slots c o cap how extent ends (with_faults [] b) (most extent))) (of_slots c o cap how extent ends (with_faults [] b) (most extent)) (of_slots c o cap how extent ends (with_faults [] b) b.left) what).0.past) fs
    → made_within c o cap (with_faults fs b) (ended_slot_count (of_slots c o cap how extent ends (with_faults fs b) (most extent))) (of_slots c o cap how extent ends (with_faults fs b) (most extent)) (of_slots c o cap how extent ends (with_faults fs b) b.left) what
    ≡ (
      with_faults fs (made_within c o cap (with_faults [] b) (ended_slot_count (of_slots c o cap how extent ends (with_faults [] b) (most extent))) (of_slots c o cap how extent ends (with_faults [] b) (most extent)) (of_slots c o cap how extent ends (with_faults [] b) b.left) what).0,
      (made_within c o cap (with_faults [] b) (ended_slot_count (of_slots c o cap how extent ends (with_faults [] b) (most extent))) (of_slots c o cap how extent ends (with_faults [] b) (most extent)) (of_slots c o cap how extent ends (with_faults [] b) b.left) what).1,
    )
unfolding extent_steps
slots-line c o cap b fs how extent ends what true same h before =
    let calm : Course = course_of (with_faults [] b) in
    let goes : Course → Bool = goes_on_until c extent ends (time c b.past) in
    let blind : IsBlind fs goes = more-alike c extent ends (time c b.past) fs same in
    let first : List (PortId × Step) = slots_steps c o cap how goes b.left calm in
    let there : All (IsBefore (bench_after_steps c o cap (with_faults [] b) b.left first).past) fs = rw h at before in
    let firsts = slots-alike c o cap how goes b.left calm fs blind refl there in
    let over = count-alike c o cap how goes b.left (most extent) calm fs blind refl there ∙ h in
    rw (over, h, firsts) (ap (λ (k : BenchState). (k, SlotLimit)) (stepped-alike c o cap b fs b.left first there))
slots-line c o cap b fs how extent ends what false same h before =
    let calm : Course = course_of (with_faults [] b) in
    let goes : Course → Bool = goes_on_until c extent ends (time c b.past) in
    let blind : IsBlind fs goes = more-alike c extent ends (time c b.past) fs same in
    let all : List (PortId × Step) = slots_steps c o cap how goes (most extent) calm in
    let end : BenchState = bench_after_steps c o cap (with_faults [] b) (ended_slot_count all) all in
    let judged_there : All (IsBefore (bench_with_verdict c o end what).0.past) fs = rw h at before in
    let there : All (IsBefore end.past) fs = subst (λ (past : List LogEntry). All (IsBefore past) fs) (judged-past c o end what) judged_there in
    let same_all = slots-alike c o cap how goes (most extent) calm fs blind refl there in
    rw (same_all, h) (ap (λ (k : BenchState). bench_with_verdict c o k what) (stepped-alike c o cap b fs (ended_slot_count all) all there) ∙ judged-alike c o end fs what)

step-line : (c : Parts) (o cap : ℕ) (b : BenchState) (fs : List ArmedFault) (steps : List (PortId × Step)) (what : Option Expected)
    → All (IsBefore (made_within c o cap (with_faults [] b) 0 steps steps what).0.past) fs
    → made_within c o cap (with_faults fs b) 0 steps steps what
    ≡ (with_faults fs (made_within c o cap (with_faults [] b) 0 steps steps what).0, (made_within c o cap (with_faults [] b) 0 steps steps what).1)
step-line c o cap b fs steps what before =
    let none : nat_lt b.left 0 ≡ false = grind (arith, common_steps) in
    let end : BenchState = bench_after_steps c o cap (with_faults [] b) 0 steps in
    let judged_there : All (IsBefore (bench_with_verdict c o end what).0.past) fs = rw none at before in
    let there : All (IsBefore end.past) fs = subst (λ (past : List LogEntry). All (IsBefore past) fs) (judged-past c o end what) judged_there in
    rw none (ap (λ (k : BenchState). bench_with_verdict c o k what) (stepped-alike c o cap b fs 0 steps there) ∙ judged-alike c o end fs what)

pub alike-before : IsAlikeBefore
unfolding made steps_said
alike-before c o cap b line.Forget fs h = refl
alike-before c o cap b (line.Test name) fs h = refl
alike-before c o cap b (line.Rule r) fs h =
    ap (λ (rules : Rules). (record b { rules = rules }, rule_verdict (record b.rules { faults = fs }) r)) (ruled-under (time c b.past) b.rules fs (begun_rule c b.past r))
    ∙ ap (λ (v : Verdict). (record b { rules = record (ruled (time c b.past) (record b.rules { faults = [] }) (begun_rule c b.past r)) { faults = fs } }, v)) (verdict-under b.rules fs r)
alike-before c o cap b (line.Step by step) fs h = step-line c o cap b fs ((by, step) ∷ []) None h
alike-before c o cap b (line.Expect what) fs h = step-line c o cap b fs [] (Some what) h
alike-before c o cap b (line.Slot how) fs h =
    slots-line c o cap b fs how (Count 1) never_ends None (nat_lt b.left (ended_slot_count (of_slots c o cap how (Count 1) never_ends (with_faults [] b) (most (Count 1))))) (λ at. refl) refl h
alike-before c o cap b (line.Slots s) fs h =
    slots-line c o cap b fs (slot.Leave s.leave) s.extent never_ends (expected_after s.extent) (nat_lt b.left (ended_slot_count (of_slots c o cap (slot.Leave s.leave) s.extent never_ends (with_faults [] b) (most s.extent)))) (λ at. refl) refl h
alike-before c o cap b (line.Until s what) fs h =
    slots-line c o cap b fs (slot.Leave s.leave) s.extent (comes c o b.taken (expected_begun c b.past what)) (Some (expected_begun c b.past what))
    (nat_lt b.left (ended_slot_count (of_slots c o cap (slot.Leave s.leave) s.extent (comes c o b.taken (expected_begun c b.past what)) (with_faults [] b) (most s.extent)))) (λ at. refl) refl h
alike-before c o cap b (line.While s what) fs h =
    slots-line c o cap b fs (slot.Leave s.leave) s.extent (fails c o b.taken (length b.past) (expected_begun c b.past what)) (Some (expected_begun c b.past what))
    (nat_lt b.left (ended_slot_count (of_slots c o cap (slot.Leave s.leave) s.extent (fails c o b.taken (length b.past) (expected_begun c b.past what)) (with_faults [] b) (most s.extent)))) (λ at. refl) refl h
