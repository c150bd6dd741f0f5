-- How many steps slots and lines come to at most, and plays without rules.
use Rattle.std.proofs.Common.{◌≡◌, ◌∙◌, ℕ, suc, zero, ◌+◌, ◌*◌, ◌≤◌, nat_lt, ltb-false, Bool, true, false, cond, ◌||◌, sym, subst, List, [], ◌∷◌, ◌++◌, map, refl, ap, arith, length, length-append, Option, Some, None, Result, Ok, Err}
use Rattle.std.specs.Option.{option_map_or}
use Rattle.std.specs.List.{filter_map}
use Rattle.std.proofs.lemmas.List.{length-map}
use Rattle.std.proofs.lemmas.List.Folds.{list_any-append}
use Rattle.lin_parts.specs.Cluster.{line_of}
use Rattle.lin_parts.specs.declared.parts.Parts.{Parts}
use Rattle.lin_core.specs.Replies.{opening_events, refusal, reply, service_events}
use Rattle.lin_core.specs.Slots.{due_nodes, is_service, next_due}
use Rattle.lin_core.specs.declared.event.Event.TheVariants.{Due}
use Rattle.lin_core.specs.declared.log.LogEntry.{LogEntry}
use Rattle.lin_core.specs.declared.port.PortId.{PortId}
use Rattle.lin_core.specs.declared.port.PortId.TheVariants.{Bus}
use Rattle.lin_core.specs.declared.reply.Refusal.{Refusal}
use Rattle.lin_core.specs.declared.reply.Reply.TheVariants.{Done, Refused}
use Rattle.lin_core.specs.declared.step.Step.{Step}
use Rattle.lin_core.specs.declared.step.Step.TheVariants.{Open, Leave, Hurt, Finish}
use Rattle.lin_bench.specs.Made.{BenchState, course_of, expects_from, bench_with_verdict, made, made_within, steps_said, slots_made, bench_after_steps}
use Rattle.lin_bench.specs.Faults.{disturbed_steps, struck}
use Rattle.lin_bench.specs.Played.{first_under, in_turn, next, line_result}
use Rattle.lin_bench.specs.Plays.{EndsWithFullLog, OverfillsUnder, PlayFails, PlaysUnder, has_rule, is_rule}
use Rattle.lin_bench.specs.Slots.{Course, course_after, decision, due_in, due_node, due_now, extent_steps, hurt_steps, is_opened, most, past_after, slot_limit, slot_rest, slot_steps, ended_slot_count, slots_steps, way, Way}
use Rattle.lin_bench.specs.declared.faults.ArmedFault.{ArmedFault}
use Rattle.lin_bench.specs.declared.faults.SlotFault.{SlotFault}
use Rattle.lin_bench.specs.declared.playing.Played.{Played}
use Rattle.lin_bench.specs.declared.playing.PlayedUnder.{PlayedUnder}
use Rattle.lin_bench.specs.declared.fault.PlayFault.{PlayFault}
use Rattle.lin_bench.specs.declared.fault.PlayFault.TheVariants.{SlotLimit, LogFull, OutOfMemory}
use Rattle.lin_bench.specs.declared.line.Disturbance.{Disturbance}
use Rattle.lin_bench.specs.declared.line.Disturbance.TheVariants as slot
use Rattle.lin_bench.specs.declared.expected.Expected.{Expected}
use Rattle.lin_bench.specs.declared.line.Extent.{Extent}
use Rattle.lin_bench.specs.declared.line.ScriptLine.{ScriptLine}
use Rattle.lin_bench.specs.declared.place.LinePlace.{LinePlace}
use Rattle.lin_bench.specs.declared.line.ScriptLine.TheVariants as line
use Rattle.lin_bench.specs.declared.got.Verdict.{Verdict}
use Rattle.lin_bench.specs.declared.rules.Rules.{Rules}
use Rattle.lin_bench.proofs.DueFew.{IsSmall, nodes-few}
use Rattle.lin_bench.proofs.Makes.{after_one, disturbed-size, past-longer}
use Rattle.lin_bench.proofs.RuleLaws.{made-under, no_rules_under}
use Rattle.lin_bench.proofs.Runs.{told-bench, turns-failed}
use Rattle.lin_bench.proofs.SlotSteps.{no-slot, one-slot, slots_in-append}

-- the most steps of a slot: its open, what each of 16 nodes decides, a damage and its finish
abbrev most_steps : ℕ
most_steps = 19

-- ---- at most 16 nodes are due
all-due : (xs : List ℕ) → filter_map due_node (map Due xs) ≡ xs
all-due [] = refl
all-due (x ∷ xs) = ap (λ l. x ∷ l) (all-due xs)

told-due : (b : Bool) (xs : List ℕ) → filter_map due_node (service_events b ++ map Due xs) ≡ xs
told-due true xs = all-due xs
told-due false xs = all-due xs

due-in-few : (c : Parts) (o : ℕ) (past : List LogEntry) (why : Option Refusal) (due : List ℕ) → IsSmall c
    → due_in (option_map_or Refused why (Done (opening_events c o past))) ≡ Some due
    → length due ≤ 16
due-in-few c o past None due small h =
    let at = next_due c o past in
    let entry = (line_of c at.0 at.1).entry in
    let same = ap (λ (d : Option (List ℕ)). option_map_or length d 0) h in
    omega (arith, same, ap length (told-due (is_service c past entry) (due_nodes c past entry)), nodes-few c past entry small)
due-in-few c o past (Some why) due small h = cc

pub due-few : (c : Parts) (o cap : ℕ) (past : List LogEntry) (due : List ℕ) → IsSmall c
    → due_now c o cap past ≡ Some due → length due ≤ 16
unfolding reply
due-few c o cap past due small h = due-in-few c o past (refusal c cap past Bus Open) due small h

-- ---- the steps of a slot
pub hurt-few : (how : Disturbance) → length (hurt_steps how) ≤ 1
hurt-few slot.Undisturbed = omega arith
hurt-few (slot.Hurt bytes) = omega arith
hurt-few (slot.Leave nodes) = omega arith

pub rest-few : (w : Way) (due : List ℕ) → length (slot_rest w (Some due)) ≤ length due + 2
rest-few w due =
    let decided = map (decision w) due in
    let last : List (PortId × Step) = (Bus, Finish) ∷ [] in
    let e = length-append decided (hurt_steps w.how ++ last) in
    let f = length-append (hurt_steps w.how) last in
    omega (arith, e, f, length-map due (decision w), hurt-few w.how)

opened-few : (w : Way) (due : Option (List ℕ))
    → ((some : List ℕ) → due ≡ Some some → length some ≤ 16)
    → length ((Bus, Open) ∷ slot_rest w due) ≤ most_steps
opened-few w None each = omega arith
opened-few w (Some due) each = omega (arith, rest-few w due, each due refl)

pub slot-few : (c : Parts) (o cap : ℕ) (w : Way) (past : List LogEntry) → IsSmall c
    → length (slot_steps c o cap w past) ≤ most_steps
unfolding slot_steps
slot-few c o cap w past few =
    opened-few w (due_now c o cap past) (λ due h. due-few c o cap past due few h)

refused-one : (w : Way) (due : Option (List ℕ)) → is_opened due ≡ false
    → length ((Bus, Open) ∷ slot_rest w due) ≤ 1
refused-one w None h = omega arith
refused-one w (Some due) h = cc

slot-refused : (c : Parts) (o cap : ℕ) (w : Way) (past : List LogEntry)
    → is_opened (due_now c o cap past) ≡ false → length (slot_steps c o cap w past) ≤ 1
unfolding slot_steps
slot-refused c o cap w past h = refused-one w (due_now c o cap past) h

-- ---- the steps of a line
turn-few : (goes is_open : Bool) (one rest : List (PortId × Step)) → length one ≤ most_steps
    → (is_open ≡ true → ended_slot_count one ≡ 1) → (is_open ≡ false → length one ≤ 1)
    → length rest ≤ most_steps * ended_slot_count rest + 1
    → length (cond goes (one ++ cond is_open rest []) [])
    ≤ most_steps * ended_slot_count (cond goes (one ++ cond is_open rest []) []) + 1
turn-few false is_open one rest few ends shut more = omega arith
turn-few true true one rest few ends shut more =
    omega (arith, length-append one rest, slots_in-append one rest, few, ends refl, more)
turn-few true false one rest few ends shut more =
    let none : List (PortId × Step) = [] in
    omega (arith, length-append one none, slots_in-append one none, shut refl)

turn-at-most : (goes is_open : Bool) (one rest : List (PortId × Step)) (n : ℕ) → (is_open ≡ true → ended_slot_count one ≡ 1)
    → (is_open ≡ false → ended_slot_count one ≡ 0) → ended_slot_count rest ≤ n → ended_slot_count (cond goes (one ++ cond is_open rest []) []) ≤ suc n
turn-at-most false is_open one rest n ends shut more = omega arith
turn-at-most true true one rest n ends shut more = omega (arith, slots_in-append one rest, ends refl, more)
turn-at-most true false one rest n ends shut more =
    let none : List (PortId × Step) = [] in omega (arith, slots_in-append one none, shut refl)

slots-few : (c : Parts) (o cap : ℕ) (how : Disturbance) (goes : Course → Bool) (n : ℕ)
    (at : Course) → IsSmall c
    → length (slots_steps c o cap how goes n at)
    ≤ most_steps * ended_slot_count (slots_steps c o cap how goes n at) + 1
unfolding slots_steps
slots-few c o cap how goes zero at few = omega arith
slots-few c o cap how goes (suc n) at few =
    let one = slot_steps c o cap (way how at.rules.offs) at.past in
    turn-few (goes at) (is_opened (due_now c o cap at.past)) one
    (slots_steps c o cap how goes n (course_after c o cap at one)) (slot-few c o cap (way how at.rules.offs) at.past few)
    (λ h. one-slot c o cap (way how at.rules.offs) at.past h) (λ h. slot-refused c o cap (way how at.rules.offs) at.past h)
    (slots-few c o cap how goes n (course_after c o cap at one) few)

-- at most n slots are made of n
slots-at-most : (c : Parts) (o cap : ℕ) (how : Disturbance) (goes : Course → Bool) (n : ℕ) (at : Course)
    → ended_slot_count (slots_steps c o cap how goes n at) ≤ n
unfolding slots_steps
slots-at-most c o cap how goes zero at = omega arith
slots-at-most c o cap how goes (suc n) at =
    let one = slot_steps c o cap (way how at.rules.offs) at.past in
    turn-at-most (goes at) (is_opened (due_now c o cap at.past)) one (slots_steps c o cap how goes n (course_after c o cap at one)) n
    (λ h. one-slot c o cap (way how at.rules.offs) at.past h) (λ h. no-slot c o cap (way how at.rules.offs) at.past h) (slots-at-most c o cap how goes n (course_after c o cap at one))

said-few : (c : Parts) (o cap : ℕ) (limit : Extent → ℕ) (b : BenchState) (l : ScriptLine) → IsSmall c
    → length (steps_said c o cap limit b l) ≤ most_steps * slots_made l (steps_said c o cap limit b l) + 1
unfolding steps_said extent_steps
said-few c o cap limit b (line.Step by step) few = omega arith
said-few c o cap limit b (line.Slot how) few = slots-few c o cap how _ _ (course_of b) few
said-few c o cap limit b (line.Slots s) few = slots-few c o cap (slot.Leave s.leave) _ _ (course_of b) few
said-few c o cap limit b (line.Until s what) few = slots-few c o cap (slot.Leave s.leave) _ _ (course_of b) few
said-few c o cap limit b (line.While s what) few = slots-few c o cap (slot.Leave s.leave) _ _ (course_of b) few
said-few c o cap limit b (line.Expect what) few = omega arith
said-few c o cap limit b line.Forget few = omega arith
said-few c o cap limit b (line.Test name) few = omega arith
said-few c o cap limit b (line.Rule rule) few = omega arith

first-few : (c : Parts) (o cap n : ℕ) (b : BenchState) (l : ScriptLine) → slots_made l (steps_said c o cap (λ e. n) b l) ≤ n
unfolding steps_said extent_steps
first-few c o cap n b (line.Step by step) = omega arith
first-few c o cap n b (line.Slot how) = slots-at-most c o cap how _ n (course_of b)
first-few c o cap n b (line.Slots s) = slots-at-most c o cap (slot.Leave s.leave) _ n (course_of b)
first-few c o cap n b (line.Until s what) = slots-at-most c o cap (slot.Leave s.leave) _ n (course_of b)
first-few c o cap n b (line.While s what) = slots-at-most c o cap (slot.Leave s.leave) _ n (course_of b)
first-few c o cap n b (line.Expect what) = omega arith
first-few c o cap n b line.Forget = omega arith
first-few c o cap n b (line.Test name) = omega arith
first-few c o cap n b (line.Rule rule) = omega arith

-- what a log and the slots that are left may still come to
abbrev pub still_to_come : BenchState → ℕ
still_to_come b = length b.past + 2 * (most_steps * b.left)

-- ---- where no rule is in force
abbrev IsUnruled : Rules → Type 0
IsUnruled r = r ≡ no_rules_under r.faults

-- no rule is in force, and a history has at most n entries more than so many
record IsUnder (at : Course) (from n : ℕ) : Type 0 where
  rules : IsUnruled at.rules
  few : length at.past ≤ from + n

after-under : (c : Parts) (o cap : ℕ) (past : List LogEntry) (faults : List ArmedFault) (ss : List (PortId × Step))
    → IsUnder (course_after c o cap (record { past = past; rules = no_rules_under faults }) ss) (length past) (2 * length ss)
after-under c o cap past faults [] = record { rules = refl; few = omega arith }
after-under c o cap past faults (s ∷ ss) =
    let then = struck c cap faults past s in
    let made = disturbed_steps c cap faults past s in
    let one : after_one c o cap (record { past = past; rules = no_rules_under faults }) s ≡ record { past = past_after c o cap past made; rules = no_rules_under then } =
    made-under c o cap past then made in
    let rest = after-under c o cap (past_after c o cap past made) then ss in
    let longer = past-longer c o cap past made in
    let two = (disturbed-size c cap faults past s).1 in
    let all : IsUnder (course_after c o cap (record { past = past_after c o cap past made; rules = no_rules_under then }) ss) (length past) (2 * length (s ∷ ss)) =
    record { rules = rest.rules; few = omega (arith, rest.few, longer, two) } in
    subst (λ (k : Course). IsUnder (course_after c o cap k ss) (length past) (2 * length (s ∷ ss))) (sym one) all

-- no rule is in force, and at most so many entries are still to come
record IsFew (b : BenchState) (most : ℕ) : Type 0 where
  rules : IsUnruled b.rules
  few : still_to_come b ≤ most

judged-few : (c : Parts) (o : ℕ) (b : BenchState) (what : Option Expected) (n : ℕ) → IsFew b n → IsFew (bench_with_verdict c o b what).0 n
judged-few c o b None n h = record { rules = h.rules; few = h.few }
judged-few c o b (Some what) n h = record { rules = h.rules; few = h.few }

stepped-few : (c : Parts) (o cap : ℕ) (b : BenchState) (count : ℕ) (steps : List (PortId × Step)) → IsUnruled b.rules → count ≤ b.left
    → length steps ≤ most_steps * count + 1 → IsFew (bench_after_steps c o cap b count steps) (still_to_come b + 2)
stepped-few c o cap b count steps none few short =
    let is : course_of b ≡ record { past = b.past; rules = no_rules_under b.rules.faults } = ap (λ (r : Rules). record { past = b.past; rules = r }) none in
    let all = subst (λ (k : Course). IsUnder (course_after c o cap k steps) (length b.past) (2 * length steps)) (sym is) (after-under c o cap b.past b.rules.faults steps) in
    record { rules = all.rules; few = omega (arith, few, short, all.few) }

within-few : (c : Parts) (o cap : ℕ) (b : BenchState) (count : ℕ) (steps first : List (PortId × Step)) (what : Option Expected) (t : Bool) → IsUnruled b.rules
    → nat_lt b.left count ≡ t → length steps ≤ most_steps * count + 1 → length first ≤ most_steps * b.left + 1
    → IsFew (made_within c o cap b count steps first what).0 (still_to_come b + 2)
within-few c o cap b count steps first what true none h all some =
    rw h (stepped-few c o cap b b.left first none (omega arith) some)
within-few c o cap b count steps first what false none h all some =
    let few : count ≤ b.left = ltb-false b.left count h in
    rw h (judged-few c o (bench_after_steps c o cap b count steps) what (still_to_come b + 2) (stepped-few c o cap b count steps none few all))

steps-few : (c : Parts) (o cap : ℕ) (b : BenchState) (l : ScriptLine) → IsSmall c → IsUnruled b.rules
    → IsFew (made_within c o cap b (slots_made l (steps_said c o cap most b l)) (steps_said c o cap most b l) (steps_said c o cap (λ e. b.left) b l) (expects_from c b.past l)).0 (still_to_come b + 2)
steps-few c o cap b l few none =
    let all = steps_said c o cap most b l in
    let some = steps_said c o cap (λ e. b.left) b l in
    within-few c o cap b (slots_made l all) all some (expects_from c b.past l) (nat_lt b.left (slots_made l all)) none refl
    (said-few c o cap most b l few)
    (let e = said-few c o cap (λ e. b.left) b l few in omega (arith, e, first-few c o cap b.left b l))

-- it grows by two at a line
made-few : (c : Parts) (o cap : ℕ) (b : BenchState) (l : ScriptLine) → IsSmall c → IsUnruled b.rules → is_rule l ≡ false
    → IsFew (made c o cap b l).0 (still_to_come b + 2)
unfolding made
made-few c o cap b line.Forget few none h = record { rules = none; few = omega arith }
made-few c o cap b (line.Test name) few none h = record { rules = none; few = omega arith }
made-few c o cap b (line.Step by step) few none h = steps-few c o cap b (line.Step by step) few none
made-few c o cap b (line.Slot how) few none h = steps-few c o cap b (line.Slot how) few none
made-few c o cap b (line.Slots s) few none h = steps-few c o cap b (line.Slots s) few none
made-few c o cap b (line.Until s what) few none h = steps-few c o cap b (line.Until s what) few none
made-few c o cap b (line.While s what) few none h = steps-few c o cap b (line.While s what) few none
made-few c o cap b (line.Expect what) few none h = steps-few c o cap b (line.Expect what) few none
made-few c o cap b (line.Rule rule) few none h = cc

-- ---- the lines of a play
neither : (a b : Bool) → (a || b) ≡ false → (a ≡ false) × (b ≡ false)
neither true b h = absurd (cc)
neither false b h = (refl, h)

told-few : (n : LinePlace) (m : ℕ) (b end : BenchState) (v : Verdict) → line_result n b v ≡ Ok end → IsFew b m → IsFew end m
told-few n m b end v e h = subst (λ (x : BenchState). IsFew x m) (told-bench n b end v e) h

turn-few-by : (c : Parts) (o cap : ℕ) (b end : BenchState) (m : ℕ) (l : LinePlace × ScriptLine) (ls : List (LinePlace × ScriptLine)) (r : Result BenchState LinePlace)
    → ((mid : BenchState) → IsFew mid m → in_turn c o cap (Ok mid) ls ≡ Ok end → IsFew end (m + 2 * length ls))
    → IsFew (made c o cap b l.1).0 m → next c o cap b l ≡ r → in_turn c o cap r ls ≡ Ok end → IsFew end (m + 2 * length ls)
turn-few-by c o cap b end m l ls (Ok mid) more h is e =
    more mid (told-few l.0 m (made c o cap b l.1).0 mid (made c o cap b l.1).1 is h) e
turn-few-by c o cap b end m l ls (Err n) more h is e = let no : Err n ≡ Ok end = turns-failed c o cap n ls ∙ e in absurd (cc)

more-few : (b : BenchState) (m n : ℕ) → IsFew b m → m ≤ n → IsFew b n
more-few b m n h le = record { rules = h.rules; few = omega (arith, h.few, le) }

turns-few : (c : Parts) (o cap : ℕ) (b end : BenchState) (m : ℕ) (ls : List (LinePlace × ScriptLine)) → IsSmall c → has_rule ls ≡ false → IsFew b m
    → in_turn c o cap (Ok b) ls ≡ Ok end → IsFew end (m + 2 * length ls)
turns-few c o cap b end m [] few none h e =
    let same : b ≡ end = cc in
    subst (λ (x : BenchState). IsFew x (m + 2 * 0)) same (more-few b m (m + 2 * 0) h (omega arith))
turns-few c o cap b end m (l ∷ ls) few none h e =
    let p = neither (is_rule l.1) (has_rule ls) none in
    let one = more-few (made c o cap b l.1).0 (still_to_come b + 2) (m + 2) (made-few c o cap b l.1 few h.rules p.0) (omega (arith, h.few)) in
    let all = turn-few-by c o cap b end (m + 2) l ls (next c o cap b l) (λ mid k d. turns-few c o cap mid end (m + 2) ls few p.1 k d) one refl e in
    more-few end (m + 2 + 2 * length ls) (m + 2 * length (l ∷ ls)) all (omega arith)

-- lines without a rule never fill a log
never-full : (c : Parts) (o cap : ℕ) (fs : List SlotFault) (ls : List (LinePlace × ScriptLine)) → IsSmall c → length ls ≤ 17777217 → has_rule ls ≡ false → OverfillsUnder c o cap fs ls → ⊥
never-full c o cap fs ls few short none f =
    let parts =
    neither (has_rule f.before) (has_rule (f.line ∷ f.behind))
    (sym (list_any-append (λ (l : LinePlace × ScriptLine). is_rule l.1) f.before (f.line ∷ f.behind)) ∙ ap has_rule (sym f.all) ∙ none) in
    let at = neither (is_rule f.line.1) (has_rule f.behind) parts.1 in
    let begun : IsFew (first_under fs) (2 * (most_steps * slot_limit)) = record { rules = refl; few = omega arith } in
    let so_far = turns-few c o cap (first_under fs) f.bench (2 * (most_steps * slot_limit)) f.before few parts.0 begun f.so_far in
    let line = made-few c o cap f.bench f.line.1 few so_far.rules at.0 in
    let all = ap length f.all ∙ length-append f.before (f.line ∷ f.behind) in
    omega (arith, so_far.few, line.few, all, short, f.full)

full-by : (c : Parts) (o cap : ℕ) (fs : List SlotFault) (ls : List (LinePlace × ScriptLine)) (t : Bool) → has_rule ls ≡ t → IsSmall c → length ls ≤ 17777217 → OverfillsUnder c o cap fs ls
    → has_rule ls ≡ true
full-by c o cap fs ls true h few short f = h
full-by c o cap fs ls false h few short f = absurd (never-full c o cap fs ls few short h f)

pub full-by-rule : (strict : Bool) (c : Parts) (o cap : ℕ) (ls : List (LinePlace × ScriptLine)) (fault : PlayFault) → IsSmall c → PlayFails strict c o cap ls fault → length ls ≤ 17777217
    → EndsWithFullLog {X = Played} (Err fault) → has_rule ls ≡ true
full-by-rule strict c o cap ls (SlotLimit n) few fails short full = absurd full
full-by-rule strict c o cap ls LogFull few fails short full = full-by c o cap [] ls (has_rule ls) refl few short fails
full-by-rule strict c o cap ls OutOfMemory few fails short full = absurd full

-- likewise under faults
pub full-under-by-rule : (strict : Bool) (c : Parts) (o cap : ℕ) (fs : List SlotFault) (ls : List (LinePlace × ScriptLine)) (fault : PlayFault) → IsSmall c
    → PlaysUnder strict c o cap fs ls (Err fault) → length ls ≤ 17777217 → EndsWithFullLog {X = PlayedUnder} (Err fault) → has_rule ls ≡ true
full-under-by-rule strict c o cap fs ls (SlotLimit n) few plays short full = absurd full
full-under-by-rule strict c o cap fs ls LogFull few plays short full = full-by c o cap fs ls (has_rule ls) refl few short plays
full-under-by-rule strict c o cap fs ls OutOfMemory few plays short full = absurd full
