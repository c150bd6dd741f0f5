-- Lines in hand come to what a play of them comes to.
use Rattle.std.proofs.Common.{◌≡◌, ◌∙◌, ℕ, ◌≤◌, ◌+◌, ◌==◌, ◌&&◌, Bool, true, false, ◌||◌, nat_le, nat_lt, not, List, [], ◌∷◌, ◌++◌, Option, Some, None, Result, Ok, Err, refl, sym, ap, arith, length, map, slice_index, if◌then◌else◌, codes}
use Rattle.std.specs.Str.{bytes_eq}
use Rattle.std.proofs.lemmas.Grind.{common_steps}
use Rattle.std.specs.List.{AllByRecursion, list_any}
use Rattle.std.proofs.lemmas.List.Folds.{list_any-append}
use Rattle.std.specs.Str.Lines.{strip_carriage_return}
use Rattle.lin_parts.specs.declared.parts.Parts.{Parts}
use Rattle.lin_core.specs.declared.port.PortId.{PortId}
use Rattle.lin_core.specs.declared.step.Step.{Step}
use Rattle.lin_values.specs.Coded.{CodedData}
use Rattle.lin_bench.specs.declared.rules.NodeLimits.{NodeLimits}
use Rattle.lin_bench.specs.Fields.{line_fields}
use Rattle.lin_bench.specs.Plain.{begins_resolved, resolves}
use Rattle.lin_bench.specs.Resolved.{names_parameter, replaced_line, replaced_text}
use Rattle.lin_bench.specs.Scripts.{Script, read_lines, with_read_line}
use Rattle.lin_bench.specs.Made.{BenchState, expects_from, bench_with_verdict, made, made_within, steps_said, slots_made, bench_after_steps}
use Rattle.lin_bench.specs.Played.{Run, come_to, initial_bench, in_turn, is_unmet as is_missed, judged_from, judgements, next, on_line, own, some_unmet, line_result as run_told, with_judgements}
use Rattle.lin_bench.specs.Slots.{most, slot_limit}
use Rattle.lin_bench.specs.Strict.{begins_test, has_test}
use Rattle.lin_bench.specs.Written.{goes_on, line_place}
use Rattle.lin_bench.specs.Words.{read_worded_line}
use Rattle.lin_bench.specs.declared.expected.Expected.{Expected}
use Rattle.lin_bench.specs.declared.got.Judgement.{Judgement}
use Rattle.lin_bench.specs.declared.got.Verdict.{Verdict}
use Rattle.lin_bench.specs.declared.got.Verdict.TheVariants.{Nothing, Met, Unmet, SlotLimit}
use Rattle.lin_bench.specs.declared.line.ScriptLine.{ScriptLine}
use Rattle.lin_bench.specs.declared.place.LinePlace.{LinePlace}
use Rattle.lin_bench.specs.declared.line.ScriptLine.TheVariants as line
use Rattle.lin_bench.specs.declared.reason.Reason.{Reason}
use Rattle.lin_live.specs.Asked.{◌>>=◌, script_field}
use Rattle.lin_live.specs.Heard.{heard_in, line_heard, of_line, of_script, text_heard}
use Rattle.lin_live.specs.Heard.Heard.{Make}
use Rattle.lin_live.specs.Told.{HandData, after_line, is_limit, is_unmet_verdict, reply, heard_answer}
use Rattle.lin_live.specs.Transcript.{state_after, most_bytes, short}
use Rattle.lin_bench.proofs.Runs.{told-bench}
use Rattle.lin_live.specs.declared.answer_format.AnswerFormat.{AnswerFormat}
use Rattle.lin_live.specs.Play.{IsPlain, LiveIsPlay, is_of_live}

-- ---- a bench with room for more slots
abbrev pub Alike : BenchState × Verdict → BenchState × Verdict → Type 0
Alike m k = (k.0.past ≡ m.0.past) × (k.0.rules ≡ m.0.rules) × (k.0.taken ≡ m.0.taken) × (k.1 ≡ m.1)

alike-by : (t s : Bool) (a b : BenchState) (x y : BenchState × Verdict) → is_limit (if t then (a, SlotLimit) else x).1 ≡ false → (t ≡ false → s ≡ false) → Alike x y
    → Alike (if t then (a, SlotLimit) else x) (if s then (b, SlotLimit) else y)
alike-by true s a b x y h g k = absurd (cc)
alike-by false true a b x y h g k = let e = g refl in absurd (cc)
alike-by false false a b x y h g k = k

alike-judged : (c : Parts) (opening : ℕ) (b d : BenchState) (what : Option Expected) → d.past ≡ b.past → d.rules ≡ b.rules → d.taken ≡ b.taken
    → Alike (bench_with_verdict c opening b what) (bench_with_verdict c opening d what)
alike-judged c opening b d None e f g = (e, f, g, refl)
alike-judged c opening b d (Some what) e f g = (e, f, rw (e, g) refl, rw (e, f, g) refl)

alike-within : (c : Parts) (opening capacity : ℕ) (b : BenchState) (more count : ℕ) (steps few many : List (PortId × Step)) (what : Option Expected)
    → b.left ≤ more → is_limit (made_within c opening capacity b count steps few what).1 ≡ false
    → Alike (made_within c opening capacity b count steps few what) (made_within c opening capacity (record b { left = more }) count steps many what)
alike-within c opening capacity b more count steps few many what le h =
    let d = record b { left = more } in
    alike-by (nat_lt b.left count) (nat_lt more count) (bench_after_steps c opening capacity b b.left few) (bench_after_steps c opening capacity d more many)
    (bench_with_verdict c opening (bench_after_steps c opening capacity b count steps) what) (bench_with_verdict c opening (bench_after_steps c opening capacity d count steps) what) h
    (λ e. grind (arith, common_steps))
    (alike-judged c opening (bench_after_steps c opening capacity b count steps) (bench_after_steps c opening capacity d count steps) what refl refl refl)

abbrev pub AlikeLine : Parts → ℕ → ℕ → BenchState → ℕ → ScriptLine → Type 0
AlikeLine c opening capacity b more l =
    is_limit (made c opening capacity b l).1 ≡ false → Alike (made c opening capacity b l) (made c opening capacity (record b { left = more }) l)

alike-line : (c : Parts) (opening capacity : ℕ) (b : BenchState) (more : ℕ) (l : ScriptLine) → b.left ≤ more
    → let steps = steps_said c opening capacity most b l in
    let few = steps_said c opening capacity (λ extent. b.left) b l in
    let many = steps_said c opening capacity (λ extent. more) b l in
    is_limit (made_within c opening capacity b (slots_made l steps) steps few (expects_from c b.past l)).1 ≡ false
    → Alike (made_within c opening capacity b (slots_made l steps) steps few (expects_from c b.past l))
    (made_within c opening capacity (record b { left = more }) (slots_made l steps) steps many (expects_from c b.past l))
alike-line c opening capacity b more l le =
    alike-within c opening capacity b more (slots_made l (steps_said c opening capacity most b l)) (steps_said c opening capacity most b l)
    (steps_said c opening capacity (λ extent. b.left) b l) (steps_said c opening capacity (λ extent. more) b l) (expects_from c b.past l) le

alike-made : (c : Parts) (opening capacity : ℕ) (b : BenchState) (more : ℕ) (l : ScriptLine) → b.left ≤ more → AlikeLine c opening capacity b more l
unfolding made steps_said
alike-made c opening capacity b more (line.Step by step) le = alike-line c opening capacity b more (line.Step by step) le
alike-made c opening capacity b more (line.Slot how) le = alike-line c opening capacity b more (line.Slot how) le
alike-made c opening capacity b more (line.Slots extent) le = alike-line c opening capacity b more (line.Slots extent) le
alike-made c opening capacity b more (line.Until extent what) le = alike-line c opening capacity b more (line.Until extent what) le
alike-made c opening capacity b more (line.While extent what) le = alike-line c opening capacity b more (line.While extent what) le
alike-made c opening capacity b more (line.Expect what) le = alike-line c opening capacity b more (line.Expect what) le
alike-made c opening capacity b more line.Forget le = λ h. (refl, refl, refl, refl)
alike-made c opening capacity b more (line.Test name) le = λ h. (refl, refl, refl, refl)
alike-made c opening capacity b more (line.Rule rule) le = λ h. (refl, refl, refl, refl)

-- ---- slots that are left
less-within : (c : Parts) (opening capacity : ℕ) (b : BenchState) (count : ℕ) (steps few : List (PortId × Step)) (what : Option Expected)
    → (made_within c opening capacity b count steps few what).0.left ≤ b.left
less-within c opening capacity b count steps few None =
    elim (nat_lt b.left count) as (λ t. (if t then (bench_after_steps c opening capacity b b.left few, SlotLimit) else bench_with_verdict c opening (bench_after_steps c opening capacity b count steps) None).0.left ≤ b.left) [
      | true ↦ omega arith
      | false ↦ omega arith
    ]
less-within c opening capacity b count steps few (Some what) =
    elim (nat_lt b.left count) as (λ t. (if t then (bench_after_steps c opening capacity b b.left few, SlotLimit) else bench_with_verdict c opening (bench_after_steps c opening capacity b count steps) (Some what)).0.left ≤ b.left) [
      | true ↦ omega arith
      | false ↦ omega arith
    ]

less-line : (c : Parts) (opening capacity : ℕ) (b : BenchState) (l : ScriptLine)
    → let steps = steps_said c opening capacity most b l in
    (made_within c opening capacity b (slots_made l steps) steps (steps_said c opening capacity (λ extent. b.left) b l) (expects_from c b.past l)).0.left ≤ b.left
less-line c opening capacity b l =
    less-within c opening capacity b (slots_made l (steps_said c opening capacity most b l)) (steps_said c opening capacity most b l)
    (steps_said c opening capacity (λ extent. b.left) b l) (expects_from c b.past l)

less-made : (c : Parts) (opening capacity : ℕ) (b : BenchState) (l : ScriptLine) → (made c opening capacity b l).0.left ≤ b.left
unfolding made
less-made c opening capacity b (line.Step by step) = less-line c opening capacity b (line.Step by step)
less-made c opening capacity b (line.Slot how) = less-line c opening capacity b (line.Slot how)
less-made c opening capacity b (line.Slots extent) = less-line c opening capacity b (line.Slots extent)
less-made c opening capacity b (line.Until extent what) = less-line c opening capacity b (line.Until extent what)
less-made c opening capacity b (line.While extent what) = less-line c opening capacity b (line.While extent what)
less-made c opening capacity b (line.Expect what) = less-line c opening capacity b (line.Expect what)
less-made c opening capacity b line.Forget = omega arith
less-made c opening capacity b (line.Test name) = omega arith
less-made c opening capacity b (line.Rule rule) = omega arith

-- ---- one line
not-limit : (n : LinePlace) (b end : BenchState) (v : Verdict) → run_told n b v ≡ Ok end → is_limit v ≡ false
not-limit n b end SlotLimit h = absurd (cc)
not-limit n b end (Unmet what got) h = refl
not-limit n b end Nothing h = refl
not-limit n b end (Met what) h = refl

or-none : (x : Bool) → (x || false) ≡ x
or-none true = refl
or-none false = refl

or-assoc : (x y z : Bool) → ((x || y) || z) ≡ (x || (y || z))
or-assoc true y z = refl
or-assoc false y z = refl

own-unmet : (n : LinePlace) (entries : ℕ) (v : Verdict) → some_unmet (on_line n entries (own v) ++ []) ≡ is_unmet_verdict v
own-unmet n entries SlotLimit = refl
own-unmet n entries (Unmet what got) = refl
own-unmet n entries Nothing = refl
own-unmet n entries (Met what) = refl

-- what is unmet of a line and of those after it
unmet-more : (c : Parts) (opening capacity : ℕ) (b : BenchState) (l : LinePlace × ScriptLine) (ls : List (LinePlace × ScriptLine))
    → some_unmet (judged_from false [] c opening capacity b (l ∷ ls))
    ≡ (is_unmet_verdict (made c opening capacity b l.1).1 || some_unmet (judged_from false [] c opening capacity (made c opening capacity b l.1).0 ls))
unmet-more c opening capacity b l ls =
    let m = made c opening capacity b l.1 in
    let rest = judged_from false [] c opening capacity m.0 ls in
    list_any-append (λ (j : Judgement). is_missed j.judged) (on_line l.0 (length m.0.past) (own m.1) ++ []) rest
    ∙ ap (λ t. t || some_unmet rest) (own-unmet l.0 (length m.0.past) m.1)

abbrev hand_with : AnswerFormat → Option CodedData → List NodeLimits → Bool → Parts → ℕ → ℕ → BenchState → Bool → Bool → HandData
hand_with f coded limits physical c opening capacity b bad unmet = record {
  format = f;
  cluster = c;
  opening = opening;
  capacity = capacity;
  coded = coded;
  limits = limits;
  is_physical = physical;
  sets = [];
  bench = record b { left = slot_limit };
  marks = [];
  begun = true;
  was_bad = bad;
  was_unmet = unmet;
}

-- a bench in hand on which no line was bad
abbrev hand_of : AnswerFormat → Option CodedData → List NodeLimits → Bool → Parts → ℕ → ℕ → BenchState → Bool → HandData
hand_of f coded limits physical c opening capacity b unmet = hand_with f coded limits physical c opening capacity b false unmet

same-hand : (f : AnswerFormat) (coded : Option CodedData) (limits : List NodeLimits) (physical : Bool) (c : Parts) (opening capacity : ℕ) (p q : BenchState) (bad unmet wanted : Bool) → p.past ≡ q.past → p.rules ≡ q.rules → p.taken ≡ q.taken → bad ≡ false
    → unmet ≡ wanted
    → hand_with f coded limits physical c opening capacity p bad unmet ≡ hand_with f coded limits physical c opening capacity q false wanted
same-hand f coded limits physical c opening capacity p q bad unmet wanted e e2 g h k = cc

line-same : (f : AnswerFormat) (coded : Option CodedData) (limits : List NodeLimits) (physical : Bool) (c : Parts) (opening capacity : ℕ) (b s : BenchState) (unmet : Bool) (l : LinePlace × ScriptLine) → b.left ≤ slot_limit → next c opening capacity b l ≡ Ok s
    → (after_line (hand_of f coded limits physical c opening capacity b unmet) (made c opening capacity (hand_of f coded limits physical c opening capacity b unmet).bench l.1)).0
    ≡ hand_of f coded limits physical c opening capacity s (unmet || is_unmet_verdict (made c opening capacity b l.1).1)
line-same f coded limits physical c opening capacity b s unmet l le h =
    let m = made c opening capacity b l.1 in
    let k = made c opening capacity (record b { left = slot_limit }) l.1 in
    let limit = not-limit l.0 m.0 s m.1 h in
    let alike = alike-made c opening capacity b slot_limit l.1 le limit in
    let came = told-bench l.0 m.0 s m.1 h in
    same-hand f coded limits physical c opening capacity k.0 s (is_limit k.1) (unmet || is_unmet_verdict k.1) (unmet || is_unmet_verdict m.1)
    (alike.0 ∙ ap (λ (x : BenchState). x.past) came) (alike.1 ∙ ap (λ (x : BenchState). x.rules) came)
    (alike.2 ∙ ap (λ (x : BenchState). x.taken) came)
    (ap is_limit alike.3 ∙ limit) (ap (λ v. unmet || is_unmet_verdict v) alike.3)

line-less : (c : Parts) (opening capacity : ℕ) (b s : BenchState) (l : LinePlace × ScriptLine) → b.left ≤ slot_limit → next c opening capacity b l ≡ Ok s → s.left ≤ slot_limit
line-less c opening capacity b s l le h =
    let m = made c opening capacity b l.1 in
    let came = told-bench l.0 m.0 s m.1 h in
    let less = less-made c opening capacity b l.1 in
    let same : m.0.left ≡ s.left = ap (λ (x : BenchState). x.left) came in
    omega (arith, le, less, same)

-- ---- what a line says
short-line : (line : List ℕ) → length line ≤ most_bytes → short line ≡ Some line
short-line line h = let e : nat_le (length line) most_bytes ≡ true = grind (arith, common_steps) in rw e refl

none-of : (a b d e : Bool) → (a || (b || (d || e))) ≡ false → (a ≡ false) × (b ≡ false) × (d ≡ false) × (e ≡ false)
none-of false false false false h = (refl, refl, refl, refl)
none-of true b d e h = absurd (cc)
none-of false true d e h = absurd (cc)
none-of false false true e h = absurd (cc)
none-of false false false true h = absurd (cc)

heard-plain : (c : Parts) (coded : Option CodedData) (limits : List NodeLimits) (line : List ℕ) (fs : List (List ℕ)) → is_of_live fs ≡ false
    → heard_in c coded limits line fs ≡ of_script (read_worded_line c coded limits line)
heard-plain c coded limits line [] h = refl
heard-plain c coded limits line (w ∷ fs) h =
    let p = none-of (bytes_eq w (codes "?")) (bytes_eq w (codes "mark")) (bytes_eq w (codes "back")) (bytes_eq w (codes "set")) h in
    rw (p.0, p.1, p.2, p.3) refl

-- in a line that stands for no other one no parameter is replaced
unnamed-by : (said some goes names begins : Bool) → some ≡ true → ((said && some) && (goes || (names || begins))) ≡ false → (said && names) ≡ false
unnamed-by false some goes names begins e h = refl
unnamed-by true some goes false begins e h = refl
unnamed-by true false goes true begins e h = absurd (cc)
unnamed-by true true true true begins e h = absurd (cc)
unnamed-by true true false true begins e h = absurd (cc)

unnamed : (said goes begins : Bool) (fs : List (List ℕ)) → ((said && nat_lt 0 (length fs)) && (goes || (list_any names_parameter fs || begins))) ≡ false
    → (said && list_any names_parameter fs) ≡ false
unnamed true goes begins [] h = refl
unnamed false goes begins [] h = refl
unnamed said goes begins (f ∷ fs) h =
    let some : nat_lt 0 (length (f ∷ fs)) ≡ true = grind (arith, common_steps) in
    unnamed-by said (nat_lt 0 (length (f ∷ fs))) goes (list_any names_parameter (f ∷ fs)) begins some h

unreplaced : (line : List ℕ) → resolves line ≡ false → replaced_line [] line ≡ Ok line
unreplaced line h =
    let fs = line_fields line in
    ap (λ (t : Bool). if t then replaced_text [] [] fs else Ok line) (unnamed (not (slice_index line 0 == 62)) (goes_on line) (begins_resolved fs) fs h)

line-plain : (c : Parts) (coded : Option CodedData) (limits : List NodeLimits) (line : List ℕ) → is_of_live (line_fields line) ≡ false → resolves line ≡ false
    → line_heard c coded limits [] line ≡ of_script (read_worded_line c coded limits line)
line-plain c coded limits line own stands =
    ap (λ r. script_field r >>= text_heard c coded limits) (unreplaced line stands) ∙ heard-plain c coded limits line (line_fields line) own

answer-of : (f : AnswerFormat) (coded : Option CodedData) (limits : List NodeLimits) (physical : Bool) (c : Parts) (opening capacity : ℕ) (b : BenchState) (unmet : Bool) (line : List ℕ) (said : Result (Option ScriptLine) Reason)
    → (length line ≤ most_bytes) × (is_of_live (line_fields line) ≡ false) × (resolves line ≡ false) → read_worded_line c coded limits line ≡ said
    → (reply (hand_of f coded limits physical c opening capacity b unmet) (short line)).0 ≡ (heard_answer (hand_of f coded limits physical c opening capacity b unmet) (of_script said)).0
answer-of f coded limits physical c opening capacity b unmet line said plain e =
    let h = hand_of f coded limits physical c opening capacity b unmet in
    ap (λ o. (reply h o).0) (short-line line plain.0)
    ∙ ap (λ s. (heard_answer h s).0) (line-plain c coded limits line plain.1 plain.2 ∙ ap of_script e)

-- ---- all lines
abbrev lines_or : Script → List (LinePlace × ScriptLine)
lines_or (Ok ls) = ls
lines_or (Err bad) = []

abbrev bench_or : BenchState → Result BenchState LinePlace → BenchState
bench_or b (Ok s) = s
bench_or b (Err n) = b

-- a bench in hand comes to another, and what of its lines isn't met is kept
abbrev pub Same : AnswerFormat → Option CodedData → List NodeLimits → Bool → Parts → ℕ → ℕ → List (List ℕ) → BenchState → Bool → BenchState → Bool → Type 0
Same f coded limits physical c opening capacity ls b unmet end more =
    state_after reply (hand_of f coded limits physical c opening capacity b unmet) (map strip_carriage_return ls) ≡ hand_of f coded limits physical c opening capacity end (unmet || more)

abbrev pub Goes : AnswerFormat → Option CodedData → List NodeLimits → Bool → Parts → ℕ → ℕ → List (List ℕ) → Type 0
Goes f coded limits physical c opening capacity ls = (n : ℕ) (b end : BenchState) (unmet : Bool) (said : List (LinePlace × ScriptLine)) → b.left ≤ slot_limit
    → has_test said ≡ false → read_lines c coded limits n ls ≡ Ok said → in_turn c opening capacity (Ok b) said ≡ Ok end
    → Same f coded limits physical c opening capacity ls b unmet end (some_unmet (judged_from false [] c opening capacity b said))

nothing-goes : (f : AnswerFormat) (coded : Option CodedData) (limits : List NodeLimits) (physical : Bool) (c : Parts) (opening capacity : ℕ) → Goes f coded limits physical c opening capacity []
nothing-goes f coded limits physical c opening capacity n b end unmet [] le none e h =
    ap (λ o. hand_of f coded limits physical c opening capacity (bench_or b o) unmet) h ∙ ap (hand_of f coded limits physical c opening capacity end) (sym (or-none unmet))
nothing-goes f coded limits physical c opening capacity n b end unmet (x ∷ xs) le none e h = absurd (cc)

-- after a line that was made
next-goes : (f : AnswerFormat) (coded : Option CodedData) (limits : List NodeLimits) (physical : Bool) (c : Parts) (opening capacity : ℕ) (b end : BenchState) (unmet : Bool) (l : LinePlace × ScriptLine) (line : List ℕ) (ls : List (List ℕ)) (rest : List (LinePlace × ScriptLine)) (o : Result BenchState LinePlace)
    → b.left ≤ slot_limit → Goes f coded limits physical c opening capacity ls → (n : ℕ) → has_test rest ≡ false → read_lines c coded limits n ls ≡ Ok rest
    → (reply (hand_of f coded limits physical c opening capacity b unmet) (short (strip_carriage_return line))).0
    ≡ (after_line (hand_of f coded limits physical c opening capacity b unmet) (made c opening capacity (hand_of f coded limits physical c opening capacity b unmet).bench l.1)).0
    → next c opening capacity b l ≡ o → in_turn c opening capacity o rest ≡ Ok end
    → Same f coded limits physical c opening capacity (line ∷ ls) b unmet end (some_unmet (judged_from false [] c opening capacity b (l ∷ rest)))
next-goes f coded limits physical c opening capacity b end unmet l line ls rest (Err k) le goes n none e a is h = absurd (cc)
next-goes f coded limits physical c opening capacity b end unmet l line ls rest (Ok s) le goes n none e a is h =
    let m = made c opening capacity b l.1 in
    let came = told-bench l.0 m.0 s m.1 is in
    let more = some_unmet (judged_from false [] c opening capacity s rest) in
    ap (λ t. state_after reply t (map strip_carriage_return ls)) (a ∙ line-same f coded limits physical c opening capacity b s unmet l le is)
    ∙ goes n s end (unmet || is_unmet_verdict m.1) rest (line-less c opening capacity b s l le is) none e h
    ∙ ap (hand_of f coded limits physical c opening capacity end)
    (or-assoc unmet (is_unmet_verdict m.1) more
    ∙ ap (λ x. unmet || (is_unmet_verdict m.1 || some_unmet (judged_from false [] c opening capacity x rest))) (sym came)
    ∙ ap (λ t. unmet || t) (sym (unmet-more c opening capacity b l rest)))

-- a line that begins no test
made-plain : (l : ScriptLine) → begins_test l ≡ false → of_line l ≡ Ok (Some (Make l))
made-plain (line.Test name) h = absurd (cc)
made-plain (line.Step by step) h = refl
made-plain (line.Slot how) h = refl
made-plain (line.Slots s) h = refl
made-plain (line.Until s what) h = refl
made-plain (line.While s what) h = refl
made-plain (line.Expect what) h = refl
made-plain line.Forget h = refl
made-plain (line.Rule rule) h = refl

pub neither-of : (a b : Bool) → (a || b) ≡ false → (a ≡ false) × (b ≡ false)
neither-of false false h = (refl, refl)
neither-of true b h = absurd (cc)
neither-of false true h = absurd (cc)

-- a line that says this, with those after it
line-goes : (f : AnswerFormat) (coded : Option CodedData) (limits : List NodeLimits) (physical : Bool) (c : Parts) (opening capacity n : ℕ) (b end : BenchState) (unmet : Bool) (line : List ℕ) (ls : List (List ℕ)) (said : List (LinePlace × ScriptLine)) (this : Result (Option ScriptLine) Reason) (more : Script)
    → b.left ≤ slot_limit → IsPlain line → Goes f coded limits physical c opening capacity ls → read_worded_line c coded limits (strip_carriage_return line) ≡ this
    → has_test said ≡ false → read_lines c coded limits (n + 1) ls ≡ more → with_read_line (line_place n) this more ≡ Ok said → in_turn c opening capacity (Ok b) said ≡ Ok end
    → Same f coded limits physical c opening capacity (line ∷ ls) b unmet end (some_unmet (judged_from false [] c opening capacity b said))
line-goes f coded limits physical c opening capacity n b end unmet line ls said (Err why) more le plain goes is none rest e h = absurd (cc)
line-goes f coded limits physical c opening capacity n b end unmet line ls said (Ok None) more le plain goes is none rest e h =
    ap (λ t. state_after reply t (map strip_carriage_return ls)) (answer-of f coded limits physical c opening capacity b unmet (strip_carriage_return line) (Ok None) plain is)
    ∙ goes (n + 1) b end unmet said le none (rest ∙ e) h
line-goes f coded limits physical c opening capacity n b end unmet line ls said (Ok (Some l)) (Err bad) le plain goes is none rest e h = absurd (cc)
line-goes f coded limits physical c opening capacity n b end unmet line ls said (Ok (Some l)) (Ok tail) le plain goes is none rest e h =
    let same : (line_place n, l) ∷ tail ≡ said = ap lines_or e in
    let nor = neither-of (begins_test l) (has_test tail) (ap has_test same ∙ none) in
    let h0 = hand_of f coded limits physical c opening capacity b unmet in
    ap (λ t. t) (next-goes f coded limits physical c opening capacity b end unmet (line_place n, l) line ls tail (next c opening capacity b (line_place n, l)) le goes (n + 1) nor.1 rest
    (answer-of f coded limits physical c opening capacity b unmet (strip_carriage_return line) (Ok (Some l)) plain is ∙ ap (λ s. (heard_answer h0 s).0) (made-plain l nor.0)) refl
    (ap (λ ls. in_turn c opening capacity (Ok b) ls) same ∙ h))
    ∙ ap (λ ls. hand_of f coded limits physical c opening capacity end (unmet || some_unmet (judged_from false [] c opening capacity b ls))) same

all-go : (f : AnswerFormat) (coded : Option CodedData) (limits : List NodeLimits) (physical : Bool) (c : Parts) (opening capacity : ℕ) (ls : List (List ℕ)) → AllByRecursion IsPlain ls → Goes f coded limits physical c opening capacity ls
all-go f coded limits physical c opening capacity [] p = nothing-goes f coded limits physical c opening capacity
all-go f coded limits physical c opening capacity (line ∷ ls) p = λ n b end unmet said le none e h.
    line-goes f coded limits physical c opening capacity n b end unmet line ls said (read_worded_line c coded limits (strip_carriage_return line)) (read_lines c coded limits (n + 1) ls) le p.0 (all-go f coded limits physical c opening capacity ls p.1) refl none refl e h

-- what the lines of a play come to
played-bench : (js : List Judgement) (o : Result BenchState LinePlace) (run : Run) → with_judgements js o ≡ Ok run → (o ≡ Ok run.bench) × (js ≡ run.judgements)
played-bench js (Err n) run h = absurd (cc)
played-bench js (Ok b) run h = (cc, cc)

pub live-is-play : LiveIsPlay
live-is-play f coded limits physical c opening capacity ls said run plain none e h =
    let js = judgements false c opening capacity said in
    let is = played-bench js (come_to c opening capacity said) run h in
    all-go f coded limits physical c opening capacity ls plain 1 initial_bench run.bench false said (omega arith) none e is.0
    ∙ ap (hand_of f coded limits physical c opening capacity run.bench) (ap some_unmet is.1)
