-- Texts in the language of a cluster's names, as bench scripts: scripts of numbers, and logs with names.
use Rattle.std.proofs.Common.{◌≡◌, ◌∙◌, ◌+◌, ◌-◌, ◌==◌, ℕ, List, [], ◌∷◌, Bool, true, false, not, nat_lt, refl, sym, ap, arith, reverse, Option, Some, None, Result, Ok, Err, filter, length, map, slice_index, take, option_map}
use Rattle.std.specs.List.{list_any, slice_split, onto_first, take_while}
use Rattle.std.specs.Str.Lines.{strip_carriage_return}
use Rattle.std.proofs.lemmas.Grind.{common_steps}
use Rattle.std.proofs.lemmas.List.Sums.{take_while-cons}
use Rattle.lin_parts.specs.declared.parts.Parts.{Parts}
use Rattle.lin_core.specs.Runs.{entry_of, history}
use Rattle.lin_core.specs.declared.port.PortId.{PortId}
use Rattle.lin_core.specs.declared.step.Step.{Step}
use Rattle.lin_log.specs.Language.{Language, named_language, plain}
use Rattle.lin_log.specs.Said.{is_comment, is_digit, is_gap, is_port, is_not_empty, line_says, of_fields as step_of_fields, port_step, steps_from, text_says}
use Rattle.lin_log.specs.Said as log
use Rattle.lin_log.specs.Script.{script, without_reason}
use Rattle.lin_log.specs.declared.reason.Reason.{Reason}
use Rattle.lin_log.proofs.Stays.{texts-stay}
use Rattle.lin_bench.proofs.Makes.{after-history}
use Rattle.lin_bench.specs.Fields.{line_fields}
use Rattle.lin_bench.specs.Lines.{line_form, line_of_fields, read_line}
use Rattle.lin_bench.specs.Scripts.{in_tests, read, read_lines, script_in_tests}
use Rattle.lin_bench.specs.Written.{line_place, script_lines, without_mark}
use Rattle.lin_values.specs.Coded.{CodedData}
use Rattle.lin_bench.specs.Strict.{has_test}
use Rattle.lin_bench.specs.Files.{SourceData}
use Rattle.lin_bench.specs.Plain.{HasNoMarks, NamedTexts, PlainScripts, SaysSteps, resolves}
use Rattle.lin_bench.proofs.LineByLine.{line-by-line}
use Rattle.lin_bench.proofs.PlainFields.{ArePlainLines, IsPlainLine, lang, numbers-are-plain, plain-line, plain-lines, plain-rest, steps-resolve-nothing}
use Rattle.lin_bench.specs.Words.{limited_line, line_in_words, or_unmarked, read_worded_line, worded, worded_on}
use Rattle.lin_bench.proofs.OnWords.{not-worded-on, nothing-worded-on}
use Rattle.lin_bench.proofs.Wordless.{wordless}
use Rattle.lin_bench.specs.Made.{BenchState, course_of, made, steps_said, bench_after_steps}
use Rattle.lin_bench.specs.Played.{come_to, initial_bench, in_turn, judged_from, next, with_judgements}
use Rattle.lin_bench.specs.declared.got.Verdict.TheVariants.{Nothing}
use Rattle.lin_bench.proofs.RuleLaws.{unchanged}
use Rattle.lin_bench.specs.Rules.{no_rules}
use Rattle.lin_bench.specs.Slots.{Course, course_after, past_after}
use Rattle.lin_bench.specs.declared.rules.NodeLimits.{NodeLimits}
use Rattle.lin_bench.specs.declared.rules.Rules.{Rules}
use Rattle.lin_bench.specs.declared.line.ScriptLine.{ScriptLine}
use Rattle.lin_bench.specs.declared.place.LinePlace.{LinePlace}
use Rattle.lin_bench.specs.declared.reason.Reason.{Reason as BenchReason}
use Rattle.lin_bench.specs.declared.line.ScriptLine.TheVariants as line

abbrev not_comment : List ℕ → Bool
not_comment f = not (is_comment true f)

-- ---- lines
comment-first : (ps : List (List ℕ)) → take_while not_comment (filter is_not_empty (onto_first 35 ps)) ≡ []
comment-first [] = refl
comment-first (p ∷ ps) =
    let t : is_not_empty (35 ∷ p) ≡ true = grind (arith, common_steps) in
    rw t (take_while-cons not_comment (35 ∷ p) (filter is_not_empty ps))

comment-fields : (l : List ℕ) → (slice_index l 0 == 35) ≡ true → line_fields l ≡ []
comment-fields [] h = refl
comment-fields (x ∷ xs) h =
    let e : x ≡ 35 = grind (arith, common_steps) in
    rw e (comment-first (slice_split (is_gap true) xs))

ported : (r : Result (PortId × Step) Reason) (o : Option (PortId × Step)) → log.◌>>=◌ r (λ s. Ok (Some s)) ≡ Ok o
    → (s : PortId × Step) × (r ≡ Ok s) × (o ≡ Some s)
ported (Ok s) o e = (s, refl, cc)
ported (Err why) o e = absurd (cc)

-- a line of a bench script for a step
abbrev said_line : Option (PortId × Step) → Result (Option ScriptLine) BenchReason
said_line o = Ok (option_map (λ s. line.Step s.0 s.1) o)

line-of : (c : Parts) (word : List ℕ) (fs : List (List ℕ)) (s : PortId × Step) → is_port word ≡ true → port_step (named_language c) word fs ≡ Ok s
    → line_of_fields c (word ∷ fs) ≡ said_line (Some s)
unfolding line_form
line-of c word fs s i h = rw (i, h) refl

fields-read : (c : Parts) (word : List ℕ) (fs : List (List ℕ)) (o : Option (PortId × Step)) (t : Bool) → is_port word ≡ t
    → step_of_fields (named_language c) (word ∷ fs) ≡ Ok o → line_of_fields c (word ∷ fs) ≡ said_line o
fields-read c word fs o true i e =
    let k : log.◌>>=◌ (port_step (named_language c) word fs) (λ s. Ok (Some s)) ≡ Ok o = rw i at e in
    let p = ported (port_step (named_language c) word fs) o k in
    line-of c word fs p.0 i p.1 ∙ ap said_line (sym p.2)
fields-read c word fs o false i e = let n : Err _ ≡ Ok o = rw i at e in absurd (cc)

all-read : (c : Parts) (fs : List (List ℕ)) (o : Option (PortId × Step)) → step_of_fields (named_language c) fs ≡ Ok o → line_of_fields c fs ≡ said_line o
all-read c [] o e = let same : None ≡ o = cc in ap said_line same
all-read c (word ∷ fs) o e = fields-read c word fs o (is_port word) refl e

nothing-read : (c : Parts) (l : List ℕ) (t : Bool) → (slice_index l 0 == 62) ≡ t → (t ≡ false → line_fields l ≡ []) → read_line c l ≡ said_line None
unfolding read_line
nothing-read c l true k e = rw k refl
nothing-read c l false k e = let none = e refl in rw (k, none) refl

line-by : (c : Parts) (l : List ℕ) (o : Option (PortId × Step)) (a b : Bool) → (slice_index l 0 == 35) ≡ a → (slice_index l 0 == 62) ≡ b
    → line_says (named_language c) l ≡ Ok o → read_line c l ≡ said_line o
unfolding line_says read_line
line-by c l o true b h k e =
    let s : Ok None ≡ Ok o = rw h at e in
    let same : None ≡ o = cc in
    nothing-read c l b k (λ f. comment-fields l h) ∙ ap said_line same
line-by c l o false true h k e =
    let s : Ok None ≡ Ok o = rw (h, k) at e in
    let same : None ≡ o = cc in
    nothing-read c l true k (λ f. absurd (cc)) ∙ ap said_line same
line-by c l o false false h k e = rw k (all-read c (line_fields l) o (rw (h, k) at e))

reply-read : (c : Parts) (l : List ℕ) → (slice_index l 0 == 62) ≡ true → read_line c l ≡ Ok None
unfolding read_line
reply-read c l h = rw h refl

pub line-read : (c : Parts) (l : List ℕ) (o : Option (PortId × Step)) → line_says (named_language c) l ≡ Ok o
    → read_line c l ≡ said_line o
line-read c l o e = line-by c l o (slice_index l 0 == 35) (slice_index l 0 == 62) refl refl e

-- a line of a step says the same where what signals mean is known
none-worded : (c : Parts) (l : List ℕ) (o : Option (PortId × Step)) (a : Bool) → HasNoMarks c → (slice_index l 0 == 62) ≡ false → (slice_index l 0 == 35) ≡ a
    → line_says (named_language c) l ≡ Ok o → worded (line_fields l) ≡ None
unfolding line_says
none-worded c l o true none k h e = ap worded (comment-fields l h) ∙ wordless c [] None none refl
none-worded c l o false none k h e = wordless c (line_fields l) o none (rw (h, k) at e)

-- no line of a step is one of `on`
fields-off : (c : Parts) (word : List ℕ) (fs : List (List ℕ)) (o : Option (PortId × Step)) (t : Bool) → is_port word ≡ t
    → step_of_fields (named_language c) (word ∷ fs) ≡ Ok o → worded_on (word ∷ fs) ≡ None
fields-off c word fs o true i e = not-worded-on word fs i
fields-off c word fs o false i e = let n : Err _ ≡ Ok o = rw i at e in absurd (cc)

all-off : (c : Parts) (fs : List (List ℕ)) (o : Option (PortId × Step)) → step_of_fields (named_language c) fs ≡ Ok o → worded_on fs ≡ None
all-off c [] o e = nothing-worded-on
all-off c (word ∷ fs) o e = fields-off c word fs o (is_port word) refl e

none-on : (c : Parts) (l : List ℕ) (o : Option (PortId × Step)) (a : Bool) → (slice_index l 0 == 62) ≡ false → (slice_index l 0 == 35) ≡ a
    → line_says (named_language c) l ≡ Ok o → worded_on (line_fields l) ≡ None
unfolding line_says
none-on c l o true k h e = ap worded_on (comment-fields l h) ∙ nothing-worded-on
none-on c l o false k h e = all-off c (line_fields l) o (rw (h, k) at e)

limited-stays : (limits : List NodeLimits) (o : Option (PortId × Step)) → limited_line limits (said_line o) ≡ said_line o
limited-stays limits None = refl
limited-stays limits (Some s) = refl

coded-by : (c : Parts) (k : CodedData) (limits : List NodeLimits) (l : List ℕ) (o : Option (PortId × Step)) (b : Bool) → HasNoMarks c → (slice_index l 0 == 62) ≡ b
    → line_says (named_language c) l ≡ Ok o → read_worded_line c (Some k) limits l ≡ read_line c l
unfolding read_worded_line line_in_words
coded-by c k limits l o true none h e = rw h (sym (reply-read c l h))
coded-by c k limits l o false none h e =
    let n : worded (line_fields l) ≡ None = none-worded c l o (slice_index l 0 == 35) none h refl e in
    let off : worded_on (line_fields l) ≡ None = none-on c l o (slice_index l 0 == 35) h refl e in
    rw (h, off, n) (ap (λ r. limited_line limits (or_unmarked c k (line_fields l) r)) (line-read c l o e) ∙ limited-stays limits o ∙ sym (line-read c l o e))

pub worded-line-read : (c : Parts) (k : CodedData) (limits : List NodeLimits) (l : List ℕ) (o : Option (PortId × Step)) → HasNoMarks c → line_says (named_language c) l ≡ Ok o
    → read_worded_line c (Some k) limits l ≡ said_line o
worded-line-read c k limits l o none e = coded-by c k limits l o (slice_index l 0 == 62) none refl e ∙ line-read c l o e

-- ... or isn't
pub plain-line-read : (c : Parts) (limits : List NodeLimits) (l : List ℕ) (o : Option (PortId × Step)) → line_says (named_language c) l ≡ Ok o → read_worded_line c None limits l ≡ said_line o
unfolding read_worded_line line_in_words
plain-line-read c limits l o e = ap (limited_line limits) (line-read c l o e) ∙ limited-stays limits o

-- ---- lines in order, each with its number
abbrev pub lines_of : List (ℕ × (PortId × Step)) → List (LinePlace × ScriptLine)
lines_of [] = []
lines_of (t ∷ ts) = (line_place t.0, line.Step t.1.0 t.1.1) ∷ lines_of ts

abbrev pub steps_of : List (ℕ × (PortId × Step)) → List (PortId × Step)
steps_of [] = []
steps_of (t ∷ ts) = t.1 ∷ steps_of ts

-- what signals mean is known and no signal is called as a mark, or it isn't known
abbrev IsQuiet : Parts → Option CodedData → Type 0
IsQuiet c None = Unit {0}
IsQuiet c (Some k) = HasNoMarks c

quiet-read : (c : Parts) (k : Option CodedData) (limits : List NodeLimits) (l : List ℕ) (o : Option (PortId × Step)) → IsQuiet c k → line_says (named_language c) l ≡ Ok o → read_worded_line c k limits l ≡ said_line o
quiet-read c None limits l o none e = plain-line-read c limits l o e
quiet-read c (Some k) limits l o none e = worded-line-read c k limits l o none e

record SayLines (c : Parts) (n : ℕ) (ls : List (List ℕ)) (steps : List (PortId × Step)) : Type 0 where
  numbered : List (ℕ × (PortId × Step))
  reading : (k : Option CodedData) (limits : List NodeLimits) → IsQuiet c k → read_lines c k limits n ls ≡ Ok (lines_of numbered)
  steps_are : steps ≡ steps_of numbered

more-steps : (c : Parts) (n : ℕ) (l : List ℕ) (ls : List (List ℕ)) (o : Option (PortId × Step)) (r : log.Steps) (steps : List (PortId × Step))
    → ((ys : List (PortId × Step)) → r ≡ Ok ys → SayLines c (n + 1) ls ys) → line_says (named_language c) (strip_carriage_return l) ≡ Ok o
    → log.with_said n (Ok o) r ≡ Ok steps → SayLines c n (l ∷ ls) steps
more-steps c n l ls None r steps more h e =
    let q = more steps e in
    record {
      numbered = q.numbered;
      reading = λ k limits quiet. rw (quiet-read c k limits (strip_carriage_return l) None quiet h, q.reading k limits quiet) refl;
      steps_are = q.steps_are;
    }
more-steps c n l ls (Some s) (Err bad) steps more h e = absurd (cc)
more-steps c n l ls (Some s) (Ok ys) steps more h e =
    let q = more ys refl in
    let same : steps ≡ s ∷ ys = cc in
    record {
      numbered = (n, s) ∷ q.numbered;
      reading = λ k limits quiet. rw (quiet-read c k limits (strip_carriage_return l) (Some s) quiet h, q.reading k limits quiet) refl;
      steps_are = same ∙ ap (λ ss. s ∷ ss) q.steps_are;
    }

lines-by : (c : Parts) (n : ℕ) (l : List ℕ) (ls : List (List ℕ)) (steps : List (PortId × Step)) (r : Result (Option (PortId × Step)) Reason)
    → ((ys : List (PortId × Step)) → steps_from (named_language c) (n + 1) ls ≡ Ok ys → SayLines c (n + 1) ls ys)
    → line_says (named_language c) (strip_carriage_return l) ≡ r → steps_from (named_language c) n (l ∷ ls) ≡ Ok steps → SayLines c n (l ∷ ls) steps
lines-by c n l ls steps (Err why) more h e = let no : Err _ ≡ Ok steps = rw h at e in absurd (cc)
lines-by c n l ls steps (Ok o) more h e = more-steps c n l ls o (steps_from (named_language c) (n + 1) ls) steps more h (rw h at e)

lines-say : (c : Parts) (n : ℕ) (ls : List (List ℕ)) (steps : List (PortId × Step)) → steps_from (named_language c) n ls ≡ Ok steps → SayLines c n ls steps
lines-say c n [] steps e = record { numbered = []; reading = λ k limits quiet. refl; steps_are = cc }
lines-say c n (l ∷ ls) steps e =
    lines-by c n l ls steps (line_says (named_language c) (strip_carriage_return l)) (λ ys k. lines-say c (n + 1) ls ys k) refl e

-- ---- what they come to
one-step : (c : Parts) (o room : ℕ) (b : BenchState) (s : PortId × Step) → b.rules ≡ no_rules
    → bench_after_steps c o room b 0 (s ∷ []) ≡ record b { past = entry_of c o room b.past s ∷ b.past }
one-step c o room b s h =
    let left : b.left - 0 ≡ b.left = omega arith in
    let past = entry_of c o room b.past s ∷ b.past in
    let is : course_after c o room (course_of b) (s ∷ []) ≡ record { past = past; rules = no_rules } =
    ap (λ (r : Rules). course_after c o room (record { past = b.past; rules = r }) (s ∷ [])) h ∙ unchanged c o room b.past (s ∷ []) in
    ap (λ (k : Course). record b { past = k.past; rules = k.rules; left = b.left - 0 }) is
    ∙ ap (λ (k : ℕ). record b { past = past; rules = no_rules; left = k }) left
    ∙ ap (λ (r : Rules). record b { past = past; rules = r }) (sym h)

one-turn : (c : Parts) (o room : ℕ) (b : BenchState) (n : LinePlace) (by : PortId) (step : Step) → b.rules ≡ no_rules
    → next c o room b (n, line.Step by step) ≡ Ok (record b { past = entry_of c o room b.past (by, step) ∷ b.past })
unfolding made steps_said
one-turn c o room b n by step h =
    let few : nat_lt b.left 0 ≡ false = grind (arith, common_steps) in
    rw few (ap (λ (x : BenchState). Ok x) (one-step c o room b (by, step) h))

turns : (c : Parts) (o room : ℕ) (b : BenchState) (ts : List (ℕ × (PortId × Step))) → b.rules ≡ no_rules
    → in_turn c o room (Ok b) (lines_of ts) ≡ Ok (record b { past = past_after c o room b.past (steps_of ts) })
turns c o room b [] h = refl
turns c o room b (t ∷ ts) h =
    ap (λ r. in_turn c o room r (lines_of ts)) (one-turn c o room b (line_place t.0) t.1.0 t.1.1 h)
    ∙ turns c o room (record b { past = entry_of c o room b.past t.1 ∷ b.past }) ts h

-- a step expects nothing
no-verdict : (c : Parts) (o room : ℕ) (b : BenchState) (by : PortId) (step : Step) → (made c o room b (line.Step by step)).1 ≡ Nothing
unfolding made steps_said
no-verdict c o room b by step =
    let few : nat_lt b.left 0 ≡ false = grind (arith, common_steps) in
    rw few refl

unjudged : (c : Parts) (o room : ℕ) (b : BenchState) (ts : List (ℕ × (PortId × Step)))
    → judged_from false [] c o room b (lines_of ts) ≡ []
unjudged c o room b [] = refl
unjudged c o room b (t ∷ ts) =
    rw (no-verdict c o room b t.1.0 t.1.1) (unjudged c o room (made c o room b (line.Step t.1.0 t.1.1)).0 ts)

-- ---- no text that says steps begins with the mark EF BB BF
first-word : (x : ℕ) (ps : List (List ℕ)) → (x == 35) ≡ false
    → (w : List ℕ) × (rest : List (List ℕ)) × (take_while not_comment (filter is_not_empty (onto_first x ps)) ≡ (x ∷ w) ∷ rest)
first-word x [] h =
    ([], [], take_while-cons not_comment (x ∷ []) [] ∙ rw h refl)
first-word x (p ∷ ps) h =
    let t : is_not_empty (x ∷ p) ≡ true = grind (arith, common_steps) in
    (p, take_while not_comment (filter is_not_empty ps), rw t (take_while-cons not_comment (x ∷ p) (filter is_not_empty ps) ∙ rw h refl))

mark-fields : (xs : List ℕ) → (w : List ℕ) × (rest : List (List ℕ)) × (line_fields (239 ∷ xs) ≡ (239 ∷ w) ∷ rest)
mark-fields xs = first-word 239 (slice_split (is_gap true) xs) refl

mark-line : (c : Parts) (xs : List ℕ) (o : Option (PortId × Step)) → line_says (named_language c) (239 ∷ xs) ≡ Ok o → ⊥
unfolding line_says
mark-line c xs o e =
    let f = mark-fields xs in
    let n : Err _ ≡ Ok o = rw f.2 at e in
    absurd (cc)

stripped : (x : ℕ) (p : List ℕ) (t : Bool) → (slice_index (x ∷ p) (length (x ∷ p) - 1) == 13) ≡ t → (x == 13) ≡ false
    → (q : List ℕ) × (strip_carriage_return (x ∷ p) ≡ x ∷ q)
stripped x [] true h k = absurd (cc)
stripped x (y ∷ ys) true h k =
    let s : take (length (x ∷ y ∷ ys) - 1) (x ∷ y ∷ ys) ≡ x ∷ take (length ys) (y ∷ ys) = grind (arith, common_steps) in
    (take (length ys) (y ∷ ys), rw h s)
stripped x p false h k = (p, rw h refl)

marked-by : (c : Parts) (p q : List ℕ) (ps : List (List ℕ)) (steps : List (PortId × Step)) (r : Result (Option (PortId × Step)) Reason)
    → strip_carriage_return (239 ∷ p) ≡ 239 ∷ q → line_says (named_language c) (239 ∷ q) ≡ r → steps_from (named_language c) 1 ((239 ∷ p) ∷ ps) ≡ Ok steps → ⊥
marked-by c p q ps steps (Err why) s h e = let no : Err _ ≡ Ok steps = rw (s, h) at e in absurd (cc)
marked-by c p q ps steps (Ok o) s h e = mark-line c q o h

marked : (c : Parts) (p : List ℕ) (ps : List (List ℕ)) (steps : List (PortId × Step)) → steps_from (named_language c) 1 ((239 ∷ p) ∷ ps) ≡ Ok steps → ⊥
marked c p ps steps e =
    let s = stripped 239 p (slice_index (239 ∷ p) (length (239 ∷ p) - 1) == 13) refl refl in
    marked-by c p s.0 ps steps (line_says (named_language c) (239 ∷ s.0)) s.1 refl e

onto-marked : (c : Parts) (ps : List (List ℕ)) (steps : List (PortId × Step)) → steps_from (named_language c) 1 (onto_first 239 ps) ≡ Ok steps → ⊥
onto-marked c [] steps e = marked c [] [] steps e
onto-marked c (p ∷ ps) steps e = marked c p ps steps e

mark-onto : (c : Parts) (x : ℕ) (ps : List (List ℕ)) (steps : List (PortId × Step)) (t : Bool) → (x == 239) ≡ t
    → steps_from (named_language c) 1 (onto_first x ps) ≡ Ok steps → (x == 239) ≡ false
mark-onto c x ps steps true h e =
    let same : x ≡ 239 = grind (arith, common_steps) in
    absurd (onto-marked c ps steps (rw same at e))
mark-onto c x ps steps false h e = h

end-first : (x : ℕ) → (x == 10) ≡ true → (x == 239) ≡ false
end-first x h = grind (arith, common_steps)

mark-by : (c : Parts) (x : ℕ) (xs : List ℕ) (steps : List (PortId × Step)) (t : Bool) → (x == 10) ≡ t
    → steps_from (named_language c) 1 (slice_split (λ b. b == 10) (x ∷ xs)) ≡ Ok steps → (x == 239) ≡ false
mark-by c x xs steps true h e = end-first x h
mark-by c x xs steps false h e = mark-onto c x (slice_split (λ b. b == 10) xs) steps (x == 239) refl (rw h at e)

no-mark : (c : Parts) (text : List ℕ) (steps : List (PortId × Step)) → steps_from (named_language c) 1 (slice_split (λ b. b == 10) text) ≡ Ok steps → without_mark text ≡ text
no-mark c [] steps e = refl
no-mark c (x ∷ xs) steps e = rw (mark-by c x xs steps (x == 10) refl e) refl

-- steps begin no test, and are in none
no-test : (ts : List (ℕ × (PortId × Step))) → has_test (lines_of ts) ≡ false
no-test [] = refl
no-test (t ∷ ts) = no-test ts

no-tests : (ts : List (ℕ × (PortId × Step))) → in_tests 0 (lines_of ts) ≡ lines_of ts
no-tests [] = refl
no-tests (t ∷ ts) = ap (λ ls. (line_place t.0, line.Step t.1.0 t.1.1) ∷ ls) (no-tests ts)

-- ---- no line of a text that says steps stands for others
unsaid-by : (l : List ℕ) (t : Bool) → (slice_index l 0 == 62) ≡ t → (t ≡ false → line_fields l ≡ []) → resolves l ≡ false
unsaid-by l true k e = rw k refl
unsaid-by l false k e = let none = e refl in rw (k, none) refl

line-resolves-by : (v : Language) (l : List ℕ) (o : Option (PortId × Step)) (a b : Bool) → IsPlainLine v l → (slice_index l 0 == 35) ≡ a → (slice_index l 0 == 62) ≡ b
    → line_says (lang v) l ≡ Ok o → resolves l ≡ false
unfolding line_says
line-resolves-by v l o true b clear h k e = unsaid-by l b k (λ f. comment-fields l h)
line-resolves-by v l o false true clear h k e = unsaid-by l true k (λ f. absurd (cc))
line-resolves-by v l o false false clear h k e = steps-resolve-nothing v l o clear (rw (h, k) at e)

line-resolves : (v : Language) (l : List ℕ) (o : Option (PortId × Step)) → IsPlainLine v l → line_says (lang v) l ≡ Ok o → resolves l ≡ false
line-resolves v l o clear e = line-resolves-by v l o (slice_index l 0 == 35) (slice_index l 0 == 62) clear refl refl e

both-say : (n : ℕ) (r : Result (Option (PortId × Step)) Reason) (more : log.Steps) (steps : List (PortId × Step)) → log.with_said n r more ≡ Ok steps
    → (o : Option (PortId × Step)) × (ys : List (PortId × Step)) × (r ≡ Ok o) × (more ≡ Ok ys)
both-say n (Err why) more steps e = absurd (cc)
both-say n (Ok None) more steps e = (None, steps, refl, e)
both-say n (Ok (Some s)) (Ok ys) steps e = (Some s, ys, refl, refl)
both-say n (Ok (Some s)) (Err bad) steps e = absurd (cc)

none-resolves : (v : Language) (ls : List (List ℕ)) (n : ℕ) (steps : List (PortId × Step)) → ArePlainLines v ls → steps_from (lang v) n ls ≡ Ok steps
    → list_any resolves (map strip_carriage_return ls) ≡ false
none-resolves v [] n steps clear e = refl
none-resolves v (l ∷ ls) n steps clear e =
    let p = both-say n (line_says (lang v) (strip_carriage_return l)) (steps_from (lang v) (n + 1) ls) steps e in
    let first = line-resolves v (strip_carriage_return l) p.0 (plain-line v l ls clear) p.2 in
    let rest = none-resolves v ls (n + 1) p.1 (plain-rest v l ls clear) p.3 in
    rw (first, rest) refl

nothing-resolved : (c : Parts) (k : Option CodedData) (limits : List NodeLimits) (s : SourceData) (text : List ℕ) → s.text ≡ text → list_any resolves (script_lines text) ≡ false
    → read c k limits s ≡ script_in_tests 0 (read_lines c k limits 1 (slice_split (λ b. b == 10) (without_mark text)))
nothing-resolved c k limits s text same none =
    line-by-line c k limits s (ap (λ t. list_any resolves (script_lines t)) same ∙ none)
    ∙ ap (λ t. script_in_tests 0 (read_lines c k limits 1 (slice_split (λ b. b == 10) (without_mark t)))) same

-- ---- texts that say steps and nothing else
says-steps : (c : Parts) (opening capacity : ℕ) (text : List ℕ) (steps : List (PortId × Step)) → steps_from (named_language c) 1 (slice_split (λ b. b == 10) text) ≡ Ok steps
    → list_any resolves (script_lines text) ≡ false → SaysSteps c opening capacity text steps
says-steps c opening capacity text steps e nothing =
    let q = lines-say c 1 (slice_split (λ b. b == 10) text) steps e in
    let alone : (limits : List NodeLimits) → read_lines c None limits 1 (slice_split (λ b. b == 10) (without_mark text)) ≡ Ok (lines_of q.numbered) =
    λ limits. rw (no-mark c text steps e) (q.reading None limits tt) in
    let worded : HasNoMarks c → (k : CodedData) (limits : List NodeLimits) → read_lines c (Some k) limits 1 (slice_split (λ b. b == 10) (without_mark text)) ≡ Ok (lines_of q.numbered) =
    λ none k limits. rw (no-mark c text steps e) (q.reading (Some k) limits none) in
    record {
      lines = lines_of q.numbered;
      unresolved = nothing;
      reading = λ limits s same. nothing-resolved c None limits s text same nothing ∙ ap (script_in_tests 0) (alone limits) ∙ ap Ok (no-tests q.numbered);
      coded = λ none k limits s same. nothing-resolved c (Some k) limits s text same nothing ∙ ap (script_in_tests 0) (worded none k limits) ∙ ap Ok (no-tests q.numbered);
      plainly = alone;
      plainly_coded = worded;
      untested = no-test q.numbered;
      steps_alone =
          ap (λ js. with_judgements js (come_to c opening capacity (lines_of q.numbered))) (unjudged c opening capacity initial_bench q.numbered)
          ∙ ap (with_judgements []) (turns c opening capacity initial_bench q.numbered refl)
          ∙ ap (λ past. Ok (record { bench = record initial_bench { past = past }; judgements = [] }))
          (after-history c opening capacity [] (steps_of q.numbered) ∙ ap (λ ss. history c opening capacity (reverse ss)) (sym q.steps_are));
    }

pub named-texts : NamedTexts
unfolding text_says
named-texts c opening capacity text steps names e =
    says-steps c opening capacity text steps e
    (rw (no-mark c text steps e) (none-resolves (named_language c) (slice_split (λ b. b == 10) text) 1 steps (plain-lines c text names) e))

reasonless : (r : log.Steps) (steps : List (PortId × Step)) → without_reason r ≡ Ok steps → r ≡ Ok steps
reasonless (Ok ys) steps e = cc
reasonless (Err bad) steps e = absurd (cc)

numbered-steps : (v : Language) (text : List ℕ) (steps : List (PortId × Step)) → script text ≡ Ok steps → steps_from (lang v) 1 (slice_split (λ b. b == 10) text) ≡ Ok steps
unfolding script text_says
numbered-steps v text steps e = texts-stay (lang v) text steps (reasonless (text_says plain text) steps e)

pub plain-scripts : PlainScripts
plain-scripts c opening capacity text steps e =
    let named = numbered-steps (named_language c) text steps e in
    says-steps c opening capacity text steps named
    (rw (no-mark c text steps named)
    (none-resolves plain (slice_split (λ b. b == 10) text) 1 steps (numbers-are-plain (slice_split (λ b. b == 10) text)) (numbered-steps plain text steps e)))
