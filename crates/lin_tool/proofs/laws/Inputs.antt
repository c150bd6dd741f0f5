-- A transcript is an input of lines again, which come to the same log.
use Rattle.std.proofs.Common.{◌≡◌, ◌∙◌, ℕ, ◌+◌, ◌==◌, ◌≤◌, Bool, true, false, not, nat_le, List, [], ◌∷◌, ◌++◌, refl, sym, ap, subst, arith, codes, filter, flat_map, length, map, reverse, slice_index, Option, Some, None, option_map, Result, Ok, Err, if◌then◌else◌}
use Rattle.std.specs.Prelude.{IfSome}
use Rattle.std.specs.List.{All, AllByRecursion, list_any, onto_first, slice_split, take_while}
use Rattle.std.specs.Str.{bytes_eq}
use Rattle.std.specs.Str.Lines.{strip_carriage_return}
use Rattle.std.proofs.Math.Numerals.{one-add}
use Rattle.std.proofs.lemmas.Grind.{common_steps}
use Rattle.std.proofs.lemmas.List.{reverse-reverse}
use Rattle.std.proofs.lemmas.Slice.Eq.{bytes_eq-Decides}
use Rattle.lin_parts.specs.declared.parts.Parts.{Parts}
use Rattle.lin_core.specs.Runs.{entry_of, history, steps_of}
use Rattle.lin_core.specs.declared.log.LogEntry.{LogEntry}
use Rattle.lin_core.specs.declared.port.PortId.{PortId}
use Rattle.lin_core.specs.declared.port.PortId.TheVariants.{Bus, Host, Node}
use Rattle.lin_core.specs.declared.step.Step.{Step}
use Rattle.lin_log.specs.Language.{Language, named_language, plain}
use Rattle.lin_log.specs.Laws.{FitsEntry, HasNames}
use Rattle.lin_log.specs.Said.{is_comment, is_gap, is_not_empty, step_form}
use Rattle.lin_log.specs.Words.{log_text, reply_line, step_line}
use Rattle.lin_log.proofs.Runs.{steps_of-reverse}
use Rattle.lin_export.specs.Named.{reply_lines}
use Rattle.lin_bench.specs.Fields.{line_fields}
use Rattle.lin_values.specs.Coded.{CodedData}
use Rattle.lin_bench.specs.Lines.{line_form, line_of_fields, read_line}
use Rattle.lin_bench.specs.Plain.{HasNoMarks, HasPlainNames, SaysSteps, resolves}
use Rattle.lin_bench.specs.Scripts.{Script, read, read_lines, with_read_line}
use Rattle.lin_bench.specs.Written.{line_place, without_mark}
use Rattle.lin_bench.specs.Words.{limited_line, line_in_words, read_worded_line, worded, worded_on}
use Rattle.lin_bench.specs.Made.{BenchState}
use Rattle.lin_bench.specs.declared.rules.NodeLimits.{NodeLimits}
use Rattle.lin_bench.specs.declared.line.ScriptLine.{ScriptLine}
use Rattle.lin_bench.specs.declared.place.LinePlace.{LinePlace}
use Rattle.lin_bench.specs.declared.reason.Reason.{Reason as ScriptReason}
use Rattle.lin_live.proofs.Cuts.{pieces-some}
use Rattle.lin_live.proofs.Growth.{Keeps, kept-made}
use Rattle.lin_live.proofs.Plays.{live-is-play, neither-of}
use Rattle.lin_live.specs.Lines.{but_last, last_line as last_of, last_one, lines, pieces_at_lf}
use Rattle.lin_live.specs.Play.{IsPlain, is_of_live, in_hand_of, empty_run}
use Rattle.lin_live.specs.Told.{AllHeard, Ending, HandData, entries_text, gone_back, heard_as, heard_by, is_text, last_line, reply, shown_coding, heard_answer}
use Rattle.lin_live.specs.Transcript.{state_after, most_bytes, short, transcript}
use Rattle.lin_live.specs.declared.answer_format.AnswerFormat.{AnswerFormat}
use Rattle.lin_live.specs.declared.answer_format.AnswerFormat.TheVariants.{Log, Named, Jsonl}
use Rattle.lin_live.specs.Heard.{Heard}
use Rattle.lin_live.specs.Heard.Heard.{Ask, GoBack, Make, SetMark, SetParameter}
use Rattle.lin_live.specs.Answers.{KeepsLog}
use Rattle.lin_live.specs.Marking.{Marked, bench_at}
use Rattle.lin_live.specs.declared.reason.Reason.{Reason}
use Rattle.lin_tool.specs.laws.Transcripts.{AreShort, IsTranscript, TranscriptsAreInputs, anew, log_after}
use Rattle.lin_tool.proofs.laws.LogLines.{plain_replies}
use Rattle.lin_tool.proofs.laws.Scripts.{strip-first, transcripts-are-bench-scripts}

-- ---- a log in hand is the history of its own steps
abbrev IsHistory : Parts → ℕ → ℕ → List LogEntry → Type 0
IsHistory c opening capacity past = past ≡ history c opening capacity (steps_of past)

history-keeps : (c : Parts) (opening capacity : ℕ) → Keeps c opening capacity (IsHistory c opening capacity)
history-keeps c opening capacity past s h = ap (λ (p : List LogEntry). entry_of c opening capacity p s ∷ p) h

abbrev HasHistory : HandData → Type 0
HasHistory h = IsHistory h.cluster h.opening h.capacity h.bench.past

told-history : (h : HandData) (said : Result (Option Heard) Reason) → KeepsLog said → HasHistory h → HasHistory (heard_answer h said).0
told-history h (Err why) f k = k
told-history h (Ok None) f k = k
told-history h (Ok (Some (Ask asked))) f k = k
told-history h (Ok (Some (SetMark name))) f k = k
told-history h (Ok (Some (GoBack name))) f k = absurd f
told-history h (Ok (Some (SetParameter p))) f k = k
told-history h (Ok (Some (Make line))) f k =
    kept-made h.cluster h.opening h.capacity (IsHistory h.cluster h.opening h.capacity) (history-keeps h.cluster h.opening h.capacity) h.bench line k

after-history : (h : HandData) (ls : List (List ℕ)) → AllHeard KeepsLog h ls → HasHistory h → HasHistory (state_after reply h ls)
after-history h [] on k = k
after-history h (line ∷ more) (on, rest-on) k =
    after-history (reply h (short line)).0 more rest-on
    (told-history (record h { begun = true }) (heard_by h (short line)) on k)

-- what stays of a bench in hand
abbrev Stays : HandData → HandData → Type 0
Stays h k = (k.cluster ≡ h.cluster) × (k.opening ≡ h.opening) × (k.capacity ≡ h.capacity)

back-stays : (h : HandData) (name : List ℕ) (at : Option (BenchState × List Marked)) → Stays h (gone_back h name at).0
back-stays h name None = (refl, refl, refl)
back-stays h name (Some at) = (refl, refl, refl)

told-stays : (h : HandData) (said : Result (Option Heard) Reason) → Stays h (heard_answer h said).0
told-stays h (Err why) = (refl, refl, refl)
told-stays h (Ok None) = (refl, refl, refl)
told-stays h (Ok (Some (Ask asked))) = (refl, refl, refl)
told-stays h (Ok (Some (SetMark name))) = (refl, refl, refl)
told-stays h (Ok (Some (GoBack name))) = back-stays h name (bench_at h.marks name)
told-stays h (Ok (Some (SetParameter p))) = (refl, refl, refl)
told-stays h (Ok (Some (Make line))) = (refl, refl, refl)

after-stays : (h : HandData) (ls : List (List ℕ)) → Stays h (state_after reply h ls)
after-stays h [] = (refl, refl, refl)
after-stays h (line ∷ more) =
    let one = told-stays (record h { begun = true }) (heard_by h (short line)) in
    let rest = after-stays (reply h (short line)).0 more in
    (rest.0 ∙ one.0, rest.1 ∙ one.1, rest.2 ∙ one.2)

log-again : (h : HandData) (ls : List (List ℕ)) → IsTranscript h ls
    → history h.cluster h.opening h.capacity (reverse (steps_of (log_after h ls))) ≡ (state_after reply h ls).bench.past
log-again h ls t =
    let k = state_after reply h ls in
    let s = after-stays h ls in
    let was : HasHistory k = after-history h ls t.forward (rw (t.begins) refl) in
    ap (history h.cluster h.opening h.capacity) (ap reverse (steps_of-reverse k.bench.past) ∙ reverse-reverse (steps_of k.bench.past)) ∙ sym (rw (s.0, s.1, s.2) at was)

-- ---- no line of a bench script asks, sets a mark or a parameter, or goes back to a mark
is-text : (x : ℕ) (xs : List ℕ) → is_not_empty (x ∷ xs) ≡ true
is-text x xs = grind (arith, common_steps)

first-by : (ps : List (List ℕ)) → is_of_live (take_while (λ f. not (is_comment true f)) (filter is_not_empty (onto_first 62 ps))) ≡ false
first-by [] = refl
first-by (p ∷ ps) = rw (is-text 62 p, one-add) refl

is-reply : (x : ℕ) → (x == 62) ≡ true → x ≡ 62
is-reply x h = grind (arith, common_steps)

reply-asks : (line : List ℕ) → (slice_index line 0 == 62) ≡ true → is_of_live (line_fields line) ≡ false
reply-asks [] h = absurd (cc)
reply-asks (x ∷ xs) h = let is = is-reply x h in rw is (first-by (slice_split (is_gap true) xs))

asking-bad : (c : Parts) (fs : List (List ℕ)) (said : Option ScriptLine) → line_of_fields c (codes "?" ∷ fs) ≡ Ok said → ⊥
unfolding line_form step_form
asking-bad c fs said e = absurd (cc)

marking-bad : (c : Parts) (fs : List (List ℕ)) (said : Option ScriptLine) → line_of_fields c (codes "mark" ∷ fs) ≡ Ok said → ⊥
unfolding line_form step_form
marking-bad c fs said e = absurd (cc)

going-bad : (c : Parts) (fs : List (List ℕ)) (said : Option ScriptLine) → line_of_fields c (codes "back" ∷ fs) ≡ Ok said → ⊥
unfolding line_form step_form
going-bad c fs said e = absurd (cc)

setting-bad : (c : Parts) (fs : List (List ℕ)) (said : Option ScriptLine) → line_of_fields c (codes "set" ∷ fs) ≡ Ok said → ⊥
unfolding line_form step_form
setting-bad c fs said e = absurd (cc)

word-asks : (c : Parts) (v w : List ℕ) (fs : List (List ℕ)) (said : Option ScriptLine) → (line_of_fields c (v ∷ fs) ≡ Ok said → ⊥) → (t : Bool) → bytes_eq w v ≡ t
    → line_of_fields c (w ∷ fs) ≡ Ok said → t ≡ false
word-asks c v w fs said bad false h e = refl
word-asks c v w fs said bad true h e = let is = (bytes_eq-Decides w v).0 h in absurd (bad (rw is at e))

fields-ask : (c : Parts) (fs : List (List ℕ)) (said : Option ScriptLine) → line_of_fields c fs ≡ Ok said → is_of_live fs ≡ false
fields-ask c [] said e = refl
fields-ask c (w ∷ fs) said e =
    let asks = word-asks c (codes "?") w fs said (asking-bad c fs said) (bytes_eq w (codes "?")) refl e in
    let marks = word-asks c (codes "mark") w fs said (marking-bad c fs said) (bytes_eq w (codes "mark")) refl e in
    let goes = word-asks c (codes "back") w fs said (going-bad c fs said) (bytes_eq w (codes "back")) refl e in
    let sets = word-asks c (codes "set") w fs said (setting-bad c fs said) (bytes_eq w (codes "set")) refl e in
    rw (asks, marks, goes, sets) refl

line-by : (c : Parts) (line : List ℕ) (said : Option ScriptLine) (t : Bool) → (slice_index line 0 == 62) ≡ t
    → (if t then Ok None else line_of_fields c (line_fields line)) ≡ Ok said → is_of_live (line_fields line) ≡ false
line-by c line said true h e = reply-asks line h
line-by c line said false h e = fields-ask c (line_fields line) said e

unlimited : (limits : List NodeLimits) (r : Result (Option ScriptLine) ScriptReason) (said : Option ScriptLine) → limited_line limits r ≡ Ok said
    → (o : Option ScriptLine) × (r ≡ Ok o)
unlimited limits (Ok o) said e = (o, refl)
unlimited limits (Err why) said e = absurd (cc)

line-asks : (c : Parts) (limits : List NodeLimits) (line : List ℕ) (said : Option ScriptLine) → read_worded_line c None limits line ≡ Ok said → is_of_live (line_fields line) ≡ false
unfolding read_worded_line line_in_words read_line
line-asks c limits line said e =
    let u = unlimited limits (read_line c line) said e in line-by c line u.0 (slice_index line 0 == 62) refl u.1

reading-goes : (n : LinePlace) (r : Result (Option ScriptLine) ScriptReason) (more : Script) (said : List (LinePlace × ScriptLine)) → with_read_line n r more ≡ Ok said
    → ((o : Option ScriptLine) × (r ≡ Ok o)) × ((rest : List (LinePlace × ScriptLine)) × (more ≡ Ok rest))
reading-goes n (Err why) more said e = absurd (cc)
reading-goes n (Ok None) more said e = ((None, refl), (said, e))
reading-goes n (Ok (Some l)) (Ok rest) said e = ((Some l, refl), (rest, refl))
reading-goes n (Ok (Some l)) (Err bad) said e = absurd (cc)

abbrev IsShort : List ℕ → Type 0
IsShort p = length (strip_carriage_return p) ≤ most_bytes

all-plain : (c : Parts) (limits : List NodeLimits) (n : ℕ) (ps : List (List ℕ)) (said : List (LinePlace × ScriptLine)) → AllByRecursion IsShort ps → read_lines c None limits n ps ≡ Ok said
    → list_any resolves (map strip_carriage_return ps) ≡ false → AllByRecursion IsPlain ps
all-plain c limits n [] said k e u = tt
all-plain c limits n (p ∷ ps) said k e u =
    let line = strip_carriage_return p in
    let none = neither-of (resolves line) (list_any resolves (map strip_carriage_return ps)) u in
    let r = reading-goes (line_place n) (read_worded_line c None limits line) (read_lines c None limits (n + 1) ps) said e in
    ((k.0, line-asks c limits line r.0.0 r.0.1, none.0), all-plain c limits (n + 1) ps r.1.0 k.1 r.1.1 none.1)

-- ---- how a transcript begins: with no mark
abbrev IsFirst : ℕ → Type 0
IsFirst x = ((x == 239) ≡ false) × ((x == 13) ≡ false) × ((x == 10) ≡ false)

abbrev Begins : List ℕ → Type 0
Begins t = (x : ℕ) × (xs : List ℕ) × (t ≡ x ∷ xs) × IsFirst x

step-begins : (l : Language) (p : PortId) (s : Step) (a b rest : List ℕ) → Begins (((step_line l p s ++ a) ++ b) ++ rest)
step-begins l Bus s a b rest = (98, _, refl, (refl, refl, refl))
step-begins l (Host n) s a b rest = (104, _, refl, (refl, refl, refl))
step-begins l (Node n) s a b rest = (110, _, refl, (refl, refl, refl))

entries-begin : (f : AnswerFormat) (c : Parts) (k : Option CodedData) (past es : List LogEntry) (last rest : List ℕ) → is_text f ≡ true → Begins (last ++ rest) → Begins ((entries_text f c k past es ++ last) ++ rest)
entries-begin Log c k past [] last rest text b = b
entries-begin Named c k past [] last rest text b = b
entries-begin Jsonl c k past es last rest text b = absurd (cc)
entries-begin Log c k past (e ∷ es) last rest text b =
    step-begins plain e.port e.step (flat_map (reply_line plain) (plain_replies e []) ++ log_text plain plain_replies (e ∷ []) es) last rest
entries-begin Named c k past (e ∷ es) last rest text b =
    step-begins (named_language c) e.port e.step (flat_map (reply_line (named_language c)) (reply_lines c k e past) ++ log_text (named_language c) (reply_lines c k) (e ∷ past) es) last rest

last-begins : (f : AnswerFormat) (c : Parts) (k : Option CodedData) (e : Ending) (rest : List ℕ) → is_text f ≡ true → Begins (last_line f c k e ++ rest)
last-begins Log c k e rest text = (35, _, refl, (refl, refl, refl))
last-begins Named c k e rest text = (35, _, refl, (refl, refl, refl))
last-begins Jsonl c k e rest text = absurd (cc)

transcript-begins : (h : HandData) (line : List ℕ) (more : List (List ℕ)) → is_text h.format ≡ true → Begins (transcript reply h (line ∷ more))
transcript-begins h line more text =
    let begun = record h { begun = true } in
    let said = heard_by h (short line) in
    let rest = transcript reply (reply h (short line)).0 more in
    let k = shown_coding h in
    let ending = (heard_answer begun said).1.ending in
    entries-begin h.format h.cluster k h.bench.past (heard_answer begun said).1.entries (last_line h.format h.cluster k ending) rest text
    (last-begins h.format h.cluster k ending rest text)

-- a text that begins so, and a line of it, has no mark
no-mark : (t : List ℕ) → (slice_index t 0 == 239) ≡ false → without_mark t ≡ t
no-mark t h = rw h refl

begins-unmarked : (t : List ℕ) → Begins t → without_mark t ≡ t
begins-unmarked t b = no-mark t (ap (λ (l : List ℕ). slice_index l 0 == 239) b.2 ∙ b.3.0)

-- ---- the lines of an input, and its pieces
back-begun : (h : HandData) (name : List ℕ) (at : Option (BenchState × List Marked)) → h.begun ≡ true → (gone_back h name at).0.begun ≡ true
back-begun h name None b = b
back-begun h name (Some at) b = b

told-begun : (h : HandData) (said : Result (Option Heard) Reason) → h.begun ≡ true → (heard_answer h said).0.begun ≡ true
told-begun h (Err why) b = b
told-begun h (Ok None) b = b
told-begun h (Ok (Some (Ask asked))) b = b
told-begun h (Ok (Some (SetMark name))) b = b
told-begun h (Ok (Some (GoBack name))) b = back-begun h name (bench_at h.marks name) b
told-begun h (Ok (Some (SetParameter p))) b = b
told-begun h (Ok (Some (Make line))) b = b

nothing-read : (c : Parts) (k : Option CodedData) (limits : List NodeLimits) → read_worded_line c k limits [] ≡ Ok None
unfolding read_worded_line line_in_words read_line worded worded_on
nothing-read c None limits = refl
nothing-read c (Some k) limits = refl

nothing-said : (h : HandData) → h.begun ≡ true → (reply h (short [])).0 ≡ h
nothing-said h b = rw (b, nothing-read h.cluster h.coded h.limits) refl

not-empty : (x : ℕ) (xs : List ℕ) → (length (x ∷ xs) == 0) ≡ false
not-empty x xs = grind (arith, common_steps)

last-some : (x : ℕ) (xs : List ℕ) → last_of (x ∷ xs) ≡ strip_carriage_return (x ∷ xs) ∷ []
last-some x xs = rw (not-empty x xs) refl

last-same : (h : HandData) → h.begun ≡ true → (p : List ℕ) → state_after reply h (last_of p) ≡ state_after reply h (strip_carriage_return p ∷ [])
last-same h b [] = sym (nothing-said h b)
last-same h b (x ∷ xs) = ap (state_after reply h) (last-some x xs)

lines-same : (h : HandData) → h.begun ≡ true → (p : List ℕ) (ps : List (List ℕ))
    → state_after reply h (map strip_carriage_return (but_last (p ∷ ps)) ++ last_of (last_one (p ∷ ps))) ≡ state_after reply h (map strip_carriage_return (p ∷ ps))
lines-same h b p [] = last-same h b p
lines-same h b p (q ∷ qs) =
    let line = short (strip_carriage_return p) in
    lines-same (reply h line).0 (told-begun (record h { begun = true }) (heard_by h line) refl) q qs

pieces-same : (h : HandData) → h.begun ≡ true → (t : List ℕ) (ps : List (List ℕ)) (p : List ℕ) (qs : List (List ℕ)) → ps ≡ p ∷ qs → ps ≡ pieces_at_lf t
    → state_after reply h (lines t) ≡ state_after reply h (map strip_carriage_return (pieces_at_lf t))
pieces-same h b t ps p qs e is =
    ap (λ (l : List (List ℕ)). state_after reply h (map strip_carriage_return (but_last l) ++ last_of (last_one l))) (sym is ∙ e) ∙ lines-same h b p qs
    ∙ ap (λ (l : List (List ℕ)). state_after reply h (map strip_carriage_return l)) (sym e ∙ is)

-- ---- the first line
abbrev HasFirst : ℕ → List (List ℕ) → Type 0
HasFirst x ls = (line : List ℕ) × (more : List (List ℕ)) × (ls ≡ line ∷ more) × (slice_index line 0 ≡ x)

first-of : (x : ℕ) → (x == 13) ≡ false → (p : List ℕ) (qs : List (List ℕ)) → HasFirst x (map strip_carriage_return (but_last ((x ∷ p) ∷ qs)) ++ last_of (last_one ((x ∷ p) ∷ qs)))
first-of x h p [] = (_, _, last-some x p, strip-first x p h)
first-of x h p (q ∷ qs) = (_, _, refl, strip-first x p h)

onto-of : (x : ℕ) → (x == 13) ≡ false → (ps : List (List ℕ)) → HasFirst x (map strip_carriage_return (but_last (onto_first x ps)) ++ last_of (last_one (onto_first x ps)))
onto-of x h [] = first-of x h [] []
onto-of x h (p ∷ ps) = first-of x h p ps

lines-first : (x : ℕ) (xs : List ℕ) → IsFirst x → HasFirst x (lines (x ∷ xs))
lines-first x xs k = rw (k.2) (onto-of x k.1 (pieces_at_lf xs))

marked-by : (t : Bool) (line : List ℕ) → without_mark line ≡ line → option_map without_mark (if t then Some line else None) ≡ (if t then Some line else None)
marked-by true line h = ap Some h
marked-by false line h = refl

begun-same : (h : HandData) (ls : List (List ℕ)) (x : ℕ) → (x == 239) ≡ false → HasFirst x ls
    → state_after reply (anew h) ls ≡ state_after reply (in_hand_of h.format h.coded h.limits h.is_physical h.cluster h.opening h.capacity empty_run) ls
begun-same h ls x k b =
    let k1 : HandData = in_hand_of h.format h.coded h.limits h.is_physical h.cluster h.opening h.capacity empty_run in
    let line = b.0 in
    let unmarked-line : option_map without_mark (short line) ≡ short line =
    marked-by (nat_le (length line) most_bytes) line (no-mark line (ap (λ (n : ℕ). n == 239) b.3 ∙ k)) in
    ap (state_after reply (anew h)) b.2
    ∙ ap (λ o. state_after reply (heard_answer k1 (heard_as h.cluster h.coded h.limits [] o)).0 b.1) unmarked-line
    ∙ ap (state_after reply k1) (sym b.2)

-- ---- a transcript
reads-coded : (c : Parts) (opening capacity : ℕ) (t : List ℕ) (steps : List (PortId × Step)) (k : Option CodedData) (limits : List NodeLimits) → IfSome k (λ k. HasNoMarks c)
    → (says : SaysSteps c opening capacity t steps) → read_lines c k limits 1 (slice_split (λ b. b == 10) (without_mark t)) ≡ Ok says.lines
reads-coded c opening capacity t steps None limits none says = says.plainly limits
reads-coded c opening capacity t steps (Some k) limits none says = says.plainly_coded none k limits

abbrev Again : HandData → List (List ℕ) → HandData → Type 0
Again h ls k = (reverse k.bench.past ≡ log_after h ls) × (k.was_bad ≡ false)

again-by : (h : HandData) (ls : List (List ℕ)) → IsTranscript h ls → HasNames (named_language h.cluster) → HasPlainNames h.cluster → IfSome h.coded (λ k. HasNoMarks h.cluster)
    → All FitsEntry (log_after h ls) → AreShort (transcript reply h ls)
    → (b : Begins (transcript reply h ls)) → Again h ls (state_after reply (anew h) (lines (transcript reply h ls)))
unfolding read
again-by h ls t a plain_names none fits shorts b =
    let text = transcript reply h ls in
    let k1 : HandData = in_hand_of h.format h.coded h.limits h.is_physical h.cluster h.opening h.capacity empty_run in
    let says = transcripts-are-bench-scripts h ls h.opening h.capacity t a plain_names fits in
    let plain : read_lines h.cluster None h.limits 1 (pieces_at_lf text) ≡ Ok says.lines =
    ap (λ (u : List ℕ). read_lines h.cluster None h.limits 1 (pieces_at_lf u)) (sym (begins-unmarked text b)) ∙ says.plainly h.limits in
    let reading : read_lines h.cluster h.coded h.limits 1 (pieces_at_lf text) ≡ Ok says.lines =
    ap (λ (u : List ℕ). read_lines h.cluster h.coded h.limits 1 (pieces_at_lf u)) (sym (begins-unmarked text b))
    ∙ reads-coded h.cluster h.opening h.capacity text (steps_of (log_after h ls)) h.coded h.limits none says in
    let unresolved : list_any resolves (map strip_carriage_return (pieces_at_lf text)) ≡ false =
    ap (λ (u : List ℕ). list_any resolves (map strip_carriage_return (pieces_at_lf u))) (sym (begins-unmarked text b)) ∙ says.unresolved in
    let some = pieces-some text in
    let played = live-is-play h.format h.coded h.limits h.is_physical h.cluster h.opening h.capacity (pieces_at_lf text) says.lines _
    (all-plain h.cluster h.limits 1 (pieces_at_lf text) says.lines shorts plain unresolved) says.untested reading says.steps_alone in
    let first-line : HasFirst b.0 (lines text) = subst (λ (u : List ℕ). HasFirst b.0 (lines u)) (sym b.2) (lines-first b.0 b.1 b.3) in
    let same = begun-same h (lines text) b.0 b.3.0 first-line ∙ pieces-same k1 refl text (pieces_at_lf text) some.0 some.1 some.2 refl ∙ played in (
      ap (λ (k : HandData). reverse k.bench.past) same ∙ ap reverse (log-again h ls t),
      ap (λ (k : HandData). k.was_bad) same,
    )

pub transcripts-are-inputs : TranscriptsAreInputs
transcripts-are-inputs h [] t a plain none fits shorts = (ap (λ (p : List LogEntry). reverse p) (sym t.begins), refl)
transcripts-are-inputs h (line ∷ more) t a plain none fits shorts = again-by h (line ∷ more) t a plain none fits shorts (transcript-begins h line more t.of_text)
