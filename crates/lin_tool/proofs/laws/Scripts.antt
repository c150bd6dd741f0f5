-- A text says what it says without its lines that begin with `#`; so a transcript says its log's steps.
use Rattle.std.proofs.Common.{◌≡◌, ◌∙◌, ℕ, ◌+◌, ◌==◌, ◌-◌, Bool, true, false, not, List, [], ◌∷◌, ◌++◌, refl, sym, ap, append-nil, append_assoc, arith, filter, flat_map, length, slice_index, subst, suc, take, Option, Some, None, Result, Ok, Err, if◌then◌else◌, inr}
use Rattle.std.specs.List.{All, AllByRecursion}
use Rattle.std.specs.Str.Lines.{strip_carriage_return}
use Rattle.std.proofs.lemmas.Grind.{common_steps}
use Rattle.std.proofs.lemmas.List.Splits.{slice_split_at, slice_split_none}
use Rattle.lin_parts.specs.declared.parts.Parts.{Parts}
use Rattle.lin_core.specs.Runs.{steps_of}
use Rattle.lin_core.specs.declared.log.LogEntry.{LogEntry}
use Rattle.lin_core.specs.declared.port.PortId.{PortId}
use Rattle.lin_core.specs.declared.step.Step.{Step}
use Rattle.lin_log.specs.Language.{Language, named_language, plain}
use Rattle.lin_log.specs.Laws.{FitsEntry, HasNames}
use Rattle.lin_log.specs.Said.{Steps, line_says, steps_from, text_says, with_said}
use Rattle.lin_log.specs.Script.{script, without_reason}
use Rattle.lin_log.specs.declared.reason.Reason.{Reason}
use Rattle.lin_log.proofs.Texts.{texts-again}
use Rattle.lin_values.specs.Coded.{CodedData}
use Rattle.lin_export.specs.Named.{reply_lines}
use Rattle.lin_bench.proofs.Steps.{named-texts, plain-scripts}
use Rattle.lin_bench.specs.Plain.{HasPlainNames, SaysSteps}
use Rattle.lin_live.proofs.Cuts.{pieces-clean, pieces-some}
use Rattle.lin_live.specs.Lines.{HasNoLf, pieces_at_lf}
use Rattle.lin_live.specs.Told.{HandData, entries_text, is_text, reply, shown_coding}
use Rattle.lin_live.specs.Transcript.{transcript}
use Rattle.lin_live.specs.declared.answer_format.AnswerFormat.{AnswerFormat}
use Rattle.lin_live.specs.declared.answer_format.AnswerFormat.TheVariants.{Log, Named, Jsonl}
use Rattle.lin_tool.specs.laws.Transcripts.{IsTranscript, TranscriptsAreBenchScripts, TranscriptsAreScripts, with_line_end, is_said, log_after, without_remarks}
use Rattle.lin_log.proofs.Logs.{plain-names}
use Rattle.lin_tool.proofs.laws.LogLines.{plain_replies}
use Rattle.lin_tool.proofs.laws.Remarks.{with_ends}
use Rattle.lin_tool.proofs.laws.Transcripts.{transcripts-are-logs}

-- ---- lines that say nothing
strip-by : (t : Bool) (x : ℕ) (xs : List ℕ) (n : ℕ) → slice_index (if t then take (suc n) (x ∷ xs) else x ∷ xs) 0 ≡ x
strip-by true x xs n = refl
strip-by false x xs n = refl

pub strip-first : (x : ℕ) (xs : List ℕ) → (x == 13) ≡ false → slice_index (strip_carriage_return (x ∷ xs)) 0 ≡ x
strip-first x [] h = rw h refl
strip-first x (y ∷ ys) h =
    let n : length (x ∷ y ∷ ys) - 1 ≡ suc (length ys) = omega arith in
    rw n (strip-by (slice_index (x ∷ y ∷ ys) (suc (length ys)) == 13) x (y ∷ ys) (length ys))

not-said : (b : ℕ) → not (b == 35) ≡ false → b ≡ 35
not-said b h = grind (arith, common_steps)

remark-says : (l : Language) (p : List ℕ) → is_said (with_line_end p) ≡ false → line_says l (strip_carriage_return p) ≡ Ok None
unfolding line_says
remark-says l [] h = absurd (cc)
remark-says l (x ∷ xs) h =
    let is : x ≡ 35 = not-said x h in
    let first : slice_index (strip_carriage_return (x ∷ xs)) 0 ≡ 35 = strip-first x xs (rw is refl) ∙ is in
    rw first refl

last-says : (l : Language) (p : List ℕ) → is_said p ≡ false → line_says l (strip_carriage_return p) ≡ Ok None
last-says l [] h = absurd (cc)
last-says l (x ∷ xs) h = remark-says l (x ∷ xs) h

nothing-says : (l : Language) → line_says l [] ≡ Ok None
unfolding line_says
nothing-says l = refl

-- ---- a text without them
abbrev Said : Type 0
Said = Result (Option (PortId × Step)) Reason

more-said : (m n : ℕ) (r : Said) (a b : Steps) (xs : List (PortId × Step)) → ((ys : List (PortId × Step)) → a ≡ Ok ys → b ≡ Ok ys)
    → with_said m r a ≡ Ok xs → with_said n r b ≡ Ok xs
more-said m n (Err why) a b xs k h = absurd (cc)
more-said m n (Ok None) a b xs k h = k xs h
more-said m n (Ok (Some s)) (Ok ys) b xs k h = rw (k ys refl) h
more-said m n (Ok (Some s)) (Err bad) b xs k h = absurd (cc)

abbrev said_lines : List (List ℕ) → List ℕ
said_lines ps = flat_map (λ l. l) (filter is_said (with_ends ps))

abbrev SayAs : Language → List (List ℕ) → Type 0
SayAs l ps = (m n : ℕ) (xs : List (PortId × Step)) → steps_from l m (pieces_at_lf (said_lines ps)) ≡ Ok xs → steps_from l n ps ≡ Ok xs

last-by : (l : Language) (p : List ℕ) (t : Bool) → HasNoLf p → is_said p ≡ t → SayAs l (p ∷ [])
last-by l p true h e m n xs k =
    let whole : said_lines (p ∷ []) ≡ p = rw e (append-nil p) in
    let k' : steps_from l m (p ∷ []) ≡ Ok xs = ap (steps_from l m) (sym (ap pieces_at_lf whole ∙ slice_split_none (λ b. b == 10) p h)) ∙ k in
    more-said m n (line_says l (strip_carriage_return p)) (Ok []) (Ok []) xs (λ ys q. q) k'
last-by l p false h e m n xs k =
    let none : said_lines (p ∷ []) ≡ [] = rw e refl in
    let k' : steps_from l m ([] ∷ []) ≡ Ok xs = ap (λ t. steps_from l m (pieces_at_lf t)) (sym none) ∙ k in
    let k'' : Ok [] ≡ Ok xs = rw (nothing-says l) at k' in
    rw (last-says l p e) k''

line-by : (l : Language) (p q : List ℕ) (qs : List (List ℕ)) (t : Bool) → HasNoLf p → SayAs l (q ∷ qs) → is_said (with_line_end p) ≡ t → SayAs l (p ∷ q ∷ qs)
line-by l p q qs true h more e m n xs k =
    let whole : said_lines (p ∷ q ∷ qs) ≡ p ++ 10 ∷ said_lines (q ∷ qs) = rw e (append_assoc p (10 ∷ []) (said_lines (q ∷ qs))) in
    let cut : pieces_at_lf (said_lines (p ∷ q ∷ qs)) ≡ p ∷ pieces_at_lf (said_lines (q ∷ qs)) = ap pieces_at_lf whole ∙ slice_split_at (λ b. b == 10) p 10 (said_lines (q ∷ qs)) h refl in
    more-said m n (line_says l (strip_carriage_return p)) (steps_from l (m + 1) (pieces_at_lf (said_lines (q ∷ qs)))) (steps_from l (n + 1) (q ∷ qs)) xs
    (λ ys z. more (m + 1) (n + 1) ys z) (ap (steps_from l m) (sym cut) ∙ k)
line-by l p q qs false h more e m n xs k =
    let same : said_lines (p ∷ q ∷ qs) ≡ said_lines (q ∷ qs) = rw e refl in
    rw (remark-says l p e) (more m (n + 1) xs (ap (λ t. steps_from l m (pieces_at_lf t)) (sym same) ∙ k))

all-say : (l : Language) (p : List ℕ) (ps : List (List ℕ)) → AllByRecursion HasNoLf (p ∷ ps) → SayAs l (p ∷ ps)
all-say l p [] h = last-by l p (is_said p) h.0 refl
all-say l p (q ∷ qs) h = line-by l p q qs (is_said (with_line_end p)) h.0 (all-say l q qs h.1) refl

-- (a text has a piece at least)
say-all : (l : Language) (ps : List (List ℕ)) (q : List ℕ) (qs : List (List ℕ)) → ps ≡ q ∷ qs → AllByRecursion HasNoLf ps → SayAs l ps
say-all l [] q qs e h = absurd (cc)
say-all l (p ∷ ps) q qs e h = all-say l p ps h

pub remarks-say-nothing : (l : Language) (t : List ℕ) (xs : List (PortId × Step)) → text_says l (without_remarks t) ≡ Ok xs → text_says l t ≡ Ok xs
unfolding text_says
remarks-say-nothing l t xs h =
    let s = pieces-some t in
    say-all l (pieces_at_lf t) s.0 s.1 s.2 (pieces-clean t) 1 1 xs h

-- ---- transcripts
abbrev pub told_in : AnswerFormat → Parts → Language
told_in Log c = plain
told_in Named c = named_language c
told_in Jsonl c = plain

-- the names that are told are words
abbrev pub AreToldNames : AnswerFormat → Parts → Type 0
AreToldNames Named c = HasNames (named_language c)
AreToldNames f c = Unit {0}

told-names : (f : AnswerFormat) (c : Parts) → HasNames (named_language c) → AreToldNames f c
told-names Log c a = tt
told-names Named c a = a
told-names Jsonl c a = tt

entries-say : (f : AnswerFormat) (c : Parts) (k : Option CodedData) (log : List LogEntry) → is_text f ≡ true → AreToldNames f c → All FitsEntry log
    → text_says (told_in f c) (entries_text f c k [] log) ≡ Ok (steps_of log)
entries-say Log c k log text a fits = texts-again plain plain_replies log plain-names fits
entries-say Named c k log text a fits = texts-again (named_language c) (reply_lines c k) log a fits
entries-say Jsonl c k log text a fits = absurd (cc)

pub transcript-says : (h : HandData) (ls : List (List ℕ)) → IsTranscript h ls → AreToldNames h.format h.cluster → All FitsEntry (log_after h ls)
    → text_says (told_in h.format h.cluster) (transcript reply h ls) ≡ Ok (steps_of (log_after h ls))
transcript-says h ls t names fits =
    let l = told_in h.format h.cluster in
    remarks-say-nothing l (transcript reply h ls) (steps_of (log_after h ls))
    (ap (text_says l) (transcripts-are-logs h ls t)
    ∙ entries-say h.format h.cluster (shown_coding h) (log_after h ls) t.of_text names fits)

pub transcripts-are-scripts : TranscriptsAreScripts
unfolding script
transcripts-are-scripts h ls t fits is =
    let names = subst (λ f. AreToldNames f h.cluster) (sym is) tt in
    ap (λ f. without_reason (text_says (told_in f h.cluster) (transcript reply h ls))) (sym is) ∙ ap without_reason (transcript-says h ls t names fits)

says-steps : (f : AnswerFormat) (c : Parts) (opening capacity : ℕ) (t : List ℕ) (steps : List (PortId × Step)) → HasPlainNames c → text_says (told_in f c) t ≡ Ok steps
    → SaysSteps c opening capacity t steps
unfolding script
says-steps Log c opening capacity t steps names h = plain-scripts c opening capacity t steps (ap without_reason h)
says-steps Named c opening capacity t steps names h = named-texts c opening capacity t steps (inr names) h
says-steps Jsonl c opening capacity t steps names h = plain-scripts c opening capacity t steps (ap without_reason h)

pub transcripts-are-bench-scripts : TranscriptsAreBenchScripts
transcripts-are-bench-scripts h ls opening capacity t a plain fits =
    let names = told-names h.format h.cluster a in
    says-steps h.format h.cluster opening capacity (transcript reply h ls) (steps_of (log_after h ls)) plain (transcript-says h ls t names fits)
