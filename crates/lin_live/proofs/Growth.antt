-- The entries of answers are the log.
use Rattle.std.proofs.Common.{◌≡◌, ◌∙◌, ℕ, List, [], ◌∷◌, ◌++◌, Bool, true, false, is_some, Option, Some, None, Result, Ok, Err, refl, sym, ap, append_assoc, append-nil, drop, flat_map, length, reverse, if◌then◌else◌, nat_lt}
use Rattle.std.proofs.Math.Seq.{drop-append_seam}
use Rattle.std.proofs.lemmas.List.{length-reverse, reverse-append, reverse-reverse}
use Rattle.lin_parts.specs.declared.parts.Parts.{Parts}
use Rattle.lin_core.specs.History.{finished_slot}
use Rattle.lin_core.specs.Runs.{entry_of}
use Rattle.lin_core.specs.declared.log.LogEntry.{LogEntry}
use Rattle.lin_core.specs.declared.port.PortId.{PortId}
use Rattle.lin_core.specs.declared.step.Step.{Step}
use Rattle.lin_bench.specs.Made.{BenchState, course_of, expects_from, bench_with_verdict, made, made_within, steps_said, slots_made, bench_after_steps}
use Rattle.lin_bench.specs.Added.{added_steps}
use Rattle.lin_bench.specs.Faults.{disturbed_steps}
use Rattle.lin_bench.specs.Ons.{reactions}
use Rattle.lin_bench.specs.Slots.{Course, called_if, course_after as after_steps, after_made, first_added, most, past_after, with_entry, with_struck}
use Rattle.lin_bench.proofs.Makes.{after_one}
use Rattle.lin_bench.specs.declared.expected.Expected.{Expected}
use Rattle.lin_bench.specs.declared.got.Verdict.TheVariants.{SlotLimit}
use Rattle.lin_bench.specs.declared.line.ScriptLine.{ScriptLine}
use Rattle.lin_bench.specs.declared.line.ScriptLine.TheVariants as line
use Rattle.lin_live.specs.Answers.{AnswersAreTheLog, AnswersAreWritten, KeepsLog, answers, answers_text}
use Rattle.lin_live.specs.Heard.{Heard}
use Rattle.lin_live.specs.Marking.{Marked, bench_at}
use Rattle.lin_live.specs.Told.{HandData, answer_text, gone_back, line_answer, heard_by, shown_coding, heard_answer}
use Rattle.lin_bench.specs.Strict.{entries_since}
use Rattle.lin_live.specs.Transcript.{short}
use Rattle.lin_live.specs.Heard.Heard.{Ask, GoBack, Make, SetMark, SetParameter}
use Rattle.lin_live.specs.declared.reason.Reason.{Reason}

-- a history that others lead to
abbrev pub Grown : List LogEntry → List LogEntry → Type 0
Grown past later = (more : List LogEntry) × (reverse later ≡ reverse past ++ more)

grown-nothing : (past : List LogEntry) → Grown past past
grown-nothing past = ([], sym (append-nil (reverse past)))

grown-more : (past mid later : List LogEntry) → Grown past mid → Grown mid later → Grown past later
grown-more past mid later g k = (g.0 ++ k.0, k.1 ∙ ap (λ l. l ++ k.0) g.1 ∙ append_assoc (reverse past) g.0 k.0)

grown-by : (past : List LogEntry) (e : LogEntry) → Grown past (e ∷ past)
grown-by past e = (e ∷ [], reverse-append (e ∷ []) past)

-- ---- what a line makes keeps what each entry keeps, also those of steps that rules add
abbrev pub Keeps : Parts → ℕ → ℕ → (List LogEntry → Type 0) → Type 0
Keeps c opening capacity P = (past : List LogEntry) (s : PortId × Step) → P past → P (entry_of c opening capacity past s ∷ past)

kept-past : (c : Parts) (opening capacity : ℕ) (P : List LogEntry → Type 0) → Keeps c opening capacity P → (past : List LogEntry) (ss : List (PortId × Step)) → P past
    → P (past_after c opening capacity past ss)
kept-past c opening capacity P keeps past [] h = h
kept-past c opening capacity P keeps past (s ∷ ss) h = kept-past c opening capacity P keeps (entry_of c opening capacity past s ∷ past) ss (keeps past s h)

kept-called : (c : Parts) (opening capacity : ℕ) (P : List LogEntry → Type 0) → Keeps c opening capacity P → (finishes : Bool) (at : Course) → P at.past
    → P (called_if c opening capacity finishes at).past
kept-called c opening capacity P keeps true at h = kept-past c opening capacity P keeps at.past (reactions c at.past at.rules) h
kept-called c opening capacity P keeps false at h = h

kept-after-made : (c : Parts) (opening capacity : ℕ) (P : List LogEntry → Type 0) → Keeps c opening capacity P → (at : Course) (ss : List (PortId × Step)) → P at.past
    → P (after_made c opening capacity at ss).past
kept-after-made c opening capacity P keeps at [] h = h
kept-after-made c opening capacity P keeps at (s ∷ ss) h =
    let e = entry_of c opening capacity at.past s in
    kept-after-made c opening capacity P keeps (with_entry c opening capacity at e) ss
    (kept-called c opening capacity P keeps (is_some (finished_slot e at.past)) (first_added c opening capacity at e)
    (kept-past c opening capacity P keeps (e ∷ at.past) (added_steps c e at.past at.rules) (keeps at.past s h)))

kept-after : (c : Parts) (opening capacity : ℕ) (P : List LogEntry → Type 0) → Keeps c opening capacity P → (at : Course) (ss : List (PortId × Step)) → P at.past
    → P (after_steps c opening capacity at ss).past
kept-after c opening capacity P keeps at [] h = h
kept-after c opening capacity P keeps at (s ∷ ss) h =
    kept-after c opening capacity P keeps (after_one c opening capacity at s) ss
    (kept-after-made c opening capacity P keeps (with_struck c capacity at s) (disturbed_steps c capacity at.rules.faults at.past s) h)

kept-judged : (c : Parts) (opening : ℕ) (P : List LogEntry → Type 0) (b : BenchState) (what : Option Expected) → P b.past → P (bench_with_verdict c opening b what).0.past
kept-judged c opening P b None h = h
kept-judged c opening P b (Some what) h = h

kept-within : (c : Parts) (opening capacity : ℕ) (P : List LogEntry → Type 0) → Keeps c opening capacity P → (b : BenchState) (count : ℕ) (steps first : List (PortId × Step)) (what : Option Expected)
    → P b.past → P (made_within c opening capacity b count steps first what).0.past
kept-within c opening capacity P keeps b count steps first what h =
    elim (nat_lt b.left count) as (λ t. P (if t then (bench_after_steps c opening capacity b b.left first, SlotLimit) else bench_with_verdict c opening (bench_after_steps c opening capacity b count steps) what).0.past) [
      | true ↦ kept-after c opening capacity P keeps (course_of b) first h
      | false ↦ kept-judged c opening P (bench_after_steps c opening capacity b count steps) what (kept-after c opening capacity P keeps (course_of b) steps h)
    ]

kept-line : (c : Parts) (opening capacity : ℕ) (P : List LogEntry → Type 0) → Keeps c opening capacity P → (b : BenchState) (l : ScriptLine) → P b.past
    → P (made_within c opening capacity b (slots_made l (steps_said c opening capacity most b l)) (steps_said c opening capacity most b l)
    (steps_said c opening capacity (λ extent. b.left) b l) (expects_from c b.past l)).0.past
kept-line c opening capacity P keeps b l h =
    let steps = steps_said c opening capacity most b l in
    kept-within c opening capacity P keeps b (slots_made l steps) steps (steps_said c opening capacity (λ extent. b.left) b l) (expects_from c b.past l) h

pub kept-made : (c : Parts) (opening capacity : ℕ) (P : List LogEntry → Type 0) → Keeps c opening capacity P → (b : BenchState) (l : ScriptLine) → P b.past
    → P (made c opening capacity b l).0.past
unfolding made
kept-made c opening capacity P keeps b (line.Step by step) h = kept-line c opening capacity P keeps b (line.Step by step) h
kept-made c opening capacity P keeps b (line.Slot how) h = kept-line c opening capacity P keeps b (line.Slot how) h
kept-made c opening capacity P keeps b (line.Slots extent) h = kept-line c opening capacity P keeps b (line.Slots extent) h
kept-made c opening capacity P keeps b (line.Until extent what) h = kept-line c opening capacity P keeps b (line.Until extent what) h
kept-made c opening capacity P keeps b (line.While extent what) h = kept-line c opening capacity P keeps b (line.While extent what) h
kept-made c opening capacity P keeps b (line.Expect what) h = kept-line c opening capacity P keeps b (line.Expect what) h
kept-made c opening capacity P keeps b line.Forget h = h
kept-made c opening capacity P keeps b (line.Test name) h = h
kept-made c opening capacity P keeps b (line.Rule rule) h = h

pub grown-made : (c : Parts) (opening capacity : ℕ) (b : BenchState) (l : ScriptLine) → Grown b.past (made c opening capacity b l).0.past
grown-made c opening capacity b l =
    kept-made c opening capacity (Grown b.past) (λ past s g. grown-more b.past past (entry_of c opening capacity past s ∷ past) g (grown-by past (entry_of c opening capacity past s))) b l
    (grown-nothing b.past)

-- the entries by which a history grew
since : (past later : List LogEntry) → Grown past later → reverse later ≡ reverse past ++ entries_since past later
since past later g =
    g.1 ∙ ap (λ l. reverse past ++ l)
    (sym (drop-append_seam (reverse past) g.0) ∙ ap (λ n. drop n (reverse past ++ g.0)) (length-reverse past) ∙ ap (drop (length past)) (sym g.1))

told-grown : (h : HandData) (said : Result (Option Heard) Reason) → KeepsLog said
    → reverse (heard_answer h said).0.bench.past ≡ reverse h.bench.past ++ (heard_answer h said).1.entries
told-grown h (Err why) f = sym (append-nil (reverse h.bench.past))
told-grown h (Ok None) f = sym (append-nil (reverse h.bench.past))
told-grown h (Ok (Some (Ask asked))) f = sym (append-nil (reverse h.bench.past))
told-grown h (Ok (Some (SetMark name))) f = sym (append-nil (reverse h.bench.past))
told-grown h (Ok (Some (GoBack name))) f = absurd f
told-grown h (Ok (Some (SetParameter p))) f = sym (append-nil (reverse h.bench.past))
told-grown h (Ok (Some (Make line))) f =
    since h.bench.past (made h.cluster h.opening h.capacity h.bench line).0.past (grown-made h.cluster h.opening h.capacity h.bench line)

pub answers-are-the-log : AnswersAreTheLog
answers-are-the-log h [] on = sym (append-nil (reverse h.bench.past))
answers-are-the-log h (line ∷ more) (on, rest-on) =
    let a = line_answer h (short line) in
    let rest = flat_map (λ b. b.entries) (answers a.0 more) in
    answers-are-the-log a.0 more rest-on
    ∙ ap (λ l. l ++ rest) (told-grown (record h { begun = true }) (heard_by h (short line)) on)
    ∙ append_assoc (reverse h.bench.past) a.1.entries rest

back-kept : (h : HandData) (name : List ℕ) (at : Option (BenchState × List Marked))
    → let t = (gone_back h name at).0 in (t.format ≡ h.format) × (t.cluster ≡ h.cluster) × (t.coded ≡ h.coded) × (t.is_physical ≡ h.is_physical) × (t.limits ≡ h.limits)
back-kept h name None = (refl, refl, refl, refl, refl)
back-kept h name (Some at) = (refl, refl, refl, refl, refl)

-- an answer changes neither how entries are told, nor the cluster, nor what signals mean, nor the limits in the LDF
pub told-kept : (h : HandData) (said : Result (Option Heard) Reason)
    → ((heard_answer h said).0.format ≡ h.format) × ((heard_answer h said).0.cluster ≡ h.cluster) × ((heard_answer h said).0.coded ≡ h.coded) × ((heard_answer h said).0.is_physical ≡ h.is_physical)
    × ((heard_answer h said).0.limits ≡ h.limits)
told-kept h (Err why) = (refl, refl, refl, refl, refl)
told-kept h (Ok None) = (refl, refl, refl, refl, refl)
told-kept h (Ok (Some (Ask asked))) = (refl, refl, refl, refl, refl)
told-kept h (Ok (Some (SetMark name))) = (refl, refl, refl, refl, refl)
told-kept h (Ok (Some (GoBack name))) = back-kept h name (bench_at h.marks name)
told-kept h (Ok (Some (SetParameter p))) = (refl, refl, refl, refl, refl)
told-kept h (Ok (Some (Make line))) = (refl, refl, refl, refl, refl)

shown-by : (a h : HandData) → a.coded ≡ h.coded → a.is_physical ≡ h.is_physical → shown_coding a ≡ shown_coding h
shown-by a h e f = rw (e, f) refl

past-grown : (past later es : List LogEntry) → reverse later ≡ reverse past ++ es → later ≡ reverse es ++ past
past-grown past later es e =
    sym (reverse-reverse later) ∙ ap reverse e ∙ reverse-append (reverse past) es ∙ ap (λ l. reverse es ++ l) (reverse-reverse past)

pub answers-are-written : AnswersAreWritten
answers-are-written h [] on = refl
answers-are-written h (line ∷ more) (on, rest-on) =
    let said = heard_by h (short line) in
    let b = record h { begun = true } in
    let a = heard_answer b said in
    let same = told-kept b said in
    let past = past-grown h.bench.past a.0.bench.past a.1.entries (told-grown b said on) in
    ap (λ l. answer_text h a.1 ++ l)
    (answers-are-written a.0 more rest-on
    ∙ ap (λ f. answers_text f a.0.cluster (shown_coding a.0) a.0.bench.past (answers a.0 more)) same.0
    ∙ ap (λ c. answers_text h.format c (shown_coding a.0) a.0.bench.past (answers a.0 more)) same.1
    ∙ ap (λ k. answers_text h.format h.cluster k a.0.bench.past (answers a.0 more)) (shown-by a.0 h same.2 same.3)
    ∙ ap (λ p. answers_text h.format h.cluster (shown_coding h) p (answers a.0 more)) past)
