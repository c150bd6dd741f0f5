-- What is told of a line that was made.
use Rattle.std.proofs.Common.{◌≡◌, ◌≤◌, ◌<◌, ◌-◌, ◌^◌, ◌∙◌, ◌++◌, ◌||◌, ℕ, Err, List, [], None, Ok, Option, Result, Some, ap, arith, drop, false, length, refl, reverse, subst, sym, take}
use Rattle.std.specs.Prelude.{Box, IfSome}
use Rattle.std.specs.Global.{Global}
use Rattle.std.proofs.lemmas.List.{length-append, length-reverse, reverse-reverse, take-append-le}
use Rattle.std.proofs.Math.Seq.{take-append_seam}
use Rattle.lin_parts.specs.declared.parts.Parts.{Parts}
use Rattle.lin_core.specs.Core.{CoreData, past_of}
use Rattle.lin_core.specs.declared.log.LogEntry.{LogEntry}
use Rattle.lin_log.specs.Words.{text}
use Rattle.lin_export.specs.Jsonl.{ObjectTrackData}
use Rattle.lin_export.specs.LastSlot.{IsKeptOf, LastSlotData}
use Rattle.lin_export.specs.Track.{TrackData, track_of}
use Rattle.lin_text.proofs.Adding.{appends-nothing}
use Rattle.lin_bench.specs.Bench.{BenchData, MakeFails, MakesLine, made_on, with_all_slots, state_of}
use Rattle.lin_bench.specs.declared.fault.MakeFault.{MakeFault}
use Rattle.lin_bench.specs.declared.fault.MakeFault.TheVariants as makes
use Rattle.lin_bench.specs.Made.{BenchState}
use Rattle.lin_bench.specs.declared.got.Verdict.{Verdict}
use Rattle.lin_bench.specs.declared.got.Verdict.TheVariants.{Met, Nothing, SlotLimit, Unmet}
use Rattle.lin_bench.specs.declared.line.ScriptLine.{ScriptLine}
use Rattle.lin_values.specs.Coded.{CodedData}
use Rattle.lin_live.specs.Held.{IsBoxedTrack, IsBoxedTrackOf, IsFollowed, IsKept, earlier, entries_from, fault_of, held_data, hash_line_ending, line_text}
use Rattle.lin_text.specs.Written.{WritesText}
use Rattle.lin_live.specs.Serving.{WritesAlone, WritesAnswer}
use Rattle.lin_live.specs.Told.{HandData, Is, after_line, ending_text, entries_text, hash_ending, last_line, object_ending, verdict_with_meaning, is_limit, is_unmet_verdict, shown_coding, verdict_ending, written}
use Rattle.lin_live.specs.Values.{IsBoxedKeptOf, as_said}
use Rattle.lin_live.specs.declared.answer_value.AnswerValue.{AnswerValue}
use Rattle.lin_live.specs.declared.answer_format.AnswerFormat.TheVariants.{Log, Named, Jsonl}
use Rattle.lin_live.specs.declared.fault.Fault.{Fault}
use Rattle.lin_live.specs.declared.fault.Fault.TheVariants.{LogFull, OutOfMemory, ReadFailed, WriteFailed}
use Rattle.lin_live.specs.declared.held.HeldBench.TheInside.{Inside}
use Rattle.lin_live.specs.declared.held.KeptTracks.{KeptTracks}
use Rattle.lin_live.proofs.Growth.{Grown, grown-made}

-- the answer to a line that was made, and the session
abbrev pub telling : HandData → ℕ → Verdict → HandData × List ℕ
telling h from v = (h, line_text h from v)

-- a history as it was
pub earlier-was : (past later : List LogEntry) → Grown past later → earlier (length past) later ≡ past
earlier-was past later g =
    ap (λ l. reverse (take (length past) l)) g.1
    ∙ ap (λ n. reverse (take n (reverse past ++ g.0))) (sym (length-reverse past))
    ∙ ap reverse (take-append_seam (reverse past) g.0)
    ∙ reverse-reverse past

line-told : (h : HandData) (m : BenchState × Verdict) → Grown h.bench.past m.0.past
    → telling (after_line h m).0 (length h.bench.past) (verdict_with_meaning h.coded m.1) ≡ written h (after_line h m)
line-told h m g =
    let es = drop (length h.bench.past) (reverse m.0.past) in
    ap (λ p. ((after_line h m).0, entries_text h.format h.cluster (shown_coding h) p es ++ ending_text h (verdict_ending h.cluster (verdict_with_meaning h.coded m.1) es))) (earlier-was h.bench.past m.0.past g)

-- ---- a line was made on a bench

-- a bench in hand whose bench has made a line
abbrev pub made_hand : Inside → BenchData → Verdict → HandData
made_hand a new v = record {
  format = a.format;
  cluster = new.core.cluster;
  opening = new.core.opening;
  capacity = new.core.capacity;
  coded = a.coded;
  limits = a.limits;
  is_physical = a.is_physical;
  sets = a.sets;
  bench = state_of (with_all_slots new);
  marks = [];
  begun = a.begun;
  was_bad = a.was_bad || is_limit v;
  was_unmet = a.was_unmet || is_unmet_verdict v;
}

line-made : (a : Inside) (before new : BenchData) (line : ScriptLine) (v : Verdict) → before ≡ with_all_slots a.bench → MakesLine before line (Ok v) new
    → (state_of new, v) ≡ made_on (with_all_slots a.bench) line
line-made a before new line v is makes = makes.0 ∙ ap (λ b. made_on b line) is

pub line-grown : (a : Inside) (before new : BenchData) (line : ScriptLine) (v : Verdict) → before ≡ with_all_slots a.bench → MakesLine before line (Ok v) new
    → Grown (past_of a.bench.core) (past_of new.core)
line-grown a before new line v is makes =
    subst (λ (p : List LogEntry). Grown (past_of a.bench.core) p) (ap (λ (m : BenchState × Verdict). m.0.past) (sym (line-made a before new line v is makes)))
    (grown-made a.bench.core.cluster a.bench.core.opening a.bench.core.capacity (state_of (with_all_slots a.bench)) line)

pub from-there : (a : Inside) (new : BenchData) (from : ℕ) → Grown (past_of a.bench.core) (past_of new.core) → from ≡ length a.bench.core.log
    → from ≤ length (past_of new.core)
from-there a new from g is =
    let whole = ap length g.1 in
    omega (arith, whole, is, length-reverse (past_of new.core), length-reverse (past_of a.bench.core), length-reverse a.bench.core.log, length-append (reverse (past_of a.bench.core)) g.0)

-- what is kept of the entries before it
pub kept-there : (a : Inside) (before new : BenchData) (line : ScriptLine) (v : Verdict) (from : ℕ) (k : KeptTracks)
    → before ≡ with_all_slots a.bench → MakesLine before line (Ok v) new → from ≡ length a.bench.core.log → k.track ≡ a.track → k.objects ≡ a.objects → IsFollowed a
    → IsKept new.core.cluster (earlier from (past_of new.core)) k
kept-there a before new line v from k is makes is_from same_track same_objects h =
    let c : new.core.cluster ≡ a.bench.core.cluster = makes.1.0 ∙ ap (λ (b : BenchData). b.core.cluster) is in
    let p : earlier from (past_of new.core) ≡ past_of a.bench.core =
    ap (λ n. earlier n (past_of new.core)) (is_from ∙ sym (length-reverse a.bench.core.log))
    ∙ earlier-was (past_of a.bench.core) (past_of new.core) (line-grown a before new line v is makes) in
    let old : IsKept a.bench.core.cluster (past_of a.bench.core) k = record {
      track = subst (λ (o : Option (Box TrackData Global)). IfSome o (IsBoxedTrack a.bench.core.cluster (past_of a.bench.core))) (sym same_track) h.track;
      objects = subst (λ (o : Option (Box ObjectTrackData Global)). IfSome o (IsBoxedTrackOf a.bench.core.cluster (past_of a.bench.core))) (sym same_objects) h.objects;
    } in
    subst (λ (x : Parts). IsKept x (earlier from (past_of new.core)) k) (sym c)
    (subst (λ (l : List LogEntry). IsKept a.bench.core.cluster l k) (sym p) old)

-- a beginning of a log is one of a longer log
kept-longer : (c : Parts) (es more : List LogEntry) (l : LastSlotData) → IsKeptOf c es l → IsKeptOf c (es ++ more) l
kept-longer c es more l h =
    let within : l.entries ≤ length es = h.0 in (
      omega (arith, length-append es more),
      h.1 ∙ ap (λ (x : List LogEntry). track_of c (reverse x)) (sym (take-append-le l.entries es more within)),
    )

some-longer : (c : Parts) (es more : List LogEntry) (o : Option (Box LastSlotData Global)) → IfSome o (IsBoxedKeptOf c es) → IfSome o (IsBoxedKeptOf c (es ++ more))
some-longer c es more None h = h
some-longer c es more (Some l) h = kept-longer c es more l.value h

-- the slot that had ended last
pub slot-there : (a : Inside) (before new : BenchData) (line : ScriptLine) (v : Verdict) (o : Option (Box LastSlotData Global))
    → before ≡ with_all_slots a.bench → MakesLine before line (Ok v) new → o ≡ a.last_slot → IsFollowed a
    → IfSome o (IsBoxedKeptOf new.core.cluster new.core.log)
slot-there a before new line v o is makes same h =
    let c : new.core.cluster ≡ a.bench.core.cluster = makes.1.0 ∙ ap (λ (b : BenchData). b.core.cluster) is in
    let g = line-grown a before new line v is makes in
    let log : new.core.log ≡ a.bench.core.log ++ g.0 =
    sym (reverse-reverse new.core.log) ∙ g.1 ∙ ap (λ (l : List LogEntry). l ++ g.0) (reverse-reverse a.bench.core.log) in
    let old : IfSome o (IsBoxedKeptOf a.bench.core.cluster (a.bench.core.log ++ g.0)) =
    some-longer a.bench.core.cluster a.bench.core.log g.0 o (subst (λ (x : Option (Box LastSlotData Global)). IfSome x (IsBoxedKeptOf a.bench.core.cluster a.bench.core.log)) (sym same) h.slot) in
    subst (λ (x : Parts). IfSome o (IsBoxedKeptOf x new.core.log)) (sym c)
    (subst (λ (l : List LogEntry). IfSome o (IsBoxedKeptOf a.bench.core.cluster l)) (sym log) old)

same-core : (a : Inside) (new : BenchData) (v : Verdict) → new.core.cluster ≡ a.bench.core.cluster → new.core.opening ≡ a.bench.core.opening
    → new.core.capacity ≡ a.bench.core.capacity → made_hand a new v ≡ (after_line (held_data a) (state_of new, v)).0
same-core a new v e f g = rw (e, f, g) refl

-- the line is told from the next entry of the log on
pub line-told-so : (a : Inside) (before new : BenchData) (line : ScriptLine) (v w : Verdict) (from : ℕ) (u : HandData)
    → before ≡ with_all_slots a.bench → MakesLine before line (Ok v) new → from ≡ length a.bench.core.log → u ≡ made_hand a new v
    → w ≡ verdict_with_meaning a.coded v
    → telling u from w ≡ written (held_data a) (after_line (held_data a) (made_on (with_all_slots a.bench) line))
line-told-so a before new line v w from u is makes is_from is_u is_w =
    let h = held_data a in
    let m = made_on (with_all_slots a.bench) line in
    let all = line-made a before new line v is makes in
    let alike = makes.1 in
    ap (λ x. telling x from w)
    (is_u
    ∙ same-core a new v (alike.0 ∙ ap (λ (b : BenchData). b.core.cluster) is) (alike.1 ∙ ap (λ (b : BenchData). b.core.opening) is) (alike.2 ∙ ap (λ (b : BenchData). b.core.capacity) is)
    ∙ ap (λ (x : BenchState × Verdict). (after_line h x).0) all)
    ∙ ap (λ n. telling (after_line h m).0 n w) (is_from ∙ sym (length-reverse a.bench.core.log))
    ∙ ap (λ x. telling (after_line h m).0 (length h.bench.past) x)
    (is_w ∙ ap (λ (x : BenchState × Verdict). verdict_with_meaning a.coded x.1) all)
    ∙ line-told h m (grown-made h.cluster h.opening h.capacity h.bench line)

-- a verdict that isn't of a failed expectation has no meaning beside
pub same-verdict : (k : Option CodedData) (v : Verdict) → is_unmet_verdict v ≡ false → verdict_with_meaning k v ≡ v
same-verdict None v h = refl
same-verdict (Some k) Nothing h = refl
same-verdict (Some k) (Met what) h = refl
same-verdict (Some k) SlotLimit h = refl
same-verdict (Some k) (Unmet what got) h = absurd (cc)

-- ---- the text of entries, as the code has it
pub log-told : (h : HandData) (from : ℕ) (v : Verdict) (core : CoreData) → h.format ≡ Log → core.cluster ≡ h.cluster → core.log ≡ reverse h.bench.past
    → text (drop from core.log) ++ hash_ending core.cluster (shown_coding h) (verdict_ending core.cluster v (drop from core.log)) ≡ (telling h from v).1
log-told h from v core f c l = rw (f, c, l) refl

pub names-told : (h : HandData) (from : ℕ) (v : Verdict) (core : CoreData) (told : List ℕ) → h.format ≡ Named → core.cluster ≡ h.cluster → core.log ≡ reverse h.bench.past
    → told ≡ entries_from Named h from → told ++ hash_line_ending core from (shown_coding h) v ≡ (telling h from v).1
names-told h from v core told f c l e = rw (f, e, c, l) refl

pub objects-told : (h : HandData) (from : ℕ) (v : Verdict) (core : CoreData) (told : List ℕ) → h.format ≡ Jsonl → core.cluster ≡ h.cluster → core.log ≡ reverse h.bench.past
    → told ≡ entries_from Jsonl h from → told ++ object_ending core.cluster (shown_coding h) (verdict_ending core.cluster v (drop from core.log)) ≡ (telling h from v).1
objects-told h from v core told f c l e = rw (f, e, c, l) refl

-- the answer to a question as an object
pub asked-object : (h : HandData) (c : Parts) (k : Option CodedData) (v : AnswerValue) → h.format ≡ Jsonl → c ≡ h.cluster → k ≡ shown_coding h
    → object_ending c k (Is (as_said c v)) ≡ ending_text h (Is (as_said h.cluster v))
asked-object h c k v f e s =
    ap (λ x. object_ending x k (Is (as_said x v))) e ∙ ap (λ x. object_ending h.cluster x (Is (as_said h.cluster v))) s
    ∙ ap (λ x. last_line x h.cluster (shown_coding h) (Is (as_said h.cluster v))) (sym f)

-- where a write of it has failed
pub not-told : {S E : Type 0} (p : S × List ℕ) (full : Type 0) (t : S) (old new : Option (List ℕ)) (wrote : Result Unit E) (result : Result Unit Fault)
    → WritesText old new wrote p.1 → result ≡ Err WriteFailed → WritesAnswer p full t old new result
not-told p full t old new wrote result w e = subst (λ r. WritesAnswer p full t old new r) (sym e) (w.part, w.rest, w.written, w.whole)

-- an answer that was written without a session
pub told-as : {S : Type 0} (p : S × List ℕ) (t : S) (old new : Option (List ℕ)) (result : Result Unit Fault)
    → WritesAlone old new p.1 result → t ≡ p.0 → WritesAnswer p ⊥ t old new result
told-as p t old new (Ok done) h e = (h.0, e)
told-as p t old new (Err WriteFailed) h e = h
told-as p t old new (Err OutOfMemory) h e = h
told-as p t old new (Err LogFull) h e = h
told-as p t old new (Err ReadFailed) h e = h

-- where writing it without a session has failed
pub failed-alone : {S : Type 0} (p : S × List ℕ) (full : Type 0) (t : S) (old new : Option (List ℕ)) (wrote result : Result Unit Fault) (fault : Fault)
    → WritesAlone old new p.1 wrote → wrote ≡ Err fault → result ≡ Err fault → WritesAnswer p full t old new result
failed-alone p full t old new wrote result WriteFailed w e r = rw r (rw e at w)
failed-alone p full t old new wrote result OutOfMemory w e r = rw r (rw e at w)
failed-alone p full t old new wrote result LogFull w e r = absurd ((rw e at w).1)
failed-alone p full t old new wrote result ReadFailed w e r = absurd (rw e at w)

-- a bench that couldn't make a line
pub not-made : (a : Inside) (before new : BenchData) (line : ScriptLine) (fault : MakeFault) (t : HandData) (old : Option (List ℕ)) (result : Result Unit Fault)
    → before ≡ with_all_slots a.bench → MakeFails fault (made_on before line).0 → result ≡ Err (fault_of fault)
    → WritesAnswer (written (held_data a) (after_line (held_data a) (made_on (with_all_slots a.bench) line))) (2 ^ 32 - 1 < length (made_on (with_all_slots a.bench) line).0.past) t old old result
not-made a before new line makes.LogFull t old result is fails r = rw r (appends-nothing old, rw is at fails)
not-made a before new line makes.OutOfMemory t old result is fails r = rw r (appends-nothing old)

-- where there was no memory before
pub no-memory : {S : Type 0} (p : S × List ℕ) (full : Type 0) (t : S) (old : Option (List ℕ)) (result : Result Unit Fault)
    → result ≡ Err OutOfMemory → WritesAnswer p full t old old result
no-memory p full t old result r = rw r (appends-nothing old)

-- after a fault nothing is said of the state
pub other-state : {S : Type 0} (p : S × List ℕ) (full : Type 0) (t u : S) (old new : Option (List ℕ)) (r : Result Unit Fault) (fault : Fault) → r ≡ Err fault
    → WritesAnswer p full t old new r → WritesAnswer p full u old new r
other-state p full t u old new r WriteFailed e h = rw e (rw e at h)
other-state p full t u old new r OutOfMemory e h = rw e (rw e at h)
other-state p full t u old new r LogFull e h = rw e (rw e at h)
other-state p full t u old new r ReadFailed e h = rw e (rw e at h)
