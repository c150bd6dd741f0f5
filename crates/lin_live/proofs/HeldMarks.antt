-- The marks of a session.
use Rattle.std.proofs.Common.{◌≡◌, ◌∙◌, ◌≤◌, ◌<◌, ◌+◌, ℕ, List, [], ◌∷◌, ◌++◌, Option, Some, None, Result, Ok, Err, ap, arith, get_or, inl, inr, length, map, refl, reverse, subst, sym, take, true, false}
use Rattle.std.specs.Prelude.{Bool, IfOk, IfSome, OnErr, OnOk, cond, filter, if◌then◌else◌, nat_lt, not, option_and_then, option_map, position, slice_get}
use Rattle.std.specs.Global.{Vec}
use Rattle.std.specs.Str.{bytes_eq}
use Rattle.std.specs.List.{All, AllPairs, position_or_len, prefix_len}
use Rattle.std.proofs.lemmas.Bool.Decides.{leb_tells}
use Rattle.std.proofs.lemmas.List.{get_or-take, length-append, length-map, length-reverse, length-take, length-take-le, map-append, reverse-reverse, take-append-le, take-map, take-take}
use Rattle.std.proofs.lemmas.List.Elements.{All-filter, All-from_get_or, All-head, All-nil, All-push, All-tail, All-take, All-weaker}
use Rattle.std.proofs.lemmas.List.Kept.{AllPairs-filter}
use Rattle.std.proofs.lemmas.List.Quantifiers.{all_pairs_push}
use Rattle.std.proofs.lemmas.Result.{on_ok_weaker}
use Rattle.std.proofs.lemmas.Option.{slice_get-get_or, slice_get-map, slice_get_read}
use Rattle.lin_core.specs.Core.{CoreData}
use Rattle.lin_core.specs.declared.log.LogEntry.{LogEntry}
use Rattle.lin_parts.specs.declared.parts.Parts.{Parts}
use Rattle.lin_values.specs.Coded.{CodedData}
use Rattle.lin_bench.specs.declared.rules.NodeLimits.{NodeLimits}
use Rattle.lin_bench.specs.Made.{BenchState}
use Rattle.lin_bench.specs.Resolved.{with_parameter}
use Rattle.lin_bench.specs.declared.parameters.Parameter.{Parameter}
use Rattle.lin_bench.specs.Marks.{IsMarkOf, state_at}
use Rattle.lin_bench.specs.Played.{initial_bench}
use Rattle.lin_bench.specs.Searches.{IsSearchState, taken_by}
use Rattle.lin_bench.specs.Slots.{slot_limit}
use Rattle.lin_bench.specs.declared.marks.Mark.{Mark}
use Rattle.lin_bench.specs.declared.line.ScriptLine.{ScriptLine}
use Rattle.lin_export.specs.declared.jsonl.Opening.{Opening}
use Rattle.lin_live.specs.Hand.{AreItsMarks, IsNoLater, IsOpening, gone_to, held_of, mark_items, marks_of, as_marked, other_marks, with_marks, with_named}
use Rattle.lin_live.specs.Held.{new_hand}
use Rattle.lin_live.specs.Marking.{Marked, bench_at_place, is_other, mark_place, start_name, with_mark}
use Rattle.lin_live.specs.Serving.{WritesAnswer}
use Rattle.lin_live.specs.Told.{Bad, Fine, HandData, Is, IsFullFor, asked_value, bad_reply, ending_text, gone_back, heard_answer, heard_reply, without_byte_order_mark, written}
use Rattle.lin_live.specs.declared.answer_format.AnswerFormat.{AnswerFormat}
use Rattle.lin_live.specs.declared.fault.Fault.{Fault}
use Rattle.lin_live.specs.declared.fault.Fault.TheVariants.{LogFull, OutOfMemory, ReadFailed, WriteFailed}
use Rattle.lin_live.specs.declared.hand.NamedMark.{NamedMark}
use Rattle.lin_live.specs.Heard.Heard.{GoBack, Make, SetMark, SetParameter}
use Rattle.lin_live.specs.declared.question.Question.{Question}
use Rattle.lin_live.specs.declared.reason.Reason.{Reason}
use Rattle.lin_live.specs.declared.reason.Reason.TheVariants.{NoMark}
use Rattle.lin_live.proofs.Growth.{grown-made}
use Rattle.lin_live.proofs.LinesTold.{other-state}
use Rattle.lin_live.proofs.Replying.{tells-ending}

-- a mark of a log is one of a longer log, with the same bench
mark-longer : (log more : List LogEntry) (m : Mark) → IsMarkOf log m → IsMarkOf (log ++ more) m × (state_at (log ++ more) m ≡ state_at log m)
mark-longer log more m k =
    let same : take m.entries (log ++ more) ≡ take m.entries log = take-append-le m.entries log more k.entries in (
      record {
        entries = omega (arith, k.entries, length-append log more);
        taken = subst (λ (l : List LogEntry). IsSearchState l m.taken) (sym same) k.taken;
      },
      ap (λ (l : List LogEntry). record { past = reverse l; rules = m.rules; taken = taken_by l m.taken; left = slot_limit }) same,
    )

abbrev IsOf : List LogEntry → NamedMark → Type 0
IsOf log m = IsMarkOf log m.at

marks-longer : (log more : List LogEntry) (ms : List NamedMark) → All (IsOf log) ms → map (as_marked (log ++ more)) ms ≡ map (as_marked log) ms
marks-longer log more [] k = refl
marks-longer log more (m ∷ ms) k =
    ap (λ (b : BenchState). record { name = m.name; bench = b } ∷ map (as_marked (log ++ more)) ms) (mark-longer log more m.at (All-head (IsOf log) m ms k)).1
    ∙ ap (λ l. as_marked log m ∷ l) (marks-longer log more ms (All-tail (IsOf log) m ms k))

all-longer : (log more : List LogEntry) (ms : List NamedMark) → All (IsOf log) ms → All (IsOf (log ++ more)) ms
all-longer log more ms k = All-weaker (IsOf log) (IsOf (log ++ more)) (λ m h. (mark-longer log more m.at h).0) ms k

-- and one of a shorter log, with the same bench, where that has its entries
mark-shorter : (log : List LogEntry) (n : ℕ) (m : Mark) → n ≤ length log → m.entries ≤ n → IsMarkOf log m → IsMarkOf (take n log) m × (state_at (take n log) m ≡ state_at log m)
mark-shorter log n m in' le k =
    let same : take m.entries (take n log) ≡ take m.entries log = take-take m.entries n log le in (
      record {
        entries = omega (arith, le, length-take-le n log in');
        taken = subst (λ (l : List LogEntry). IsSearchState l m.taken) (sym same) k.taken;
      },
      ap (λ (l : List LogEntry). record { past = reverse l; rules = m.rules; taken = taken_by l m.taken; left = slot_limit }) same,
    )

abbrev EndsBy : ℕ → NamedMark → Type 0
EndsBy n m = m.at.entries ≤ n

marks-shorter : (log : List LogEntry) (n : ℕ) (ms : List NamedMark) → n ≤ length log → All (EndsBy n) ms → All (IsOf log) ms → map (as_marked (take n log)) ms ≡ map (as_marked log) ms
marks-shorter log n [] in' le k = refl
marks-shorter log n (m ∷ ms) in' le k =
    ap (λ (b : BenchState). record { name = m.name; bench = b } ∷ map (as_marked (take n log)) ms)
    (mark-shorter log n m.at in' (All-head (EndsBy n) m ms le) (All-head (IsOf log) m ms k)).1
    ∙ ap (λ l. as_marked log m ∷ l) (marks-shorter log n ms in' (All-tail (EndsBy n) m ms le) (All-tail (IsOf log) m ms k))

all-shorter : (log : List LogEntry) (n : ℕ) (ms : List NamedMark) → n ≤ length log → All (EndsBy n) ms → All (IsOf log) ms → All (IsOf (take n log)) ms
all-shorter log n ms in' le k = λ i d h. (mark-shorter log n (get_or ms i d).at in' (le i d h) (k i d h)).0

-- ---- what is kept of the marks
opening-like : (o : Opening) (h t : HandData) → t.opening ≡ h.opening → t.capacity ≡ h.capacity → t.cluster ≡ h.cluster → IsOpening o h → IsOpening o t
opening-like o h t a b c k = record {
  table = k.table ∙ sym a;
  capacity = k.capacity ∙ sym b;
  tables = subst (λ (p : Parts). o.table < length p.tables) (sym c) k.tables;
  some = k.some;
  few = k.few;
}

its-like : (o : Opening) (h t : HandData) (ms : List NamedMark) → t.opening ≡ h.opening → t.capacity ≡ h.capacity → t.cluster ≡ h.cluster → t.bench.past ≡ h.bench.past
    → AreItsMarks o h ms → AreItsMarks o t ms
its-like o h t ms a b c e k = record {
  opening = opening-like o h t a b c k.opening;
  marks = subst (λ (l : List LogEntry). All (IsOf (reverse l)) ms) (sym e) k.marks;
  order = k.order;
}

some-like : (o : Opening) (h t : HandData) (m : Option (List NamedMark)) → t.opening ≡ h.opening → t.capacity ≡ h.capacity → t.cluster ≡ h.cluster → t.bench.past ≡ h.bench.past
    → IfSome m (AreItsMarks o h) → IfSome m (AreItsMarks o t)
some-like o h t None a b c e k = tt
some-like o h t (Some ms) a b c e k = its-like o h t ms a b c e k

pairs-take : (n : ℕ) (ms : List NamedMark) → AllPairs IsNoLater ms → AllPairs IsNoLater (take n ms)
pairs-take n ms p i j d lt in' =
    let first : i < n = omega (arith, lt, in', length-take n ms) in
    let second : j < n = omega (arith, in', length-take n ms) in
    let there : j < length ms = omega (arith, in', length-take n ms) in
    subst (λ (x : NamedMark). IsNoLater x (get_or (take n ms) j d)) (sym (get_or-take n ms i d first))
    (subst (λ (x : NamedMark). IsNoLater (get_or ms i d) x) (sym (get_or-take n ms j d second)) (p i j d lt there))

-- no mark up to one at a place is of more entries
at-most : (ms : List NamedMark) (j i : ℕ) (d : NamedMark) → j ≤ i → i < length ms → AllPairs IsNoLater ms → IsNoLater (get_or ms j d) (get_or ms i d)
at-most ms j i d le in' p =
    elim (leb_tells (j + 1) i) [
      | inl h ↦ p j i d (omega (arith, h.1)) in'
      | inr h ↦
          let same : j ≡ i = omega (arith, le, h.1) in
          subst (λ (k : ℕ). IsNoLater (get_or ms k d) (get_or ms i d)) (sym same) (omega arith)
    ]

kept-before : (ms : List NamedMark) (i : ℕ) (m : NamedMark) → i < length ms → m ≡ get_or ms i m → AllPairs IsNoLater ms → All (EndsBy m.at.entries) (take (i + 1) ms)
kept-before ms i m in' is p =
    All-from_get_or (EndsBy m.at.entries) (take (i + 1) ms) m (λ j lt.
    let le : j ≤ i = omega (arith, lt, length-take (i + 1) ms) in
    let before : j < i + 1 = omega (arith, le) in
    subst (λ (x : NamedMark). x.at.entries ≤ m.at.entries) (sym (get_or-take (i + 1) ms j m before))
    (subst (λ (x : NamedMark). (get_or ms j m).at.entries ≤ x.at.entries) (sym is) (at-most ms j i m le in' p)))

-- a bench in hand that has gone back to a mark
pub gone-marks : (o : Opening) (h : HandData) (ms : List NamedMark) (i : ℕ) (m : NamedMark) → i < length ms → m ≡ get_or ms i m → AreItsMarks o h ms
    → let back = record h { bench = state_at (reverse h.bench.past) m.at } in
    (with_marks back (Some (take (i + 1) ms)) ≡ gone_to (with_marks h (Some ms)) i) × AreItsMarks o back (take (i + 1) ms)
gone-marks o h ms i m in' is k =
    let log = reverse h.bench.past in
    let n = m.at.entries in
    let kept = take (i + 1) ms in
    let b = state_at log m.at in
    let here : IsMarkOf log m.at = subst (IsOf log) (sym is) (k.marks i m in') in
    let before = kept-before ms i m in' is k.order in
    let first : reverse (reverse (take n log)) ≡ take n log = reverse-reverse (take n log) in
    let all = All-take (IsOf log) (i + 1) ms k.marks in
    let found : slice_get (map (as_marked log) ms) i ≡ Some (as_marked log m) =
    slice_get-map (as_marked log) ms i ∙ ap (option_map (as_marked log)) (slice_get_read ms (length ms) i m refl in' is) in (
      ap (λ (l : List LogEntry). record h { bench = b; marks = map (as_marked l) kept }) first
          ∙ ap (λ (t : List Marked). record h { bench = b; marks = t }) (marks-shorter log n kept here.entries before all ∙ sym (take-map (as_marked log) (i + 1) ms))
          ∙ ap (λ (x : Option Marked). (gone_back (record h { marks = map (as_marked log) ms }) [] (option_map (λ (t : Marked). (t.bench, take (i + 1) (map (as_marked log) ms))) x)).0) (sym found),
      record {
        opening = opening-like o h (record h { bench = b }) refl refl refl k.opening;
        marks = subst (λ (l : List LogEntry). All (IsOf l) kept) (sym first) (all-shorter log n kept here.entries before all);
        order = pairs-take (i + 1) ms k.order;
      },
    )

-- or to the beginning, where there are no marks
no-marks : (o : Opening) (h : HandData) → IsOpening o h → AreItsMarks o h []
no-marks o h k = record {
  opening = k;
  marks = All-nil (IsOf (reverse h.bench.past));
  order = λ i j d lt in'. absurd (omega arith);
}

pub gone-first : (o : Opening) (h : HandData) (ms : List NamedMark) → AreItsMarks o h ms → AreItsMarks o (record h { bench = initial_bench }) []
gone-first o h ms k =
    no-marks o (record h { bench = initial_bench }) (opening-like o h (record h { bench = initial_bench }) refl refl refl k.opening)

-- ---- one more mark
map-filter : {A B : Type 0} (f : A → B) (p : B → Bool) (xs : List A) → map f (filter (λ x. p (f x)) xs) ≡ filter p (map f xs)
map-filter f p [] = refl
map-filter f p (x ∷ xs) =
    let rest = filter (λ y. p (f y)) xs in
    elim (p (f x)) as (λ t. map f (cond t (x ∷ rest) rest) ≡ cond t (f x ∷ filter p (map f xs)) (filter p (map f xs))) [
      | true ↦ ap (λ l. f x ∷ l) (map-filter f p xs)
      | false ↦ map-filter f p xs
    ]

-- the marks with other names
left-its : (o : Opening) (h : HandData) (ms : List NamedMark) (m : NamedMark) → AreItsMarks o h ms → AreItsMarks o h (other_marks ms m)
left-its o h ms m k =
    let unlike = λ (x : NamedMark). not (bytes_eq x.name m.name) in record {
      opening = k.opening;
      marks = All-filter unlike (IsOf (reverse h.bench.past)) ms k.marks;
      order = AllPairs-filter IsNoLater unlike ms k.order;
    }

-- ---- the marks after a line was made
pub made-marks : (o : Option (List NamedMark)) (h : HandData) (line : ScriptLine)
    → IfSome o (λ ms. All (IsOf (reverse h.bench.past)) ms)
    → let t = (heard_answer h (Ok (Some (Make line)))).0 in
    (with_marks t o ≡ (heard_answer (with_marks h o) (Ok (Some (Make line)))).0) × IfSome o (λ ms. All (IsOf (reverse t.bench.past)) ms)
made-marks None h line k = (refl, tt)
made-marks (Some ms) h line k =
    let t = (heard_answer h (Ok (Some (Make line)))).0 in
    let g = grown-made h.cluster h.opening h.capacity h.bench line in
    let log = reverse h.bench.past in (
      ap (λ l. record t { marks = l }) (ap (λ (l : List LogEntry). map (as_marked l) ms) g.1 ∙ marks-longer log g.0 ms k),
      subst (λ (l : List LogEntry). All (IsOf l) ms) (sym g.1) (all-longer log g.0 ms k),
    )

-- an answer that was written of a bench, and of the bench in hand that holds it
pub answered-by : (p q : HandData × List ℕ) (full held : Type 0) (t u : HandData) (old new : Option (List ℕ)) (result : Result Unit Fault)
    → p.1 ≡ q.1 → (full → held) → (t ≡ p.0 → u ≡ q.0) → WritesAnswer p full t old new result → WritesAnswer q held u old new result
answered-by p q full held t u old new (Ok done) e f s (w, is) = (rw e at w, s is)
answered-by p q full held t u old new (Err WriteFailed) e f s w = rw e at w
answered-by p q full held t u old new (Err OutOfMemory) e f s w = w
answered-by p q full held t u old new (Err LogFull) e f s (w, is) = (w, f is)
answered-by p q full held t u old new (Err ReadFailed) e f s w = w

-- ---- the place of a name
prefix-map : {A B : Type 0} (f : A → B) (p : B → Bool) (xs : List A) → prefix_len p (map f xs) ≡ prefix_len (λ x. p (f x)) xs
prefix-map f p [] = refl
prefix-map f p (x ∷ xs) = ap (λ n. cond (p (f x)) (1 + n) 0) (prefix-map f p xs)

pub place-map : (log : List LogEntry) (ms : List NamedMark) (name : List ℕ) → mark_place (map (as_marked log) ms) name ≡ position (λ m. bytes_eq m.name name) ms
place-map log ms name =
    let n = position_or_len (λ (m : NamedMark). bytes_eq m.name name) ms in
    ap (λ (k : ℕ). cond (nat_lt k (length (map (as_marked log) ms))) (Some k) None) (prefix-map (as_marked log) (λ (m : Marked). not (bytes_eq m.name name)) ms)
    ∙ ap (λ k. cond (nat_lt n k) (Some n) None) (length-map ms (as_marked log))

-- ---- one more mark, as contracts see it
-- a mark of a bench as it is has all entries of its log
all-entries : (log : List LogEntry) (m : Mark) (b : BenchState) → b.past ≡ reverse log → IsMarkOf log m → state_at log m ≡ b → m.entries ≡ length log
all-entries log m b is k at =
    let whole : length (reverse (take m.entries log)) ≡ length (reverse log) = ap length (ap (λ (x : BenchState). x.past) at ∙ is) in
    omega (arith, whole, length-reverse (take m.entries log), length-reverse log, length-take-le m.entries log k.entries)

pub put-marks : (o : Opening) (h : HandData) (ms : List NamedMark) (m : NamedMark) → IsMarkOf (reverse h.bench.past) m.at → state_at (reverse h.bench.past) m.at ≡ h.bench → AreItsMarks o h ms
    → (with_marks h (Some (with_named ms m)) ≡ record (with_marks h (Some ms)) { marks = with_mark (with_marks h (Some ms)).marks m.name h.bench })
    × AreItsMarks o h (with_named ms m)
put-marks o h ms m here at k =
    let log = reverse h.bench.past in
    let rest = other_marks ms m in
    let left = left-its o h ms m k in
    let whole = all-entries log m.at h.bench (sym (reverse-reverse h.bench.past)) here at in (
      ap (λ (l : List Marked). record h { marks = l })
          (map-append (as_marked log) rest (m ∷ [])
          ∙ ap (λ (b : BenchState). map (as_marked log) rest ++ record { name = m.name; bench = b } ∷ []) at
          ∙ ap (λ (l : List Marked). l ++ record { name = m.name; bench = h.bench } ∷ []) (map-filter (as_marked log) (is_other m.name) ms)),
      record {
        opening = k.opening;
        marks = All-push (IsOf log) rest m left.marks here;
        order = all_pairs_push IsNoLater rest m left.order (λ i d lt. omega (arith, whole, (left.marks i d lt).entries));
      },
    )

-- ---- what is told of a bench in hand with its marks
view-of : (o : Option HandData) (m : Option (List NamedMark)) (h u : HandData) → o ≡ Some h → with_marks (held_of o) m ≡ u → with_marks h m ≡ u
view-of o m h u some is = ap (λ (x : Option HandData). with_marks (held_of x) m) (sym some) ∙ is

-- the marks that were taken are those that it had
taken-view : (o : Option HandData) (v w : Option (Vec NamedMark)) (h u : HandData) → w ≡ v → o ≡ Some h → with_marks (held_of o) (mark_items v) ≡ u → with_marks h (mark_items w) ≡ u
taken-view o v w h u same some is = ap (λ (x : Option (Vec NamedMark)). with_marks h (mark_items x)) same ∙ view-of o (mark_items v) h u some is

taken-so : (v w : Option (Vec NamedMark)) (i : Opening) (h : HandData) → w ≡ v → IfSome (mark_items v) (AreItsMarks i h) → IfSome (mark_items w) (AreItsMarks i h)
taken-so v w i h same k = subst (λ (x : Option (Vec NamedMark)). IfSome (mark_items x) (AreItsMarks i h)) (sym same) k

-- of a bench in hand that is known
pub its-of : (o : Option HandData) (h : HandData) (m : Option (List NamedMark)) (i : Opening) → o ≡ Some h → IfSome o (λ x. IfSome m (AreItsMarks i x)) → IfSome m (AreItsMarks i h)
its-of o h m i some k = subst (λ (x : Option HandData). IfSome x (λ y. IfSome m (AreItsMarks i y))) some k

pub passes : (o : Option HandData) (m : Option (List NamedMark)) (h u : HandData) (old new : Option (List ℕ)) (result : Result Unit Fault)
    → o ≡ Some h → with_marks (held_of o) m ≡ u → WritesAnswer (h, ending_text h Fine) ⊥ h old new result → WritesAnswer (u, ending_text u Fine) ⊥ u old new result
passes o m h u old new result some is w =
    subst (λ (x : HandData). WritesAnswer (x, ending_text x Fine) ⊥ x old new result) (view-of o m h u some is)
    (answered-by (h, ending_text h Fine) (with_marks h m, ending_text (with_marks h m) Fine) ⊥ ⊥ h (with_marks h m) old new result refl (λ f. f) (λ e. refl) w)

-- a line was refused
pub refused-by : (o : Option HandData) (v w : Option (Vec NamedMark)) (h u t : HandData) (why : Reason) (old new : Option (List ℕ)) (result : Result Unit Fault)
    → w ≡ v → o ≡ Some h → with_marks (held_of o) (mark_items v) ≡ u → WritesAnswer (bad_reply h why) ⊥ t old new result → WritesAnswer (bad_reply u why) ⊥ (with_marks t (mark_items w)) old new result
refused-by o v w h u t why old new result same some is k =
    let m = mark_items w in
    subst (λ (x : HandData). WritesAnswer (bad_reply x why) ⊥ (with_marks t m) old new result) (taken-view o v w h u same some is)
    (answered-by (bad_reply h why) (bad_reply (with_marks h m) why) ⊥ ⊥ t (with_marks t m) old new result refl (λ f. f) (λ e. ap (λ (x : HandData). with_marks x m) e) k)

-- a parameter was set
pub set-by : (o : Option HandData) (v w : Option (Vec NamedMark)) (h u t : HandData) (p : Parameter) (old new : Option (List ℕ)) (result : Result Unit Fault)
    → w ≡ v → o ≡ Some h → with_marks (held_of o) (mark_items v) ≡ u → WritesAnswer (heard_reply h (SetParameter p)) ⊥ t old new result
    → WritesAnswer (heard_reply u (SetParameter p)) ⊥ (with_marks t (mark_items w)) old new result
set-by o v w h u t p old new result same some is k =
    let m = mark_items w in
    subst (λ (x : HandData). WritesAnswer (heard_reply x (SetParameter p)) ⊥ (with_marks t m) old new result) (taken-view o v w h u same some is)
    (answered-by (heard_reply h (SetParameter p)) (heard_reply (with_marks h m) (SetParameter p)) ⊥ ⊥ t (with_marks t m) old new result refl (λ f. f) (λ e. ap (λ (x : HandData). with_marks x m) e) k)

-- a question was answered
abbrev pub asking : HandData → Question → HandData × List ℕ
asking h q = (h, ending_text h (Is (asked_value h q)))

pub asked-by : (o : Option HandData) (v w : Option (Vec NamedMark)) (h u t : HandData) (q : Question) (old new : Option (List ℕ)) (result : Result Unit Fault)
    → w ≡ v → o ≡ Some h → with_marks (held_of o) (mark_items v) ≡ u → WritesAnswer (asking h q) ⊥ t old new result → WritesAnswer (asking u q) ⊥ (with_marks t (mark_items w)) old new result
asked-by o v w h u t q old new result same some is k =
    let m = mark_items w in
    subst (λ (x : HandData). WritesAnswer (asking x q) ⊥ (with_marks t m) old new result) (taken-view o v w h u same some is)
    (answered-by (asking h q) (asking (with_marks h m) q) ⊥ ⊥ t (with_marks t m) old new result refl (λ f. f) (λ e. ap (λ (x : HandData). with_marks x m) e) k)

-- a line was made
its-all : (o : Opening) (h : HandData) (m : Option (List NamedMark)) → IfSome m (AreItsMarks o h) → IfSome m (λ ms. All (IsOf (reverse h.bench.past)) ms)
its-all o h None k = tt
its-all o h (Some ms) k = k.marks

pub made-by : (i : Opening) (o : Option HandData) (v w : Option (Vec NamedMark)) (h u t : HandData) (line : ScriptLine) (old new : Option (List ℕ)) (result : Result Unit Fault)
    → w ≡ v → o ≡ Some h → IfSome o (λ x. IfSome (mark_items v) (AreItsMarks i x)) → with_marks (held_of o) (mark_items v) ≡ u
    → WritesAnswer (heard_reply h (Make line)) (IsFullFor h line) t old new result → WritesAnswer (heard_reply u (Make line)) (IsFullFor u line) (with_marks t (mark_items w)) old new result
made-by i o v w h u t line old new result same some its is k =
    let m = mark_items w in
    let own = taken-so v w i h same (its-of o h (mark_items v) i some its) in
    subst (λ (x : HandData). WritesAnswer (heard_reply x (Make line)) (IsFullFor x line) (with_marks t m) old new result) (taken-view o v w h u same some is)
    (answered-by (heard_reply h (Make line)) (heard_reply (with_marks h m) (Make line)) (IsFullFor h line) (IsFullFor (with_marks h m) line) t (with_marks t m) old new result refl (λ f. f)
    (λ e. ap (λ (x : HandData). with_marks x m) e ∙ (made-marks m h line (its-all i h m own)).0) k)

-- ---- the marks stay those of the bench
made-some : (o : Opening) (h : HandData) (m : Option (List NamedMark)) (line : ScriptLine) → IfSome m (AreItsMarks o h) → IfSome m (AreItsMarks o (heard_answer h (Ok (Some (Make line)))).0)
made-some o h None line k = tt
made-some o h (Some ms) line k = record {
  opening = opening-like o h (heard_answer h (Ok (Some (Make line)))).0 refl refl refl k.opening;
  marks = (made-marks (Some ms) h line k.marks).1;
  order = k.order;
}

its-after : (o : Option HandData) (v w : Option (Vec NamedMark)) (i : Opening) (h t u : HandData) → ((m : Option (List NamedMark)) → IfSome m (AreItsMarks i h) → IfSome m (AreItsMarks i u))
    → w ≡ v → o ≡ Some h → IfSome o (λ x. IfSome (mark_items v) (AreItsMarks i x)) → t ≡ u → IfSome (mark_items w) (AreItsMarks i t)
its-after o v w i h t u step same some its is =
    subst (λ (x : HandData). IfSome (mark_items w) (AreItsMarks i x)) (sym is) (taken-so v w i u same (step (mark_items v) (its-of o h (mark_items v) i some its)))

pub bad-its : (o : Option HandData) (v w : Option (Vec NamedMark)) (i : Opening) (h t : HandData) → w ≡ v → o ≡ Some h → IfSome o (λ x. IfSome (mark_items v) (AreItsMarks i x))
    → t ≡ record h { was_bad = true } → IfSome (mark_items w) (AreItsMarks i t)
bad-its o v w i h t = its-after o v w i h t (record h { was_bad = true }) (λ m k. some-like i h (record h { was_bad = true }) m refl refl refl refl k)

pub asked-its : (o : Option HandData) (v w : Option (Vec NamedMark)) (i : Opening) (h t : HandData) → w ≡ v → o ≡ Some h → IfSome o (λ x. IfSome (mark_items v) (AreItsMarks i x))
    → t ≡ h → IfSome (mark_items w) (AreItsMarks i t)
asked-its o v w i h t = its-after o v w i h t h (λ m k. k)

pub parameter-its : (o : Option HandData) (v w : Option (Vec NamedMark)) (i : Opening) (h t : HandData) (p : Parameter) → w ≡ v → o ≡ Some h → IfSome o (λ x. IfSome (mark_items v) (AreItsMarks i x))
    → t ≡ record h { sets = with_parameter h.sets p.name p.text } → IfSome (mark_items w) (AreItsMarks i t)
parameter-its o v w i h t p =
    let set = record h { sets = with_parameter h.sets p.name p.text } in its-after o v w i h t set (λ m k. some-like i h set m refl refl refl refl k)

pub begun-its : (o : Option HandData) (v w : Option (Vec NamedMark)) (i : Opening) (h t : HandData) → w ≡ v → o ≡ Some h → IfSome o (λ x. IfSome (mark_items v) (AreItsMarks i x))
    → t ≡ record h { begun = true } → IfSome (mark_items w) (AreItsMarks i t)
begun-its o v w i h t = its-after o v w i h t (record h { begun = true }) (λ m k. some-like i h (record h { begun = true }) m refl refl refl refl k)

pub made-its : (o : Option HandData) (v w : Option (Vec NamedMark)) (i : Opening) (h t : HandData) (line : ScriptLine) → w ≡ v → o ≡ Some h → IfSome o (λ x. IfSome (mark_items v) (AreItsMarks i x))
    → t ≡ (heard_answer h (Ok (Some (Make line)))).0 → IfSome (mark_items w) (AreItsMarks i t)
made-its o v w i h t line = its-after o v w i h t (heard_answer h (Ok (Some (Make line)))).0 (λ m k. made-some i h m line k)

-- an answer that wasn't written is none of any state
pub failed-so : (p : HandData × List ℕ) (full : Type 0) (t u : HandData) (old new : Option (List ℕ)) (wrote result : Result Unit Fault) (fault : Fault)
    → wrote ≡ Err fault → result ≡ Err fault → WritesAnswer p full t old new wrote → WritesAnswer p full u old new result
failed-so p full t u old new wrote result fault a b w = other-state p full t u old new result fault b (subst (λ r. WritesAnswer p full t old new r) (a ∙ sym b) w)

-- ---- going back
-- to the beginning
pub gone-start : (h t : HandData) (name : List ℕ) (old new : Option (List ℕ)) (result : Result Unit Fault) → bytes_eq name start_name ≡ true
    → t ≡ record h { bench = initial_bench; marks = [] } → WritesAnswer (t, ending_text t Fine) ⊥ t old new result → WritesAnswer (heard_reply h (GoBack name)) ⊥ t old new result
gone-start h t name old new result e is w =
    subst (λ (b : Bool). WritesAnswer (written h (gone_back h name (if b then Some (initial_bench, []) else option_and_then (bench_at_place h.marks) (mark_place h.marks name)))) ⊥ t old new result) (sym e)
    (tells-ending h (record h { bench = initial_bench; marks = [] }) Fine ⊥ t old new result
    (subst (λ (x : HandData). WritesAnswer (x, ending_text x Fine) ⊥ t old new result) is w))

-- to no mark
pub gone-none : (h t : HandData) (name : List ℕ) (old new : Option (List ℕ)) (result : Result Unit Fault) → bytes_eq name start_name ≡ false
    → mark_place h.marks name ≡ None → WritesAnswer (bad_reply h (NoMark name)) ⊥ t old new result → WritesAnswer (heard_reply h (GoBack name)) ⊥ t old new result
gone-none h t name old new result e unknown w =
    subst (λ (b : Bool). WritesAnswer (written h (gone_back h name (if b then Some (initial_bench, []) else option_and_then (bench_at_place h.marks) (mark_place h.marks name)))) ⊥ t old new result) (sym e)
    (subst (λ (o : Option ℕ). WritesAnswer (written h (gone_back h name (option_and_then (bench_at_place h.marks) o))) ⊥ t old new result) (sym unknown)
    (tells-ending h (record h { was_bad = true }) (Bad (NoMark name)) ⊥ t old new result w))

gone-some : (h t : HandData) (name : List ℕ) (at : Option (BenchState × List Marked)) (old new : Option (List ℕ)) (result : Result Unit Fault) → (at ≡ None → ⊥)
    → t ≡ (gone_back h [] at).0 → WritesAnswer (t, ending_text t Fine) ⊥ t old new result → WritesAnswer (written h (gone_back h name at)) ⊥ t old new result
gone-some h t name None old new result unknown is w = absurd (unknown refl)
gone-some h t name (Some at) old new result unknown is w =
    tells-ending h (record h { bench = at.0; marks = at.1 }) Fine ⊥ t old new result
    (subst (λ (x : HandData). WritesAnswer (x, ending_text x Fine) ⊥ t old new result) is w)

-- there is a mark at a place
not-none : (marks : List Marked) (i : ℕ) → i < length marks → bench_at_place marks i ≡ None → ⊥
not-none marks i in' e =
    let none : Marked = record { name = []; bench = initial_bench } in
    let both : ◌≡◌ {A = Option (BenchState × List Marked)} None (Some ((get_or marks i none).bench, take (i + 1) marks)) =
    sym e ∙ ap (option_map (λ (m : Marked). (m.bench, take (i + 1) marks))) (slice_get-get_or marks i none in') in
    absurd (cc)

-- to a mark
pub gone-mark : (h t : HandData) (name : List ℕ) (i : ℕ) (old new : Option (List ℕ)) (result : Result Unit Fault) → bytes_eq name start_name ≡ false
    → mark_place h.marks name ≡ Some i → i < length h.marks → t ≡ gone_to h i → WritesAnswer (t, ending_text t Fine) ⊥ t old new result → WritesAnswer (heard_reply h (GoBack name)) ⊥ t old new result
gone-mark h t name i old new result e at in' is w =
    subst (λ (b : Bool). WritesAnswer (written h (gone_back h name (if b then Some (initial_bench, []) else option_and_then (bench_at_place h.marks) (mark_place h.marks name)))) ⊥ t old new result) (sym e)
    (subst (λ (o : Option ℕ). WritesAnswer (written h (gone_back h name (option_and_then (bench_at_place h.marks) o))) ⊥ t old new result) (sym at)
    (gone-some h t name (bench_at_place h.marks i) old new result (not-none h.marks i in') is w))

-- a mark was set
pub set-so : (h t : HandData) (name : List ℕ) (old new : Option (List ℕ)) (result : Result Unit Fault) → t ≡ record h { marks = with_mark h.marks name h.bench }
    → WritesAnswer (t, ending_text t Fine) ⊥ t old new result → WritesAnswer (heard_reply h (SetMark name)) ⊥ t old new result
set-so h t name old new result is w =
    tells-ending h (record h { marks = with_mark h.marks name h.bench }) Fine ⊥ t old new result
    (subst (λ (x : HandData). WritesAnswer (x, ending_text x Fine) ⊥ t old new result) is w)

-- ---- what the functions of a hand come to
-- a new session over a core that was opened so
over-core : (f : AnswerFormat) (k : Option CodedData) (limits : List NodeLimits) (physical : Bool) (core : CoreData) (c : Parts) (o : Opening) → core.cluster ≡ c → core.opening ≡ o.table → core.capacity ≡ o.capacity
    → new_hand f k limits physical core.cluster core.opening core.capacity ≡ new_hand f k limits physical c o.table o.capacity
over-core f k limits physical core c o e g s = rw (e, g, s) refl

pub new-so : (f : AnswerFormat) (k : Option CodedData) (limits : List NodeLimits) (physical : Bool) (core : CoreData) (c : Parts) (o : Opening) (h : HandData) (ms : List NamedMark) → core.cluster ≡ c → core.opening ≡ o.table
    → core.capacity ≡ o.capacity → h ≡ new_hand f k limits physical core.cluster core.opening core.capacity → ms ≡ [] → with_marks h (Some ms) ≡ new_hand f k limits physical c o.table o.capacity
new-so f k limits physical core c o h ms e g s is none =
    ap (λ (l : List NamedMark). with_marks h (Some l)) none ∙ ap (λ (x : HandData). with_marks x (Some [])) (is ∙ over-core f k limits physical core c o e g s)

pub new-its : (f : AnswerFormat) (k : Option CodedData) (limits : List NodeLimits) (physical : Bool) (core : CoreData) (c : Parts) (o : Opening) (h : HandData) (ms : List NamedMark) → core.cluster ≡ c → core.opening ≡ o.table
    → core.capacity ≡ o.capacity → h ≡ new_hand f k limits physical core.cluster core.opening core.capacity → ms ≡ [] → o.table < length c.tables → 1 ≤ o.capacity → o.capacity ≤ 1024 → AreItsMarks o h ms
new-its f k limits physical core c o h ms e g s is none tables some few =
    let new = new_hand f k limits physical c o.table o.capacity in
    let opening : IsOpening o new = record { table = refl; capacity = refl; tables = tables; some = some; few = few } in
    subst (λ (x : HandData). AreItsMarks o x ms) (sym (is ∙ over-core f k limits physical core c o e g s))
    (subst (λ (l : List NamedMark). AreItsMarks o new l) (sym none) (no-marks o new opening))

-- a bench in hand whose bench and whose marks are known
known-view : (o : Option HandData) (v : Option (Vec NamedMark)) (h u : HandData) (w : Vec NamedMark) → o ≡ Some h → v ≡ Some w → with_marks (held_of o) (mark_items v) ≡ u → with_marks h (Some w.items) ≡ u
known-view o v h u w some known is = ap (λ (x : Option (Vec NamedMark)). with_marks h (mark_items x)) (sym known) ∙ view-of o (mark_items v) h u some is

known-its : (o : Option HandData) (v : Option (Vec NamedMark)) (i : Opening) (h : HandData) (w : Vec NamedMark) → o ≡ Some h → v ≡ Some w → IfSome o (λ x. IfSome (mark_items v) (AreItsMarks i x))
    → AreItsMarks i h w.items
known-its o v i h w some known its = subst (λ (x : Option (Vec NamedMark)). IfSome (mark_items x) (AreItsMarks i h)) known (its-of o h (mark_items v) i some its)

known-length : (o : Option HandData) (v : Option (Vec NamedMark)) (h u : HandData) (w : Vec NamedMark) → o ≡ Some h → v ≡ Some w → with_marks (held_of o) (mark_items v) ≡ u → length w.items ≡ length u.marks
known-length o v h u w some known is =
    sym (length-map w.items (as_marked (reverse h.bench.past))) ∙ ap (λ (x : HandData). length x.marks) (known-view o v h u w some known is)

pub within : (o : Option HandData) (v : Option (Vec NamedMark)) (h u : HandData) (w : Vec NamedMark) (place : ℕ) → o ≡ Some h → v ≡ Some w → with_marks (held_of o) (mark_items v) ≡ u
    → place < length u.marks → place < length w.items
within o v h u w place some known is in' = let n = known-length o v h u w some known is in omega (arith, n, in')

-- a line was begun
pub begins : (o : Option HandData) (v : Option (Vec NamedMark)) (h u t : HandData) (line begun : Option (List ℕ)) → o ≡ Some h → with_marks (held_of o) (mark_items v) ≡ u
    → begun ≡ without_byte_order_mark h line → t ≡ record h { begun = true }
    → (begun ≡ without_byte_order_mark u line) × (with_marks t (mark_items v) ≡ record u { begun = true })
begins o v h u t line begun some is l e =
    let view = view-of o (mark_items v) h u some is in (
      l ∙ ap (λ (x : HandData). without_byte_order_mark x line) view,
      ap (λ (x : HandData). with_marks x (mark_items v)) e ∙ ap (λ (x : HandData). record x { begun = true }) view,
    )

-- the cluster and the encodings of a session
pub held-cluster : (o : Option HandData) (v : Option (Vec NamedMark)) (h u : HandData) → o ≡ Some h → with_marks (held_of o) (mark_items v) ≡ u → h.cluster ≡ u.cluster
held-cluster o v h u some is = ap (λ (x : HandData). x.cluster) (view-of o (mark_items v) h u some is)

pub held-coded : (o : Option HandData) (v : Option (Vec NamedMark)) (h u : HandData) → o ≡ Some h → with_marks (held_of o) (mark_items v) ≡ u → h.coded ≡ u.coded
held-coded o v h u some is = ap (λ (x : HandData). x.coded) (view-of o (mark_items v) h u some is)

-- the place of a mark
pub places : (o : Option HandData) (v : Option (Vec NamedMark)) (u : HandData) (w : Vec NamedMark) (ms : List NamedMark) (name : List ℕ) (r : Option ℕ) → v ≡ Some w → with_marks (held_of o) (mark_items v) ≡ u → ms ≡ w.items
    → r ≡ position (λ m. bytes_eq m.name name) ms → IfSome r (λ i. i < length ms) → (r ≡ mark_place u.marks name) × IfSome r (λ i. i < length u.marks)
places o v u w ms name r known is same at there =
    let log = reverse (held_of o).bench.past in
    let marks : map (as_marked log) ms ≡ u.marks =
    ap (map (as_marked log)) same ∙ ap (λ (x : Option (Vec NamedMark)). marks_of log (mark_items x)) (sym known) ∙ ap (λ (x : HandData). x.marks) is in (
      at ∙ sym (place-map log ms name) ∙ ap (λ (l : List Marked). mark_place l name) marks,
      subst (λ (l : List Marked). IfSome r (λ i. i < length l)) marks (subst (λ (n : ℕ). IfSome r (λ i. i < n)) (sym (length-map ms (as_marked log))) there),
    )

pub no-place : (o : Option HandData) (v : Option (Vec NamedMark)) (u : HandData) (name : List ℕ) → v ≡ None → with_marks (held_of o) (mark_items v) ≡ u → None ≡ mark_place u.marks name
no-place o v u name none is =
    let log = reverse (held_of o).bench.past in
    ap (λ (l : List Marked). mark_place l name) (ap (λ (x : Option (Vec NamedMark)). marks_of log (mark_items x)) (sym none) ∙ ap (λ (x : HandData). x.marks) is)

-- a mark was put
set-known : (o : Option HandData) (v : Option (Vec NamedMark)) (i : Opening) (h u : HandData) (w new : Vec NamedMark) (m : NamedMark) → o ≡ Some h → v ≡ Some w
    → IfSome o (λ x. IfSome (mark_items v) (AreItsMarks i x)) → with_marks (held_of o) (mark_items v) ≡ u → IsMarkOf (reverse h.bench.past) m.at → state_at (reverse h.bench.past) m.at ≡ h.bench
    → new.items ≡ with_named w.items m → with_marks (held_of o) (Some new.items) ≡ record u { marks = with_mark u.marks m.name u.bench }
set-known o v i h u w new m some known its is mark state e =
    let put = put-marks i h w.items m mark state (known-its o v i h w some known its) in
    ap (λ (x : Option HandData). with_marks (held_of x) (Some new.items)) some ∙ ap (λ l. with_marks h (Some l)) e ∙ put.0
    ∙ ap (λ (x : HandData). record x { marks = with_mark x.marks m.name x.bench }) (known-view o v h u w some known is)

pub sets : {E : Type 0} (r : Result Unit E) (o : Option HandData) (v : Option (Vec NamedMark)) (i : Opening) (h u : HandData) (w new : Vec NamedMark) (m : NamedMark) → o ≡ Some h → v ≡ Some w
    → IfSome o (λ x. IfSome (mark_items v) (AreItsMarks i x)) → with_marks (held_of o) (mark_items v) ≡ u → IsMarkOf (reverse h.bench.past) m.at → state_at (reverse h.bench.past) m.at ≡ h.bench
    → OnOk r (new.items ≡ with_named w.items m) → OnOk r (with_marks (held_of o) (Some new.items) ≡ record u { marks = with_mark u.marks m.name u.bench })
sets r o v i h u w new m some known its is mark state = on_ok_weaker r (set-known o v i h u w new m some known its is mark state)

pub set-its : {E : Type 0} (r : Result Unit E) (o : Option HandData) (v : Option (Vec NamedMark)) (i : Opening) (h : HandData) (w new : Vec NamedMark) (m : NamedMark) → o ≡ Some h → v ≡ Some w
    → IfSome o (λ x. IfSome (mark_items v) (AreItsMarks i x)) → IsMarkOf (reverse h.bench.past) m.at → state_at (reverse h.bench.past) m.at ≡ h.bench
    → OnOk r (new.items ≡ with_named w.items m) → OnErr r (new.items ≡ other_marks w.items m) → IfSome o (λ x. AreItsMarks i x new.items)
set-its (Ok done) o v i h w new m some known its mark state put rest =
    subst (λ (x : Option HandData). IfSome x (λ y. AreItsMarks i y new.items)) (sym some)
    (subst (λ (l : List NamedMark). AreItsMarks i h l) (sym put) (put-marks i h w.items m mark state (known-its o v i h w some known its)).1)
set-its (Err none) o v i h w new m some known its mark state put rest =
    subst (λ (x : Option HandData). IfSome x (λ y. AreItsMarks i y new.items)) (sym some)
    (subst (λ (l : List NamedMark). AreItsMarks i h l) (sym rest) (left-its i h w.items m (known-its o v i h w some known its)))

-- the beginning was gone back to
pub starts : (o : Option HandData) (v : Option (Vec NamedMark)) (h u back : HandData) (ms : List NamedMark) (m : Mark) → o ≡ Some h → with_marks (held_of o) (mark_items v) ≡ u
    → back ≡ record h { bench = state_at (reverse h.bench.past) m } → state_at (reverse h.bench.past) m ≡ initial_bench → ms ≡ [] → with_marks back (Some ms) ≡ record u { bench = initial_bench; marks = [] }
starts o v h u back ms m some is e start none =
    ap (λ l. with_marks back (Some l)) none ∙ ap (λ (x : HandData). with_marks x (Some [])) (e ∙ ap (λ (b : BenchState). record h { bench = b }) start)
    ∙ ap (λ (x : HandData). record x { bench = initial_bench; marks = [] }) (view-of o (mark_items v) h u some is)

pub start-its : (o : Option HandData) (v : Option (Vec NamedMark)) (i : Opening) (h back : HandData) (w : Vec NamedMark) (ms : List NamedMark) (m : Mark) → o ≡ Some h → v ≡ Some w
    → IfSome o (λ x. IfSome (mark_items v) (AreItsMarks i x)) → back ≡ record h { bench = state_at (reverse h.bench.past) m } → state_at (reverse h.bench.past) m ≡ initial_bench → ms ≡ [] → AreItsMarks i back ms
start-its o v i h back w ms m some known its e start none =
    subst (λ (l : List NamedMark). AreItsMarks i back l) (sym none)
    (subst (λ (x : HandData). AreItsMarks i x []) (sym (e ∙ ap (λ (b : BenchState). record h { bench = b }) start)) (gone-first i h w.items (known-its o v i h w some known its)))

-- a mark was gone back to
pub goes-to : (o : Option HandData) (v : Option (Vec NamedMark)) (i : Opening) (h u back : HandData) (w : Vec NamedMark) (ms : List NamedMark) (place : ℕ) (m : NamedMark) → o ≡ Some h → v ≡ Some w
    → IfSome o (λ x. IfSome (mark_items v) (AreItsMarks i x)) → with_marks (held_of o) (mark_items v) ≡ u → place < length u.marks → m ≡ get_or w.items place m
    → back ≡ record h { bench = state_at (reverse h.bench.past) m.at } → ms ≡ take (place + 1) w.items → (with_marks back (Some ms) ≡ gone_to u place) × AreItsMarks i back ms
goes-to o v i h u back w ms place m some known its is in' at e kept =
    let all = gone-marks i h w.items place m (within o v h u w place some known is in') at (known-its o v i h w some known its) in (
      ap (λ l. with_marks back (Some l)) kept ∙ ap (λ (x : HandData). with_marks x (Some (take (place + 1) w.items))) e ∙ all.0
          ∙ ap (λ (x : HandData). gone_to x place) (known-view o v h u w some known is),
      subst (λ (l : List NamedMark). AreItsMarks i back l) (sym kept) (subst (λ (x : HandData). AreItsMarks i x (take (place + 1) w.items)) (sym e) all.1),
    )

pub mark-there : (o : Option HandData) (v : Option (Vec NamedMark)) (i : Opening) (h u : HandData) (w : Vec NamedMark) (place : ℕ) (m : NamedMark) → o ≡ Some h → v ≡ Some w
    → IfSome o (λ x. IfSome (mark_items v) (AreItsMarks i x)) → with_marks (held_of o) (mark_items v) ≡ u → place < length u.marks → m ≡ get_or w.items place m
    → IsMarkOf (reverse h.bench.past) m.at
mark-there o v i h u w place m some known its is in' at =
    let k = known-its o v i h w some known its in subst (IsOf (reverse h.bench.past)) (sym at) (k.marks place m (within o v h u w place some known is in'))

pub opening-there : (o : Option HandData) (v : Option (Vec NamedMark)) (i : Opening) (h : HandData) (w : Vec NamedMark) → o ≡ Some h → v ≡ Some w → IfSome o (λ x. IfSome (mark_items v) (AreItsMarks i x)) → IsOpening i h
opening-there o v i h w some known its = (known-its o v i h w some known its).opening
