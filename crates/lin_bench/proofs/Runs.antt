-- Lines that are played, and what lines come to.
use Rattle.std.proofs.Common.{length, ◌≡◌, ◌∙◌, ℕ, Bool, true, false, List, [], ◌∷◌, ◌++◌, drop, reverse, refl, sym, ap, Option, Some, None, Result, Ok, Err, append_assoc}
use Rattle.std.specs.Option.{option_to_list}
use Rattle.std.specs.Prelude.{slice_get}
use Rattle.std.specs.Vec.Iter.{into_iter_items, into_iter_steps}
use Rattle.std.specs.declared.vec.IntoIter.{IntoIter}
use Rattle.std.specs.Global.{Global}
use Rattle.std.proofs.lemmas.List.{length-reverse, reverse-reverse}
use Rattle.lin_parts.specs.declared.parts.Parts.{Parts}
use Rattle.lin_core.specs.Core.{CoreData, IsAlike}
use Rattle.lin_core.specs.declared.log.LogEntry.{LogEntry}
use Rattle.lin_bench.specs.Bench.{BenchData, new_bench, made_on, state_of}
use Rattle.lin_bench.specs.Made.{BenchState, made}
use Rattle.lin_bench.specs.Played.{bench_after, come_to, add_line_end, ends_from, initial_bench, in_turn, is_limit, judged_from, judged_up_to, judgements, next, nothing_expected, of_line, on_line, own, play_result, line_result, with_judgements}
use Rattle.lin_bench.specs.Plays.{Comes, IsTooLong, OverfillsOn, PlaysLine, PlaysOn, ends_on, judged_on, next_on}
use Rattle.lin_bench.specs.Strict.{entries_since, left_out, silent_lines, speaks_of_last, strictly}
use Rattle.lin_bench.specs.declared.line.ScriptLine.{ScriptLine}
use Rattle.lin_bench.specs.declared.place.LinePlace.{LinePlace}
use Rattle.lin_bench.specs.declared.fault.PlayFault.{PlayFault}
use Rattle.lin_bench.specs.declared.fault.PlayFault.TheVariants.{SlotLimit, LogFull, OutOfMemory}
use Rattle.lin_bench.specs.declared.playing.LineEnd.{LineEnd}
use Rattle.lin_bench.specs.declared.playing.Played.{Played}
use Rattle.lin_bench.specs.declared.got.Judgement.{Judgement}
use Rattle.lin_bench.specs.declared.got.Verdict.{Verdict}
use Rattle.lin_bench.specs.declared.got.Verdict.TheVariants as verdict
use Rattle.lin_bench.proofs.Makes.{append-nothing}

-- ---- the bench
pub turns-failed : (c : Parts) (o cap : ℕ) (n : LinePlace) (ys : List (LinePlace × ScriptLine)) → Err n ≡ in_turn c o cap (Err n) ys
turns-failed c o cap n [] = refl
turns-failed c o cap n (y ∷ ys) = refl

pub turns-more : (c : Parts) (o cap : ℕ) (r : Result BenchState LinePlace) (xs ys : List (LinePlace × ScriptLine))
    → in_turn c o cap r (xs ++ ys) ≡ in_turn c o cap (in_turn c o cap r xs) ys
turns-more c o cap (Err n) xs ys = turns-failed c o cap n ys
turns-more c o cap (Ok b) [] ys = refl
turns-more c o cap (Ok b) (x ∷ xs) ys = turns-more c o cap (next c o cap b x) xs ys

-- a bench has come from another to what these lines come to
pub record HasCome (a : BenchData) (ls : List (LinePlace × ScriptLine)) (b : BenchData) : Type 0 where
  pub lines : in_turn a.core.cluster a.core.opening a.core.capacity (Ok (state_of a)) ls ≡ Ok (state_of b)
  pub alike : IsAlike a.core b.core

-- no line was played yet
pub come-first : (a : BenchData) → HasCome a [] a
come-first a = record { lines = refl; alike = (refl, refl, refl) }

-- what these lines come to with one more
after-one : (a b : BenchData) (ls : List (LinePlace × ScriptLine)) (l : LinePlace × ScriptLine) (rest : List (LinePlace × ScriptLine)) → HasCome a ls b
    → in_turn a.core.cluster a.core.opening a.core.capacity (Ok (state_of a)) (ls ++ l ∷ rest) ≡ in_turn a.core.cluster a.core.opening a.core.capacity (next_on b l) rest
after-one a b ls l rest h =
    turns-more a.core.cluster a.core.opening a.core.capacity (Ok (state_of a)) ls (l ∷ rest)
    ∙ ap (λ r. in_turn a.core.cluster a.core.opening a.core.capacity r (l ∷ rest)) h.lines ∙ rw (h.alike.0, h.alike.1, h.alike.2) refl

pub come-more : (a p q : BenchData) (ls : List (LinePlace × ScriptLine)) (l : LinePlace × ScriptLine) → HasCome a ls p → next_on p l ≡ Ok (state_of q) → IsAlike p.core q.core → HasCome a (ls ++ l ∷ []) q
come-more a p q ls l h is alike =
    record {
      lines = after-one a p ls l [] h ∙ ap (λ r. in_turn a.core.cluster a.core.opening a.core.capacity r []) is;
      alike = (alike.0 ∙ h.alike.0, alike.1 ∙ h.alike.1, alike.2 ∙ h.alike.2);
    }

-- a line makes more slots than are left
pub limit-comes : (a b : BenchData) (ls rest all : List (LinePlace × ScriptLine)) (l : LinePlace × ScriptLine) (n : LinePlace) → ls ++ l ∷ rest ≡ all → HasCome a ls b → next_on b l ≡ Err n
    → in_turn a.core.cluster a.core.opening a.core.capacity (Ok (state_of a)) all ≡ Err n
limit-comes a b ls rest all l n e h is =
    ap (in_turn a.core.cluster a.core.opening a.core.capacity (Ok (state_of a))) (sym e) ∙ after-one a b ls l rest h
    ∙ ap (λ r. in_turn a.core.cluster a.core.opening a.core.capacity r rest) is ∙ sym (turns-failed a.core.cluster a.core.opening a.core.capacity n rest)

-- or more steps than there is room for
pub overfills : (a b : BenchData) (ls rest all : List (LinePlace × ScriptLine)) (l : LinePlace × ScriptLine) → ls ++ l ∷ rest ≡ all → HasCome a ls b → IsTooLong (made_on b l.1).0.past → OverfillsOn a all
overfills a b ls rest all l e h f =
    record { before = ls; line = l; behind = rest; all = sym e; bench = state_of b; so_far = h.lines; full = rw (h.alike.0, h.alike.1, h.alike.2) at f }

pub nothing-left : {A : Type 0} (xs : List A) → length xs ≡ 0 → xs ≡ []
nothing-left [] h = refl
nothing-left (x ∷ xs) h = cc

-- ---- the judgements
-- the line that comes next, of those that are left
pub next-left : {X : Type 0} (next : Option X) (rest : List X) → (next ≡ None → rest ≡ []) → slice_get (option_to_list next ++ rest) 0 ≡ next
next-left (Some x) rest h = refl
next-left None rest h = ap (λ r. slice_get r 0) (h refl)

pub told-bench : (n : LinePlace) (b x : BenchState) (v : Verdict) → line_result n b v ≡ Ok x → b ≡ x
told-bench n b x verdict.SlotLimit h = absurd (cc)
told-bench n b x verdict.Nothing h = cc
told-bench n b x (verdict.Met what) h = cc
told-bench n b x (verdict.Unmet what got) h = cc

pub told-open : (n : LinePlace) (b x : BenchState) (v : Verdict) → line_result n b v ≡ Ok x → is_limit v ≡ false
told-open n b x verdict.SlotLimit h = absurd (cc)
told-open n b x verdict.Nothing h = refl
told-open n b x (verdict.Met what) h = refl
told-open n b x (verdict.Unmet what got) h = refl

pub told-limit : (n m : LinePlace) (b : BenchState) (v : Verdict) → line_result n b v ≡ Err m → is_limit v ≡ true
told-limit n m b verdict.SlotLimit h = refl
told-limit n m b verdict.Nothing h = absurd (cc)
told-limit n m b (verdict.Met what) h = absurd (cc)
told-limit n m b (verdict.Unmet what got) h = absurd (cc)

ended-open : (l : LinePlace × ScriptLine) (b : BenchState) (v : Verdict) (more : List LineEnd) → is_limit v ≡ false → add_line_end l (b, v) more ≡ record { place = l.0; entries = length b.past } ∷ more
ended-open l b verdict.SlotLimit more h = absurd (cc)
ended-open l b verdict.Nothing more h = refl
ended-open l b (verdict.Met what) more h = refl
ended-open l b (verdict.Unmet what got) more h = refl

ended-limit : (l : LinePlace × ScriptLine) (b : BenchState) (v : Verdict) (more : List LineEnd) → is_limit v ≡ true → add_line_end l (b, v) more ≡ []
ended-limit l b verdict.SlotLimit more h = refl
ended-limit l b verdict.Nothing more h = absurd (cc)
ended-limit l b (verdict.Met what) more h = absurd (cc)
ended-limit l b (verdict.Unmet what got) more h = absurd (cc)

-- what a line comes to on a bench that has come from another
abbrev pub made_from : BenchData → BenchData → ScriptLine → BenchState × Verdict
made_from a b l = made a.core.cluster a.core.opening a.core.capacity (state_of b) l

pub same-made : (a b : BenchData) (l : ScriptLine) → IsAlike a.core b.core → made_on b l ≡ made_from a b l
same-made a b l alike = rw (alike.0, alike.1, alike.2) refl

-- ---- the judgements, the ends of lines and the bench so far, and those of the lines that are left, are those of all lines
pub record IsPlaying (strict : Bool) (silent : List LinePlace) (a : BenchData) (js : List Judgement) (es : List LineEnd) (b : BenchData) (left : List (LinePlace × ScriptLine)) (all : List Judgement) (ends : List LineEnd)
    (after : BenchState) : Type 0 where
  pub judged : js ++ judged_up_to strict silent a.core.cluster a.core.opening a.core.capacity (state_of b) left ≡ all
  pub ended : es ++ ends_from a.core.cluster a.core.opening a.core.capacity (state_of b) left ≡ ends
  pub come : bench_after a.core.cluster a.core.opening a.core.capacity (state_of b) left ≡ after

pub playing-first : (strict : Bool) (silent : List LinePlace) (a : BenchData) (js : List Judgement) (es : List LineEnd) (left ls : List (LinePlace × ScriptLine)) → left ≡ ls → silent ≡ silent_lines strict ls
    → IsPlaying strict silent a js es a left (js ++ judged_on strict a ls) (es ++ ends_on a ls) (bench_after a.core.cluster a.core.opening a.core.capacity (state_of a) ls)
playing-first strict silent a js es left ls same is = record { judged = rw (same, is) refl; ended = rw same refl; come = rw same refl }

-- one line more was played
pub playing-more : (strict : Bool) (silent : List LinePlace) (a p q : BenchData) (js more all : List Judgement) (es behind ends : List LineEnd) (after : BenchState) (l : LinePlace × ScriptLine) (rest : List (LinePlace × ScriptLine))
    (is_told : Bool) → IsAlike a.core p.core → IsPlaying strict silent a js es p (l ∷ rest) all ends after → speaks_of_last (slice_get rest 0) ≡ is_told
    → next_on p l ≡ Ok (state_of q) → more ≡ js ++ of_line strict (state_of p) l (made_on p l.1) is_told
    → behind ≡ es ++ record { place = l.0; entries = length q.core.log } ∷ [] → IsPlaying strict silent a more behind q rest all ends after
playing-more strict silent a p q js more all es behind ends after l rest is_told alike h e is judged end =
    let m = made_from a p l.1 in
    let same = same-made a p l.1 alike in
    let told_is : line_result l.0 m.0 m.1 ≡ Ok (state_of q) = sym (ap (λ (k : BenchState × Verdict). line_result l.0 k.0 k.1) same) ∙ is in
    let bench : m.0 ≡ state_of q = told-bench l.0 m.0 (state_of q) m.1 told_is in
    let open_ : is_limit m.1 ≡ false = told-open l.0 m.0 (state_of q) m.1 told_is in
    let one = of_line strict (state_of p) l m (speaks_of_last (slice_get rest 0)) in
    let mine : more ≡ js ++ one =
    judged ∙ ap (λ t. js ++ of_line strict (state_of p) l (made_on p l.1) t) (sym e) ∙ ap (λ k. js ++ of_line strict (state_of p) l k (speaks_of_last (slice_get rest 0))) same in
    let rest_judged = judged_up_to strict silent a.core.cluster a.core.opening a.core.capacity m.0 rest in
    let rest_ended = ends_from a.core.cluster a.core.opening a.core.capacity m.0 rest in
    let entries : length m.0.past ≡ length q.core.log = ap (λ (k : BenchState). length k.past) bench ∙ length-reverse q.core.log in
    let ends_here : behind ≡ es ++ record { place = l.0; entries = length m.0.past } ∷ [] = end ∙ ap (λ n. es ++ record { place = l.0; entries = n } ∷ []) (sym entries) in
    record {
      judged =
          ap (λ b. more ++ judged_up_to strict silent a.core.cluster a.core.opening a.core.capacity b rest) (sym bench)
          ∙ ap (λ k. k ++ rest_judged) mine ∙ append_assoc js one rest_judged
          ∙ (rw open_ at h.judged);
      ended =
          ap (λ b. behind ++ ends_from a.core.cluster a.core.opening a.core.capacity b rest) (sym bench)
          ∙ ap (λ k. k ++ rest_ended) ends_here ∙ append_assoc es (record { place = l.0; entries = length m.0.past } ∷ []) rest_ended
          ∙ ap (λ k. es ++ k) (sym (ended-open l m.0 m.1 rest_ended open_)) ∙ h.ended;
      come = ap (λ b. bench_after a.core.cluster a.core.opening a.core.capacity b rest) (sym bench) ∙ (rw open_ at h.come);
    }

-- a line makes more slots than are left
pub playing-limit : (strict : Bool) (silent : List LinePlace) (a p q : BenchData) (js more all : List Judgement) (es ends : List LineEnd) (after : BenchState) (l : LinePlace × ScriptLine) (rest : List (LinePlace × ScriptLine)) (n : LinePlace)
    → IsAlike a.core p.core → IsPlaying strict silent a js es p (l ∷ rest) all ends after → next_on p l ≡ Err n → state_of q ≡ (made_on p l.1).0 → more ≡ js
    → (state_of q ≡ after) × (more ≡ all) × (es ≡ ends)
playing-limit strict silent a p q js more all es ends after l rest n alike h is bench judged =
    let m = made_from a p l.1 in
    let same = same-made a p l.1 alike in
    let shut : is_limit m.1 ≡ true = told-limit l.0 n m.0 m.1 (sym (ap (λ (k : BenchState × Verdict). line_result l.0 k.0 k.1) same) ∙ is) in
    let none_judged : js ++ [] ≡ all = rw shut at h.judged in
    let none_ended : es ++ [] ≡ ends = ap (λ k. es ++ k) (sym (ended-limit l m.0 m.1 (ends_from a.core.cluster a.core.opening a.core.capacity m.0 rest) shut)) ∙ h.ended in
    let there : m.0 ≡ after = rw shut at h.come in
    (bench ∙ ap (λ (k : BenchState × Verdict). k.0) same ∙ there, judged ∙ sym (append-nothing js) ∙ none_judged, sym (append-nothing es) ∙ none_ended)

-- no line is left
pub playing-last : (strict : Bool) (silent : List LinePlace) (a b : BenchData) (js more all : List Judgement) (es ends : List LineEnd) (after : BenchState) (left : List (LinePlace × ScriptLine)) → left ≡ []
    → IsPlaying strict silent a js es b left all ends after → more ≡ js ++ nothing_expected (length b.core.log) silent → (more ≡ all) × (es ≡ ends)
playing-last strict silent a b js more all es ends after left none h is = (
  is ∙ ap (λ n. js ++ nothing_expected n silent) (sym (length-reverse b.core.log))
      ∙ ap (λ l. js ++ judged_up_to strict silent a.core.cluster a.core.opening a.core.capacity (state_of b) l) (sym none) ∙ h.judged,
  sym (append-nothing es) ∙ ap (λ l. es ++ ends_from a.core.cluster a.core.opening a.core.capacity (state_of b) l) (sym none) ∙ h.ended,
)

-- a line isn't played
pub playing-fails : (strict is_told : Bool) (silent : List LinePlace) (a p q : BenchData) (js_old js more : List Judgement) (es_old es : List LineEnd) (before rest ls : List (LinePlace × ScriptLine)) (l : LinePlace × ScriptLine)
    (fault : PlayFault) → before ++ l ∷ rest ≡ ls → HasCome a before p
    → IsPlaying strict silent a js es p (l ∷ rest) (js_old ++ judged_on strict a ls) (es_old ++ ends_on a ls) (bench_after a.core.cluster a.core.opening a.core.capacity (state_of a) ls)
    → PlaysLine strict p js l is_told (Err fault) q more → PlaysOn strict a js_old es_old ls (Err fault) q more es
playing-fails strict is_told silent a p q js_old js more es_old es before rest ls l (SlotLimit n) whole has at plays =
    let end = playing-limit strict silent a p q js more _ es _ _ l rest n has.alike at plays.0 plays.1 plays.2 in (
      limit-comes a p before rest ls l n whole has plays.0,
      end.0,
      end.1,
      end.2,
      (plays.3.0 ∙ has.alike.0, plays.3.1 ∙ has.alike.1, plays.3.2 ∙ has.alike.2),
    )
playing-fails strict is_told silent a p q js_old js more es_old es before rest ls l LogFull whole has at plays = overfills a p before rest ls l whole has plays
playing-fails strict is_told silent a p q js_old js more es_old es before rest ls l OutOfMemory whole has at plays = tt

-- all lines were played
pub playing-done : (strict : Bool) (silent : List LinePlace) (a b : BenchData) (js_old js more : List Judgement) (es_old es : List LineEnd) (before left ls : List (LinePlace × ScriptLine)) → left ≡ [] → before ++ left ≡ ls
    → HasCome a before b
    → IsPlaying strict silent a js es b left (js_old ++ judged_on strict a ls) (es_old ++ ends_on a ls) (bench_after a.core.cluster a.core.opening a.core.capacity (state_of a) ls)
    → more ≡ js ++ nothing_expected (length b.core.log) silent → PlaysOn strict a js_old es_old ls (Ok tt) b more es
playing-done strict silent a b js_old js more es_old es before left ls none whole has at judged =
    let end = playing-last strict silent a b js more _ es _ _ left none at judged in
    let all : before ≡ ls = sym (append-nothing before) ∙ ap (λ l. before ++ l) (sym none) ∙ whole in
    (ap (in_turn a.core.cluster a.core.opening a.core.capacity (Ok (state_of a))) (sym all) ∙ has.lines, end.0, end.1, has.alike)

-- no line is left where none comes next
pub none-left : {X : Type 0} (r : Option X) (s t : IntoIter X Global) → into_iter_steps s r t → r ≡ None → into_iter_items t ≡ []
none-left None s t h e = nothing-left (into_iter_items t) (sym t.rest.ok.0 ∙ h.1)
none-left (Some x) s t h e = absurd (cc)

-- ---- one line
-- a line that came to this verdict, of which this was judged
pub line-played : (b new : BenchData) (js more : List Judgement) (n : LinePlace) (l : ScriptLine) (v : Verdict) (is_told : Bool)
    → (state_of new, v) ≡ made_on b l → IsAlike b.core new.core → line_result n (state_of new) v ≡ Ok (state_of new)
    → more ≡ js ++ on_line n (length new.core.log) (own v) → PlaysLine false b js (n, l) is_told (Ok tt) new more
line-played b new js more n l v is_told made alike all judged =
    let bench : (made_on b l).0 ≡ state_of new = ap (λ (m : BenchState × Verdict). m.0) (sym made) in
    let verdict : (made_on b l).1 ≡ v = ap (λ (m : BenchState × Verdict). m.1) (sym made) in (
      ap (λ (m : BenchState × Verdict). line_result n m.0 m.1) (sym made) ∙ all,
      judged ∙ ap (λ k. js ++ on_line n k (own v)) (sym (length-reverse new.core.log))
          ∙ ap (λ (m : BenchState × Verdict). js ++ on_line n (length m.0.past) (own m.1)) made
          ∙ ap (λ r. js ++ r) (sym (append-nothing _)),
      alike,
    )

-- the entries since then, where logs have their oldest entry first
pub since-log : (past later old new : List LogEntry) → past ≡ reverse old → later ≡ reverse new → entries_since past later ≡ drop (length old) new
since-log past later old new e f =
    ap (λ p. drop (length p) (reverse later)) e
    ∙ ap (λ l. drop (length (reverse old)) (reverse l)) f
    ∙ ap (λ n. drop n (reverse (reverse new))) (length-reverse old)
    ∙ ap (drop (length old)) (reverse-reverse new)

-- a line of a strict play
pub strictly-played : (b new : BenchData) (js mid more : List Judgement) (n : LinePlace) (l : ScriptLine) (is_told : Bool)
    → PlaysLine false b js (n, l) false (Ok tt) new mid
    → more ≡ mid ++ on_line n (length new.core.log) (strictly (left_out l) is_told (drop (length b.core.log) new.core.log))
    → PlaysLine true b js (n, l) is_told (Ok tt) new more
strictly-played b new js mid more n l is_told (is, judged, alike) h =
    let m = made_on b l in
    let bench : m.0 ≡ state_of new = told-bench n m.0 (state_of new) m.1 is in
    let past : m.0.past ≡ reverse new.core.log = ap (λ (s : BenchState). s.past) bench in
    let since = since-log (state_of b).past m.0.past b.core.log new.core.log refl past in
    let few : length m.0.past ≡ length new.core.log = ap length past ∙ length-reverse new.core.log in
    let mine = on_line n (length m.0.past) (own m.1) in (
      is,
      h ∙ ap (λ r. mid ++ on_line n (length new.core.log) (strictly (left_out l) is_told r)) (sym since)
          ∙ ap (λ k. mid ++ on_line n k (strictly (left_out l) is_told (entries_since (state_of b).past m.0.past))) (sym few)
          ∙ ap (λ r. r ++ on_line n (length m.0.past) (strictly (left_out l) is_told (entries_since (state_of b).past m.0.past)))
          (judged ∙ ap (λ r. js ++ r) (append-nothing mine))
          ∙ append_assoc js mine _,
      alike,
    )

pub strictly-fails : (b new : BenchData) (js more : List Judgement) (l : LinePlace × ScriptLine) (is_told : Bool) (fault : PlayFault) → PlaysLine false b js l false (Err fault) new more
    → PlaysLine true b js l is_told (Err fault) new more
strictly-fails b new js more l is_told (SlotLimit m) h = h
strictly-fails b new js more l is_told LogFull h = h
strictly-fails b new js more l is_told OutOfMemory h = tt

-- ---- all lines were played
-- where no line makes more slots than are left, these are the judgements on all lines
judged-next : (strict : Bool) (silent : List LinePlace) (c : Parts) (o cap : ℕ) (b end : BenchState) (l : LinePlace × ScriptLine) (ls : List (LinePlace × ScriptLine)) (v : Verdict) → (made c o cap b l.1).1 ≡ v
    → (in_turn c o cap (Ok (made c o cap b l.1).0) ls ≡ Ok end → judged_up_to strict silent c o cap (made c o cap b l.1).0 ls ≡ judged_from strict silent c o cap (made c o cap b l.1).0 ls)
    → in_turn c o cap (line_result l.0 (made c o cap b l.1).0 (made c o cap b l.1).1) ls ≡ Ok end
    → judged_up_to strict silent c o cap b (l ∷ ls) ≡ judged_from strict silent c o cap b (l ∷ ls)
judged-next strict silent c o cap b end l ls verdict.SlotLimit f more h = let no : Err l.0 ≡ Ok end = turns-failed c o cap l.0 ls ∙ (rw f at h) in absurd (cc)
judged-next strict silent c o cap b end l ls verdict.Nothing f more h =
    let open_ : is_limit (made c o cap b l.1).1 ≡ false = ap is_limit f in
    rw open_ (ap (λ k. of_line strict b l (made c o cap b l.1) (speaks_of_last (slice_get ls 0)) ++ k) (more (rw f at h)))
judged-next strict silent c o cap b end l ls (verdict.Met what) f more h =
    let open_ : is_limit (made c o cap b l.1).1 ≡ false = ap is_limit f in
    rw open_ (ap (λ k. of_line strict b l (made c o cap b l.1) (speaks_of_last (slice_get ls 0)) ++ k) (more (rw f at h)))
judged-next strict silent c o cap b end l ls (verdict.Unmet what got) f more h =
    let open_ : is_limit (made c o cap b l.1).1 ≡ false = ap is_limit f in
    rw open_ (ap (λ k. of_line strict b l (made c o cap b l.1) (speaks_of_last (slice_get ls 0)) ++ k) (more (rw f at h)))

pub judged-whole : (strict : Bool) (silent : List LinePlace) (c : Parts) (o cap : ℕ) (b end : BenchState) (ls : List (LinePlace × ScriptLine)) → in_turn c o cap (Ok b) ls ≡ Ok end
    → judged_up_to strict silent c o cap b ls ≡ judged_from strict silent c o cap b ls
judged-whole strict silent c o cap b end [] h = refl
judged-whole strict silent c o cap b end (l ∷ ls) h =
    judged-next strict silent c o cap b end l ls (made c o cap b l.1).1 refl (λ k. judged-whole strict silent c o cap (made c o cap b l.1).0 end ls k) h

pub all-come : (strict : Bool) (c : Parts) (o cap : ℕ) (ls : List (LinePlace × ScriptLine)) (core : CoreData) (b : BenchData) (it : Played) → core.log ≡ [] → core.cluster ≡ c → core.opening ≡ o
    → core.capacity ≡ cap → in_turn core.cluster core.opening core.capacity (Ok (state_of (new_bench core))) ls ≡ Ok (state_of b) → IsAlike core b.core → it.core ≡ b.core
    → it.judgements ≡ judged_on strict (new_bench core) ls → Comes strict c o cap ls it
all-come strict c o cap ls core b it log cluster opening capacity lines alike same judged =
    let come : come_to c o cap ls ≡ Ok (state_of b) = rw (log, cluster, opening, capacity) at lines in
    let told : it.judgements ≡ judged_up_to strict (silent_lines strict ls) c o cap initial_bench ls = rw (log, cluster, opening, capacity) at judged in
    record {
      run = record { bench = state_of b; judgements = judgements strict c o cap ls };
      lines = ap (with_judgements (judgements strict c o cap ls)) come;
      log = ap (λ (k : CoreData). k.log) same ∙ sym (reverse-reverse b.core.log);
      judgements = told ∙ judged-whole strict (silent_lines strict ls) c o cap initial_bench (state_of b) ls come;
      cluster = ap (λ (k : CoreData). k.cluster) same ∙ alike.0 ∙ cluster;
      opening_is = ap (λ (k : CoreData). k.opening) same ∙ alike.1 ∙ opening;
      capacity_is = ap (λ (k : CoreData). k.capacity) same ∙ alike.2 ∙ capacity;
    }
