-- The timings of tables, of frames and of signals, one more at a time.
use Rattle.std.proofs.Common.{◌≡◌, ℕ, zero, suc, ◌+◌, ◌<◌, List, [], ◌∷◌, ◌++◌, length, get_or, Option, true, false, refl, ap, sym, ◌∙◌, subst, arith, inl, inr}
use Rattle.std.specs.Prelude.{All, Bool, ◌||◌, MatchOption}
use Rattle.std.specs.List.{list_any}
use Rattle.std.proofs.lemmas.Bool.{cases_lt}
use Rattle.std.proofs.lemmas.List.{get_or_append_left, length-append}
use Rattle.std.proofs.Math.Seq.{get_or-append_seam}
use Rattle.lin_parts.specs.Cluster.{frames_with}
use Rattle.lin_parts.specs.declared.parts.Parts.{Parts}
use Rattle.lin_export.specs.Timings.{AreFrameTimings, AreTimings, AreTimingsFrom, IsFrameTiming, IsLatency, IsSignalLatency, IsTiming}
use Rattle.lin_export.specs.Timings.{more, no_frame, none, occurs_by, occurs_in}
use Rattle.lin_export.specs.declared.cluster_lists.timings.FrameTiming.{FrameTiming}
use Rattle.lin_export.specs.declared.cluster_lists.timings.Latency.{Latency}
use Rattle.lin_export.specs.declared.cluster_lists.timings.TableTiming.{TableTiming}

-- what holds of each thing of a list, by its number, and of one more
pub each-next : {X : Type 0} (P : ℕ → X → Type 0) (d : X) (all : List X) (n : ℕ) (x : X) → ((i : ℕ) → i < length all → P i (get_or all i d))
    → n ≡ length all → P n x → (i : ℕ) → i < length (all ++ x ∷ []) → P i (get_or (all ++ x ∷ []) i d)
each-next P d all n x are is its = λ i i_lt. elim (cases_lt i (length all)) [
  | inl earlier ↦ subst (P i) (sym (get_or_append_left all (x ∷ []) d i earlier)) (are i earlier)
  | inr last ↦
      let many = length-append all (x ∷ []) in
      let here : i ≡ length all = omega (arith, many, i_lt) in
      let at_end : get_or (all ++ x ∷ []) i d ≡ x =
      ap (λ (k : ℕ). get_or (all ++ x ∷ []) k d) here ∙ get_or-append_seam all x [] d in
      subst (P i) (sym at_end) (subst (λ (k : ℕ). P k x) (is ∙ sym here) its)
]

-- a frame of the table occurs as its timing tells
frame-occurs : (c : Parts) (t : ℕ) (all : List FrameTiming) (f : ℕ) → AreFrameTimings c t all → f < length c.frames
    → occurs_by all f ≡ occurs_in c t f
frame-occurs c t all f are lt =
    let many = are.number in
    let its : IsFrameTiming c t f (get_or all f no_frame) = are.each f (omega (arith, many, lt)) in
    rw (its.own, its.shared)

pub frames-occur : (c : Parts) (t : ℕ) (all : List FrameTiming) (fs : List ℕ) → AreFrameTimings c t all → All (λ f. f < length c.frames) fs
    → list_any (occurs_by all) fs ≡ list_any (occurs_in c t) fs
frames-occur c t all [] are there = refl
frames-occur c t all (f ∷ fs) are there =
    ap (λ (b : Bool). b || list_any (occurs_by all) fs) (frame-occurs c t all f are (there 0 f (omega arith)))
    ∙ ap (λ (b : Bool). occurs_in c t f || b) (frames-occur c t all fs are (λ k d lt. there (suc k) d (omega arith)))

-- a table more
pub timings-next : (c : Parts) (bytes t n : ℕ) (all : List TableTiming) (timing : TableTiming) → AreTimingsFrom c bytes t all
    → n ≡ t + length all → IsTiming c n bytes timing → AreTimingsFrom c bytes t (all ++ timing ∷ [])
timings-next c bytes t n [] timing are is its =
    let here : n ≡ t = omega (arith, is) in
    more t timing [] (subst (λ (x : ℕ). IsTiming c x bytes timing) here its) (none (t + 1))
timings-next c bytes t n (first ∷ all) timing (more _ _ _ here later) is its =
    more t first (all ++ timing ∷ []) here (timings-next c bytes (t + 1) n all timing later (omega (arith, is)) its)

-- that of a table
timing-at : (c : Parts) (bytes t i n : ℕ) (all : List TableTiming) (d : TableTiming) → AreTimingsFrom c bytes t all → i < length all
    → n ≡ t + i → IsTiming c n bytes (get_or all i d)
timing-at c bytes t i n [] d are lt is = absurd (omega arith)
timing-at c bytes t zero n (first ∷ all) d (more _ _ _ here later) lt is =
    let same : t ≡ n = omega (arith, is) in
    subst (λ (x : ℕ). IsTiming c x bytes first) same here
timing-at c bytes t (suc i) n (first ∷ all) d (more _ _ _ here later) lt is =
    timing-at c bytes (t + 1) i n all d later (omega arith) (omega (arith, is))

-- that of a table, as it was read
pub timing-read : (c : Parts) (bytes i : ℕ) (all : List TableTiming) (timing : TableTiming) → AreTimings c bytes all → i < length all
    → timing ≡ get_or all i timing → IsTiming c i bytes timing
timing-read c bytes i all timing are lt is = subst (IsTiming c i bytes) (sym is) (timing-at c bytes 0 i i all timing are.1 lt (omega arith))

-- a signal that the same frames have
pub latency-alike : (c : Parts) (t first signal : ℕ) (latency : Option Latency) → frames_with c first ≡ frames_with c signal
    → IsSignalLatency c t first latency → IsSignalLatency c t signal latency
latency-alike c t first signal latency same is =
    subst (λ (frames : List ℕ). MatchOption latency (list_any (occurs_in c t) frames ≡ false)
    (λ found. (list_any (occurs_in c t) frames ≡ true) × IsLatency c t frames found)) same is
