-- The frames of each signal, one frame or one signal more.
use Rattle.std.proofs.Common.{◌≡◌, ◌∙◌, ◌+◌, ◌<◌, ◌==◌, ◌∷◌, ◌++◌, ℕ, [], All, Bool, ap, arith, append-nil, cond, false, filter, get_or, length, map, sym, true}
use Rattle.std.proofs.lemmas.Grind.{common_steps}
use Rattle.std.proofs.lemmas.List.{map-id}
use Rattle.std.proofs.lemmas.List.Elements.{All-filter}
use Rattle.std.proofs.lemmas.List.Folds.{list_any_at}
use Rattle.std.proofs.lemmas.Map.Views.{any-filter_same}
use Rattle.std.proofs.lemmas.List.FromFn.{filter_of_map_range_with_len_more, get_or-range_with_len, length-range_with_len, map-range_with_len_more}
use Rattle.std.specs.List.{list_any, range_with_len}
use Rattle.lin_parts.specs.Cluster.{frames_with, has_signal}
use Rattle.lin_parts.specs.declared.parts.Parts.{Parts}

pub signals_more : (c : Parts) (n : ℕ) → map (frames_with c) (range_with_len 0 (n + 1)) ≡ map (frames_with c) (range_with_len 0 n) ++ frames_with c n ∷ []
signals_more c n = map-range_with_len_more (frames_with c) 0 n n (omega arith)

-- a filter of the numbers below n, and one number more
kept_more : (p : ℕ → Bool) (n : ℕ)
    → filter p (range_with_len 0 (n + 1)) ≡ filter p (range_with_len 0 n) ++ cond (p n) (n ∷ []) []
kept_more p n =
    let more = filter_of_map_range_with_len_more {X = ℕ} p (λ (x : ℕ). x) 0 n n (omega arith) in
    sym (ap (filter p) (map-id (range_with_len 0 (n + 1))))
    ∙ more
    ∙ ap (λ xs. filter p xs ++ cond (p n) (n ∷ []) []) (map-id (range_with_len 0 n))

pub kept_added : (p : ℕ → Bool) (n : ℕ) → p n ≡ true
    → filter p (range_with_len 0 (n + 1)) ≡ filter p (range_with_len 0 n) ++ n ∷ []
kept_added p n h = kept_more p n ∙ ap (λ b. filter p (range_with_len 0 n) ++ cond b (n ∷ []) []) h

pub kept_same : (p : ℕ → Bool) (n : ℕ) → p n ≡ false
    → filter p (range_with_len 0 (n + 1)) ≡ filter p (range_with_len 0 n)
kept_same p n h =
    kept_more p n
    ∙ ap (λ b. filter p (range_with_len 0 n) ++ cond b (n ∷ []) []) h
    ∙ append-nil (filter p (range_with_len 0 n))

pub frames_added : (c : Parts) (s n : ℕ) → has_signal c s n ≡ true
    → filter (has_signal c s) (range_with_len 0 (n + 1)) ≡ filter (has_signal c s) (range_with_len 0 n) ++ n ∷ []
frames_added c s n h = kept_added (has_signal c s) n h

pub frames_same : (c : Parts) (s n : ℕ) → has_signal c s n ≡ false
    → filter (has_signal c s) (range_with_len 0 (n + 1)) ≡ filter (has_signal c s) (range_with_len 0 n)
frames_same c s n h = kept_same (has_signal c s) n h

-- what is kept of the numbers below n is below n
pub kept_below : (p : ℕ → Bool) (n : ℕ) → All (λ f. f < n) (filter p (range_with_len 0 n))
kept_below p n =
    All-filter p (λ f. f < n) (range_with_len 0 n) (λ k d h.
    let h' = rw (length-range_with_len 0 n) at h in rw (get_or-range_with_len 0 n k d h') (omega arith))

-- a frame below the number of frames is among those of a signal where it has the signal
pub is-found : (c : Parts) (s f : ℕ) → f < length c.frames → list_any (λ g. g == f) (frames_with c s) ≡ has_signal c s f
is-found c s f h =
    let all = range_with_len 0 (length c.frames) in
    let inside : f < length all = rw (length-range_with_len 0 (length c.frames)) h in
    let at : get_or all f 0 ≡ f = get_or-range_with_len 0 (length c.frames) f 0 h ∙ omega arith in
    let there : list_any (λ g. g == f) all ≡ true = list_any_at (λ g. g == f) all f 0 inside (rw at (grind (arith, common_steps))) in
    any-filter_same (λ g. g == f) (has_signal c s) (has_signal c s f) (λ k e. let same : k ≡ f = grind (arith, common_steps) in ap (has_signal c s) same) all
    ∙ rw there (grind (arith, common_steps))
