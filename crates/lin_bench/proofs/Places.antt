-- The first item of a list that passes a test.
use Rattle.std.proofs.Common.{◌≡◌, ◌∙◌, ℕ, suc, zero, ◌+◌, ◌<◌, ◌≤◌, Bool, true, false, cond, ltb, ltb-false, List, [], ◌∷◌, Some, None, refl, sym, ap, arith, add-one, drop, get_or, length, take}
use Rattle.std.specs.List.{onto_first, position, position_or_len, slice_split}
use Rattle.std.specs.Prelude.{codes}
use Rattle.std.specs.Str.{bytes_eq}
use Rattle.std.proofs.lemmas.List.Quantifiers.{position-Some}
use Rattle.std.proofs.lemmas.List.Sums.{fails_before_first}
use Rattle.lin_bench.specs.RuleLines.{cut_at_answer}

not-so : (b : Bool) (n : ℕ) → cond b (Some n) None ≡ None → b ≡ false
not-so true n h = cc
not-so false n h = refl

-- where none is found, none passes
pub none-at : {A : Type 0} (p : A → Bool) (xs : List A) (d : A) → position p xs ≡ None → (k : ℕ) → k < length xs → p (get_or xs k d) ≡ false
none-at p xs d h k small =
    let n = position_or_len p xs in
    let all : length xs ≤ n = ltb-false n (length xs) (not-so (ltb n (length xs)) n h) in
    fails_before_first p xs k d (omega arith)

-- ---- fields before and after `answer`
abbrev pub is-answer : List ℕ → Bool
is-answer f = bytes_eq f (codes "answer")

cut-within : (fs : List (List ℕ)) (i : ℕ) → i < length fs → is-answer (get_or fs i []) ≡ true
    → ((k : ℕ) → k < i → is-answer (get_or fs k []) ≡ false)
    → cut_at_answer fs ≡ Some (take i fs, drop (suc i) fs)
cut-within [] i h this before = absurd (omega arith)
cut-within (f ∷ fs) zero h this before = rw this refl
cut-within (f ∷ fs) (suc i) h this before =
    rw (before 0 (omega arith), cut-within fs i (omega arith) this (λ k q. before (suc k) (omega arith))) refl

pub cut-at : (fs : List (List ℕ)) (i : ℕ) → Some i ≡ position is-answer fs
    → cut_at_answer fs ≡ Some (take i fs, drop (i + 1) fs)
cut-at fs i e =
    let at = position-Some is-answer fs i [] (sym e) in
    cut-within fs i at.0 at.1 at.2 ∙ ap (λ j. Some (take i fs, drop j fs)) (sym (add-one i))

uncut : (fs : List (List ℕ)) → ((k : ℕ) → k < length fs → is-answer (get_or fs k []) ≡ false) → cut_at_answer fs ≡ None
uncut [] others = refl
uncut (f ∷ fs) others = rw (others 0 (omega arith), uncut fs (λ k q. others (suc k) (omega arith))) refl

pub cut-nowhere : (fs : List (List ℕ)) → None ≡ position is-answer fs → cut_at_answer fs ≡ None
cut-nowhere fs e = uncut fs (none-at is-answer fs [] (sym e))

-- ---- lists that are split at a word
split-within : (p : List ℕ → Bool) (fs : List (List ℕ)) (i : ℕ) → i < length fs → p (get_or fs i []) ≡ true
    → ((k : ℕ) → k < i → p (get_or fs k []) ≡ false)
    → slice_split p fs ≡ take i fs ∷ slice_split p (drop (suc i) fs)
split-within p [] i h this before = absurd (omega arith)
split-within p (f ∷ fs) zero h this before = rw this refl
split-within p (f ∷ fs) (suc i) h this before =
    rw (before 0 (omega arith)) (ap (onto_first f) (split-within p fs i (omega arith) this (λ k q. before (suc k) (omega arith))))

pub split-at : (p : List ℕ → Bool) (fs : List (List ℕ)) (i : ℕ) → Some i ≡ position p fs
    → slice_split p fs ≡ take i fs ∷ slice_split p (drop (i + 1) fs)
split-at p fs i e =
    let at = position-Some p fs i [] (sym e) in
    split-within p fs i at.0 at.1 at.2 ∙ ap (λ j. take i fs ∷ slice_split p (drop j fs)) (sym (add-one i))

unsplit : (p : List ℕ → Bool) (fs : List (List ℕ)) → ((k : ℕ) → k < length fs → p (get_or fs k []) ≡ false)
    → slice_split p fs ≡ fs ∷ []
unsplit p [] others = refl
unsplit p (f ∷ fs) others = rw (others 0 (omega arith)) (ap (onto_first f) (unsplit p fs (λ k q. others (suc k) (omega arith))))

pub split-nowhere : (p : List ℕ → Bool) (fs : List (List ℕ)) → None ≡ position p fs
    → slice_split p fs ≡ fs ∷ []
split-nowhere p fs e = unsplit p fs (none-at p fs [] (sym e))
