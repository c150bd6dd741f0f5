-- Where a comment ends is found from one star to the next.
use Rattle.std.proofs.Common.{◌≡◌, ℕ, zero, suc, ◌+◌, ◌<◌, Bool, true, false, cond, List, [], ◌∷◌, length, drop, Option, Some, None, refl, ap, subst, ◌∙◌, arith}
use Rattle.std.specs.Prelude.{◌==◌, slice_index}
use Rattle.std.proofs.lemmas.Bool.{false_from_ne_true}
use Rattle.std.proofs.Math.Seq.{drop-length}
use Rattle.memchr.specs.Find.{IsFirstByte, is_byte}
use Rattle.lin_ldf.specs.Scanning.{begins_with, close_at, option_shift}

abbrev is_slash : ℕ → Bool
is_slash d = d == 47

pub more_shifted : (n m : ℕ) (o : Option ℕ) → option_shift n (option_shift m o) ≡ option_shift (n + m) o
more_shifted n m None = refl
more_shifted n m (Some i) = let same : n + (m + i) ≡ n + m + i = omega arith in ap Some same

not_shifted : (o : Option ℕ) → o ≡ option_shift 0 o
not_shifted None = refl
not_shifted (Some i) = let same : i ≡ 0 + i = omega arith in ap Some same

abbrev is_star : List ℕ → ℕ → Bool
is_star xs k = slice_index xs k == 42

-- no star stands before this place
skipped : (xs : List ℕ) (n : ℕ) → ((k : ℕ) → k < n → is_star xs k ≡ true → ⊥) → close_at xs ≡ option_shift n (close_at (drop n xs))
skipped xs zero h = not_shifted (close_at xs)
skipped [] (suc n) h = refl
skipped (x ∷ xs) (suc n) h =
    let none : (x == 42) ≡ false = false_from_ne_true (x == 42) (h 0 (omega arith)) in
    let same : 1 + n ≡ suc n = omega arith in
    rw none (ap (option_shift 1) (skipped xs n (λ k lt. h (suc k) (omega arith))) ∙ more_shifted 1 n (close_at (drop n xs)) ∙ ap (λ (k : ℕ). option_shift k (close_at (drop n xs))) same)

-- a star, and what is after it
at_star : (xs : List ℕ) (n : ℕ) → n < length xs → is_star xs n ≡ true → close_at (drop n xs) ≡ cond (begins_with is_slash (drop (n + 1) xs)) (Some 0) (option_shift 1 (close_at (drop (n + 1) xs)))
at_star [] n lt h = absurd (omega arith)
at_star (x ∷ xs) zero lt h = rw h refl
at_star (x ∷ xs) (suc n) lt h =
    let same : suc (n + 1) ≡ suc n + 1 = omega arith in
    subst (λ (k : ℕ). close_at (drop n xs) ≡ cond (begins_with is_slash (drop k (x ∷ xs))) (Some 0) (option_shift 1 (close_at (drop k (x ∷ xs))))) same (at_star xs n (omega arith) h)

from_star : (xs : List ℕ) (n : ℕ) → IsFirstByte (is_byte 42) xs (Some n) → close_at xs ≡ option_shift n (cond (begins_with is_slash (drop (n + 1) xs)) (Some 0) (option_shift 1 (close_at (drop (n + 1) xs))))
from_star xs n h = skipped xs n (λ k lt. h.0.before k (omega arith) lt) ∙ ap (option_shift n) (at_star xs n h.0.high h.1)

pub closes_here : (xs behind : List ℕ) (n : ℕ) → IsFirstByte (is_byte 42) xs (Some n) → behind ≡ drop (n + 1) xs → begins_with is_slash behind ≡ true → close_at xs ≡ Some n
closes_here xs behind n h e slash =
    let same : n + 0 ≡ n = omega arith in
    from_star xs n h ∙ rw (← e, slash) (ap Some same)

pub goes_on : (xs behind : List ℕ) (n : ℕ) → IsFirstByte (is_byte 42) xs (Some n) → behind ≡ drop (n + 1) xs → begins_with is_slash behind ≡ false → close_at xs ≡ option_shift (n + 1) (close_at behind)
goes_on xs behind n h e other = from_star xs n h ∙ rw (← e, other) (more_shifted n 1 (close_at behind))

pub none_closes : (xs : List ℕ) → IsFirstByte (is_byte 42) xs None → close_at xs ≡ None
none_closes xs h =
    skipped xs (length xs) (λ k lt. h k (omega arith) lt) ∙ ap (λ (cs : List ℕ). option_shift (length xs) (close_at cs)) (drop-length xs)
