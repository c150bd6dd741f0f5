-- Lines of a text, and the bytes of a list.
use Rattle.std.proofs.Common.{◌≡◌, ℕ, List, [], ◌∷◌, ◌++◌, refl, sym, ap, ◌∙◌, add-one, ◌-◌, take, drop, length, get_or, ◌+◌, ◌<◌, ◌==◌, arith, Bool, false, None, slice_index, drop-cons}
use Rattle.std.proofs.lemmas.Grind.{common_steps}
use Rattle.std.proofs.lemmas.List.{take-append-drop}
use Rattle.std.proofs.lemmas.List.Splits.{slice_split_at, slice_split_none}
use Rattle.std.specs.List.{slice_split, All}
use Rattle.lin_log.specs.Said.{is_digit, number_after}

-- a list at an index
cut-at : (xs : List ℕ) (i : ℕ) → i < length xs → xs ≡ take i xs ++ (get_or xs i 0 ∷ drop (i + 1) xs)
cut-at xs i h = sym (take-append-drop i xs) ∙ ap (λ l. take i xs ++ l) (rw (add-one) (drop-cons xs i 0 h))

pub slice-rest : (xs : List ℕ) (n : ℕ) → take (length xs - n) (drop n xs) ≡ drop n xs
slice-rest xs n = grind (arith, common_steps)

-- a byte that is no digit
pub after-bad : (n : ℕ) (xs : List ℕ) (i : ℕ) → i < length xs → is_digit (get_or xs i 0) ≡ false → number_after n (drop i xs) ≡ None
after-bad n xs i h bad = rw (drop-cons xs i 0 h, bad) refl

-- lines
abbrev is_end : ℕ → Bool
is_end b = b == 10

pub lines-one : (s : List ℕ) → All (λ x. (x == 10) ≡ false) s → slice_split is_end s ≡ s ∷ []
lines-one s h = slice_split_none is_end s h

pub lines-cut : (s : List ℕ) (n : ℕ) → n < length s → All (λ x. (x == 10) ≡ false) (take n s) → slice_index s n ≡ 10
    → slice_split is_end s ≡ take n s ∷ slice_split is_end (drop (n + 1) s)
lines-cut s n lt clean e =
    let whole : s ≡ take n s ++ 10 ∷ drop (n + 1) s = cut-at s n lt ∙ ap (λ x. take n s ++ x ∷ drop (n + 1) s) e in
    ap (λ l. slice_split is_end l) whole ∙ slice_split_at is_end (take n s) 10 (drop (n + 1) s) clean refl
