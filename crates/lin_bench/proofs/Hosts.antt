-- Hosts of which messages wait.
use Rattle.std.proofs.Common.{◌≡◌, ◌∙◌, ℕ, suc, zero, ◌+◌, ◌-◌, ◌<◌, Bool, true, false, cond, ◌||◌, [], ◌∷◌, ◌++◌, map, refl, ap, arith, add-one}
use Rattle.std.specs.Prelude.{filter}
use Rattle.std.specs.List.{list_any}
use Rattle.std.proofs.lemmas.List.{map-append}
use Rattle.std.proofs.lemmas.List.Elements.{filter-append}
use Rattle.std.proofs.lemmas.List.Folds.{list_any-append}
use Rattle.lin_frame.specs.Words.{numbers}

or-true : (b : Bool) → (b || true) ≡ true
or-true true = refl
or-true false = refl

or-false : (b : Bool) → (b || false) ≡ b
or-false true = refl
or-false false = refl

-- a number below n passes
some-suc : (p : ℕ → Bool) (n : ℕ) → list_any p (numbers (suc n)) ≡ (list_any p (numbers n) || p n)
some-suc p n = list_any-append p (numbers n) (n ∷ []) ∙ ap (λ b. list_any p (numbers n) || b) (or-false (p n))

some-from : (p : ℕ → Bool) (i d n : ℕ) → n ≡ i + 1 + d → p i ≡ true → list_any p (numbers n) ≡ true
some-from p i d zero e h = absurd (omega arith)
some-from p i zero (suc n) e h = let s : n ≡ i = omega arith in some-suc p n ∙ rw (s, h) (or-true (list_any p (numbers i)))
some-from p i (suc d) (suc n) e h = some-suc p n ∙ ap (λ b. b || p n) (some-from p i d n (omega arith) h)

pub some-passes : (p : ℕ → Bool) (n i : ℕ) → i < n → p i ≡ true → list_any p (numbers n) ≡ true
some-passes p n i small h = some-from p i (n - i - 1) n (omega arith) h

pub none-so-far : (p : ℕ → Bool) (i : ℕ) → p i ≡ false → list_any p (numbers i) ≡ false → list_any p (numbers (i + 1)) ≡ false
none-so-far p i h none = rw (add-one) (some-suc p i ∙ rw (none, h) refl)

-- the hosts that pass, up to one more
pub hosts-more : (p : ℕ × ℕ → Bool) (f : ℕ → ℕ × ℕ) (i : ℕ)
    → filter p (map f (numbers (i + 1))) ≡ filter p (map f (numbers i)) ++ cond (p (f i)) (f i ∷ []) []
hosts-more p f i =
    rw (add-one) (ap (filter p) (map-append f (numbers i) (i ∷ [])) ∙ filter-append p (map f (numbers i)) (f i ∷ []))
