-- Attributes and nodes, one by one.
use Rattle.std.proofs.Common.{◌≡◌, ◌∙◌, ℕ, ◌+◌, ◌≤◌, ◌<◌, Bool, true, false, cond, not, List, [], ◌∷◌, ◌++◌, length, take, get_or, refl, sym, ap, subst, flat_map}
use Rattle.std.specs.Prelude.{◌||◌, Some, None, find}
use Rattle.std.specs.List.{list_any}
use Rattle.std.proofs.lemmas.List.{flat_map_more, take_all, take_more}

pub any_found : {X : Type 0} (p : X → Bool) (xs : List X) (x : X) → Some x ≡ find p xs → list_any p xs ≡ true
any_found p [] x e = absurd cc
any_found p (y ∷ ys) x e =
    elim (p y) as (λ b. (p y ≡ b) → Some x ≡ cond b (Some y) (find p ys) → (b || list_any p ys) ≡ true) [
      | true ↦ λ is h. refl
      | false ↦ λ is h. any_found p ys x h
    ] refl e

pub none_found : {X : Type 0} (p : X → Bool) (xs : List X) → None ≡ find p xs → list_any p xs ≡ false
none_found p [] e = refl
none_found p (y ∷ ys) e =
    elim (p y) as (λ b. (p y ≡ b) → None ≡ cond b (Some y) (find p ys) → (b || list_any p ys) ≡ false) [
      | true ↦ λ is h. absurd cc
      | false ↦ λ is h. none_found p ys h
    ] refl e

-- one item more of a list
pub flat-step : {X A : Type 0} (f : X → List A) (xs : List X) (i : ℕ) (x : X) (first old now : List A) → i < length xs → x ≡ get_or xs i x → old ≡ first ++ flat_map f (take i xs) → now ≡ old ++ f x → now ≡ first ++ flat_map f (take (i + 1) xs)
flat-step f xs i x first old now h is so here =
    here ∙ ap (λ fs. fs ++ f x) so ∙ flat_map_more f first (take i xs) x
    ∙ ap (λ y. first ++ flat_map f (take i xs ++ y ∷ [])) is ∙ ap (λ ys. first ++ flat_map f ys) (sym (take_more xs i x h))

pub flat-all : {X A : Type 0} (f : X → List A) (xs : List X) (i : ℕ) (first now : List A) → length xs ≤ i → now ≡ first ++ flat_map f (take i xs) → now ≡ first ++ flat_map f xs
flat-all f xs i first now h so = so ∙ ap (λ ys. first ++ flat_map f ys) (take_all i xs h)

pub not-not : (b : Bool) → not (not b) ≡ b
not-not true = refl
not-not false = refl

-- the same of a list that is another one
pub flat-step-of : {X A : Type 0} (f : X → List A) (ys xs : List X) (i : ℕ) (x : X) (first old now : List A) → ys ≡ xs → i < length ys → x ≡ get_or ys i x → old ≡ first ++ flat_map f (take i xs) → now ≡ old ++ f x → now ≡ first ++ flat_map f (take (i + 1) xs)
flat-step-of f ys xs i x first old now same h is so here =
    subst (λ zs. old ≡ first ++ flat_map f (take i zs) → now ≡ first ++ flat_map f (take (i + 1) zs)) same (λ so-far. flat-step f ys i x first old now h is so-far here) so

pub flat-all-of : {X A : Type 0} (f : X → List A) (ys xs : List X) (i : ℕ) (first now : List A) → ys ≡ xs → length ys ≤ i → now ≡ first ++ flat_map f (take i xs) → now ≡ first ++ flat_map f xs
flat-all-of f ys xs i first now same h so = subst (λ zs. now ≡ first ++ flat_map f (take i zs) → now ≡ first ++ flat_map f zs) same (flat-all f ys i first now h) so
