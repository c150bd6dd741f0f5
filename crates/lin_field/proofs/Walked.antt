-- What loops make of the items that they have had.
use Rattle.std.proofs.Common.{◌≡◌, ℕ, ◌<◌, ◌+◌, Bool, true, false, cond, List, [], ◌∷◌, ◌++◌, length, map, take, get_or, refl, sym, ap, ◌∙◌, append-nil, append_assoc}
use Rattle.std.specs.Prelude.{Some, find, ◌||◌}
use Rattle.std.specs.List.{flat_map, filter, list_any}
use Rattle.std.specs.Option.{option_map}
use Rattle.std.proofs.lemmas.List.{map_push, flat_map_more, take_more}
use Rattle.std.proofs.lemmas.List.Elements.{filter-append}

-- one more that is made
pub made-of : {A B : Type 0} (f : A → B) (xs : List A) (x : A) (made more : List B) → made ≡ map f xs → more ≡ made ++ f x ∷ [] → more ≡ map f (xs ++ x ∷ [])
made-of f xs x made more so here = here ∙ ap (λ ys. ys ++ f x ∷ []) so ∙ sym (map_push f xs x)

-- what is found of one more
pub found-of : {A B : Type 0} (f : A → List B) (xs : List A) (x : A) (before found more : List B) → found ≡ before ++ flat_map f xs → more ≡ found ++ f x → more ≡ before ++ flat_map f (xs ++ x ∷ [])
found-of f xs x before found more so here = here ∙ ap (λ ys. ys ++ f x) so ∙ flat_map_more f before xs x

-- one more of all
pub taken-more : {A : Type 0} (taken rest left whole : List A) (x : A) → rest ≡ x ∷ left → taken ++ rest ≡ whole → (taken ++ x ∷ []) ++ left ≡ whole
taken-more taken rest left whole x next all = append_assoc taken (x ∷ []) left ∙ ap (λ r. taken ++ r) (sym next) ∙ all

-- a filter with one more of a list
pub filtered : {A : Type 0} (p : A → Bool) (xs : List A) (i : ℕ) (x : A) → i < length xs → x ≡ get_or xs i x → filter p (take (i + 1) xs) ≡ filter p (take i xs) ++ cond (p x) (x ∷ []) []
filtered p xs i x h is =
    ap (filter p) (take_more xs i x h ∙ ap (λ y. take i xs ++ y ∷ []) (sym is)) ∙ filter-append p (take i xs) (x ∷ [])

pub filter-keeps : {A : Type 0} (p : A → Bool) (xs : List A) (i : ℕ) (x : A) → i < length xs → x ≡ get_or xs i x → p x ≡ true → filter p (take (i + 1) xs) ≡ filter p (take i xs) ++ x ∷ []
filter-keeps p xs i x h is kept = filtered p xs i x h is ∙ ap (λ b. filter p (take i xs) ++ cond b (x ∷ []) []) kept

pub filter-drops : {A : Type 0} (p : A → Bool) (xs : List A) (i : ℕ) (x : A) → i < length xs → x ≡ get_or xs i x → p x ≡ false → filter p (take (i + 1) xs) ≡ filter p (take i xs)
filter-drops p xs i x h is left = filtered p xs i x h is ∙ ap (λ b. filter p (take i xs) ++ cond b (x ∷ []) []) left ∙ append-nil (filter p (take i xs))

-- what is found of the items that pass, one that passes more, and one that doesn't
pub found-kept : {A B : Type 0} (f : A → List B) (p : A → Bool) (xs : List A) (i : ℕ) (x : A) (found more : List B) → i < length xs → x ≡ get_or xs i x → p x ≡ true → found ≡ flat_map f (filter p (take i xs)) → more ≡ found ++ f x → more ≡ flat_map f (filter p (take (i + 1) xs))
found-kept f p xs i x found more h is kept so here =
    here ∙ ap (λ ys. ys ++ f x) so ∙ flat_map_more f [] (filter p (take i xs)) x ∙ ap (flat_map f) (sym (filter-keeps p xs i x h is kept))

pub made-kept : {A B : Type 0} (f : A → B) (p : A → Bool) (xs : List A) (i : ℕ) (x : A) (made more : List B) → i < length xs → x ≡ get_or xs i x → p x ≡ true → made ≡ map f (filter p (take i xs)) → more ≡ made ++ f x ∷ [] → more ≡ map f (filter p (take (i + 1) xs))
made-kept f p xs i x made more h is kept so here =
    made-of f (filter p (take i xs)) x made more so here ∙ ap (map f) (sym (filter-keeps p xs i x h is kept))

-- the first that passes, of what is made of each
pub first-made : {A B C : Type 0} (g : A → B) (h : B → C) (p : B → Bool) (xs : List A) → option_map (λ x. h (g x)) (find (λ x. p (g x)) xs) ≡ option_map h (find p (map g xs))
first-made g h p [] = refl
first-made g h p (x ∷ xs) =
    elim (p (g x)) as (λ b. option_map (λ y. h (g y)) (cond b (Some x) (find (λ y. p (g y)) xs)) ≡ option_map h (cond b (Some (g x)) (find p (map g xs)))) [
      | true ↦ refl
      | false ↦ first-made g h p xs
    ]

-- ---- where no item passes a test

pub neither : (a b : Bool) → (a || b) ≡ false → (a ≡ false) × (b ≡ false)
neither true b h = absurd (cc)
neither false b h = (refl, h)

pub map-same : {A : Type 0} (f : A → A) (p : A → Bool) → ((x : A) → p x ≡ false → f x ≡ x) → (xs : List A) → list_any p xs ≡ false → map f xs ≡ xs
map-same f p same [] none = refl
map-same f p same (x ∷ xs) none =
    let parts = neither (p x) (list_any p xs) none in
    ap (λ y. y ∷ map f xs) (same x parts.0) ∙ ap (λ ys. x ∷ ys) (map-same f p same xs parts.1)

pub none-found : {A B : Type 0} (f : A → List B) (p : A → Bool) → ((x : A) → p x ≡ false → f x ≡ []) → (xs : List A) → list_any p xs ≡ false → flat_map f xs ≡ []
none-found f p nothing [] none = refl
none-found f p nothing (x ∷ xs) none =
    let parts = neither (p x) (list_any p xs) none in
    ap (λ ys. ys ++ flat_map f xs) (nothing x parts.0) ∙ none-found f p nothing xs parts.1

pub none-pass : {A : Type 0} (p : A → Bool) (xs : List A) → list_any p xs ≡ false → filter p xs ≡ []
none-pass p [] none = refl
none-pass p (x ∷ xs) none =
    let parts = neither (p x) (list_any p xs) none in
    ap (λ b. cond b (x ∷ filter p xs) (filter p xs)) parts.0 ∙ none-pass p xs parts.1
