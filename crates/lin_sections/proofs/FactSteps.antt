-- Words, facts and keys, one by one.
use Rattle.std.proofs.Common.{◌≡◌, ◌∙◌, ◌+◌, ◌<◌, ◌≤◌, ℕ, zero, suc, Bool, true, false, cond, List, [], ◌∷◌, ◌++◌, length, map, flat_map, take, get_or, append_assoc, append-nil, refl, sym, ap, subst, arith}
use Rattle.std.specs.Prelude.{◌||◌, filter, IfSome, Option, Some, None, fold, min, zip}
use Rattle.std.specs.Option.{option_copied}
use Rattle.std.specs.List.{list_any}
use Rattle.std.proofs.lemmas.List.{map-append, map_more, take_all, take_more}
use Rattle.std.proofs.lemmas.List.Concat.{flat_map-append}
use Rattle.std.proofs.lemmas.List.Elements.{filter-append}
use Rattle.std.proofs.lemmas.List.Sums.{fold-append}
use denote.Ref.{Bor}
use Rattle.lin_sections.specs.FactTexts.{with_word}
use Rattle.lin_sections.proofs.NewNameSteps.{any-append}

-- a word that goes on
pub word_goes_on : (text word more : List ℕ) → with_word text word ++ more ≡ with_word text (word ++ more)
word_goes_on [] word more = refl
word_goes_on (b ∷ bs) word more = append_assoc (b ∷ bs) (32 ∷ word) more

-- a test of what is made of each item
pub any-of-map : {X Y : Type 0} (f : X → Y) (p : Y → Bool) (xs : List X) → list_any p (map f xs) ≡ list_any (λ x. p (f x)) xs
any-of-map f p [] = refl
any-of-map f p (x ∷ xs) = ap (λ b. p (f x) || b) (any-of-map f p xs)

-- a test of one item more
pub any-more : {X : Type 0} (p : X → Bool) (xs : List X) (i : ℕ) (x : X) (old new : Bool) → i < length xs → x ≡ get_or xs i x → old ≡ list_any p (take i xs) → new ≡ (old || p x)
    → new ≡ list_any p (take (i + 1) xs)
any-more p xs i x old new lt is so here =
    here ∙ (λ j. so j || p (is j)) ∙ sym (any-append p (take i xs) (get_or xs i x)) ∙ ap (list_any p) (sym (take_more xs i x lt))

-- ---- one item more

pub flat-more : {X Y : Type 0} (f : X → List Y) (xs : List X) (i : ℕ) (d : X) → i < length xs
    → flat_map f (take (i + 1) xs) ≡ flat_map f (take i xs) ++ f (get_or xs i d)
flat-more f xs i d lt =
    ap (flat_map f) (take_more xs i d lt) ∙ flat_map-append f (take i xs) (get_or xs i d ∷ [])
    ∙ ap (λ ys. flat_map f (take i xs) ++ ys) (append-nil (f (get_or xs i d)))

pub mapped-kept : {X Y : Type 0} (p : Y → Bool) (f : X → Y) (xs : List X) (i : ℕ) (d : X) → i < length xs
    → filter p (map f (take (i + 1) xs)) ≡ filter p (map f (take i xs)) ++ filter p (f (get_or xs i d) ∷ [])
mapped-kept p f xs i d lt =
    ap (filter p) (map_more f xs i d lt) ∙ filter-append p (map f (take i xs)) (f (get_or xs i d) ∷ [])

pub flat-kept : {X Y : Type 0} (p : Y → Bool) (f : X → List Y) (xs : List X) (i : ℕ) (d : X) → i < length xs
    → filter p (flat_map f (take (i + 1) xs)) ≡ filter p (flat_map f (take i xs)) ++ filter p (f (get_or xs i d))
flat-kept p f xs i d lt =
    ap (filter p) (flat-more f xs i d lt) ∙ filter-append p (flat_map f (take i xs)) (f (get_or xs i d))

mapped-if : {X Y : Type 0} (b : Bool) (f : X → Y) (x : X) → map f (cond b (x ∷ []) []) ≡ cond b (f x ∷ []) []
mapped-if true f x = refl
mapped-if false f x = refl

pub kept-mapped : {X Y : Type 0} (f : X → Y) (p : X → Bool) (xs : List X) (i : ℕ) (d : X) → i < length xs
    → map f (filter p (take (i + 1) xs)) ≡ map f (filter p (take i xs)) ++ cond (p (get_or xs i d)) (f (get_or xs i d) ∷ []) []
kept-mapped f p xs i d lt =
    ap (λ ys. map f (filter p ys)) (take_more xs i d lt)
    ∙ ap (map f) (filter-append p (take i xs) (get_or xs i d ∷ []))
    ∙ map-append f (filter p (take i xs)) (filter p (get_or xs i d ∷ []))
    ∙ ap (λ ys. map f (filter p (take i xs)) ++ ys) (mapped-if (p (get_or xs i d)) f (get_or xs i d))

-- what is added for one item more
pub added-more : {X Y : Type 0} (all_of : List X → List Y) (of : X → List Y) (xs : List X) (i : ℕ) (x : X) (first old new : List Y)
    → all_of (take (i + 1) xs) ≡ all_of (take i xs) ++ of (get_or xs i x) → x ≡ get_or xs i x
    → old ≡ first ++ all_of (take i xs) → new ≡ old ++ of x → new ≡ first ++ all_of (take (i + 1) xs)
added-more all_of of xs i x first old new step is so here =
    here ∙ (λ j. so j ++ of (is j)) ∙ append_assoc first (all_of (take i xs)) (of (get_or xs i x)) ∙ ap (λ ys. first ++ ys) (sym step)

-- what is made of all before, and of one item more
pub step-more : {X A : Type 0} (all_of : List X → A) (step : A → X → A) (xs : List X) (i : ℕ) (x : X) (old new : A)
    → all_of (take (i + 1) xs) ≡ step (all_of (take i xs)) (get_or xs i x) → x ≡ get_or xs i x
    → old ≡ all_of (take i xs) → new ≡ step old x → new ≡ all_of (take (i + 1) xs)
step-more all_of step xs i x old new more is so here = here ∙ (λ j. step (so j) (is j)) ∙ sym more

pub fold-more : {X A : Type 0} (f : A → X → A) (a : A) (xs : List X) (i : ℕ) (d : X) → i < length xs
    → fold f a (take (i + 1) xs) ≡ f (fold f a (take i xs)) (get_or xs i d)
fold-more f a xs i d lt = ap (fold f a) (take_more xs i d lt) ∙ fold-append f a (take i xs) (get_or xs i d ∷ [])

pub fold-mapped-more : {X Y A : Type 0} (f : A → Y → A) (a : A) (of : X → Y) (xs : List X) (i : ℕ) (d : X) → i < length xs
    → fold f a (map of (take (i + 1) xs)) ≡ f (fold f a (map of (take i xs))) (of (get_or xs i d))
fold-mapped-more f a of xs i d lt = ap (fold f a) (map_more of xs i d lt) ∙ fold-append f a (map of (take i xs)) (of (get_or xs i d) ∷ [])

-- ---- pairs

pub pair-more : {X Y : Type 0} (xs : List X) (ys : List Y) (i : ℕ) (x : X) (y : Y) → i < length xs → i < length ys
    → take (i + 1) (zip xs ys) ≡ take i (zip xs ys) ++ (get_or xs i x, get_or ys i y) ∷ []
pair-more [] ys i x y lt few = absurd (omega arith)
pair-more (a ∷ xs) [] i x y lt few = absurd (omega arith)
pair-more (a ∷ xs) (b ∷ ys) zero x y lt few = refl
pair-more {X} {Y} (a ∷ xs) (b ∷ ys) (suc i) x y lt few =
    let next : suc i + 1 ≡ suc (i + 1) = omega arith in
    ap (λ k. take k ((a, b) ∷ zip xs ys)) next
    ∙ ap (λ (ps : List (X × Y)). (a, b) ∷ ps) (pair-more xs ys i x y (omega arith) (omega arith))

pairs-few : {X Y : Type 0} (xs : List X) (ys : List Y) (i : ℕ) → min (length xs) (length ys) ≤ i → length (zip xs ys) ≤ i
pairs-few [] ys i le = omega arith
pairs-few (a ∷ xs) [] i le = omega arith
pairs-few (a ∷ xs) (b ∷ ys) zero le = absurd (omega arith)
pairs-few (a ∷ xs) (b ∷ ys) (suc i) le = let few : length (zip xs ys) ≤ i = pairs-few xs ys i (omega arith) in omega arith

pub all-pairs : {X Y : Type 0} (xs : List X) (ys : List Y) (i : ℕ) → min (length xs) (length ys) ≤ i → take i (zip xs ys) ≡ zip xs ys
all-pairs xs ys i le = take_all i (zip xs ys) (pairs-few xs ys i le)

-- what is made of an item
pub mapped-at : {X Y : Type 0} (f : X → Y) (xs : List X) (i : ℕ) (d : X) → i < length xs
    → f (get_or xs i d) ≡ get_or (map f xs) i (f (get_or xs i d))
mapped-at f [] i d lt = absurd (omega arith)
mapped-at f (x ∷ xs) zero d lt = refl
mapped-at f (x ∷ xs) (suc i) d lt = mapped-at f xs i d (omega arith)

-- a fact of what is lent
pub lent-some : {X : Type 0} (P : X → Type 0) (o : Option (Bor X)) (x : Option X) → option_copied o ≡ x → IfSome x P → IfSome o (λ b. P b.now)
lent-some P None x e h = tt
lent-some P (Some b) x e h = subst (λ y. IfSome y P) (sym e) h

-- what is made of items that are lent
pub mapped-lent : {X Y : Type 0} (f : X → Y) (xs : List (Bor X)) → map (λ b. f b.now) xs ≡ map f (map (λ b. b.now) xs)
mapped-lent f [] = refl
mapped-lent f (x ∷ xs) = ap (λ ys. f x.now ∷ ys) (mapped-lent f xs)
