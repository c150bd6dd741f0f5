-- Lists of findings as loops make them.
use Rattle.std.proofs.Common.{◌≡◌, ℕ, ◌+◌, ◌<◌, ◌≤◌, List, [], ◌∷◌, ◌++◌, length, take, map, get_or, slice_get, sym, ap, ◌∙◌, zero-add, append-nil, append_assoc}
use Rattle.std.specs.Prelude.{Option}
use Rattle.std.specs.List.{flat_map, filter_map, cons_option, enumerate_from}
use Rattle.std.proofs.lemmas.List.Elements.{filter_map-append}
use Rattle.std.proofs.lemmas.List.{take_more, take_all, map-append}
use Rattle.std.proofs.lemmas.Grind.{flat_map-append}
use Rattle.std.proofs.lemmas.List.FromFn.{length-enumerate_from, get_or-enumerate_from}
use Rattle.std.proofs.lemmas.Option.{slice_get_past}
use Rattle.lin_cluster.specs.Limits.{past}
use Rattle.lin_cluster.specs.declared.finding.Finding.{Finding}
use Rattle.lin_parts.specs.declared.description.Name.{Name}

-- with one more of the items of a list, each with its place
pub each_more : {A B : Type 0} (f : ℕ × A → List B) (xs : List A) (i : ℕ) (d : A) → i < length xs → flat_map f (take (i + 1) (enumerate_from 0 xs)) ≡ flat_map f (take i (enumerate_from 0 xs)) ++ f (i, get_or xs i d)
each_more f xs i d h =
    let within : i < length (enumerate_from 0 xs) = rw (length-enumerate_from 0 xs) h in
    let more : take (i + 1) (enumerate_from 0 xs) ≡ take i (enumerate_from 0 xs) ++ get_or (enumerate_from 0 xs) i (0, d) ∷ [] = take_more (enumerate_from 0 xs) i (0, d) within in
    let item : get_or (enumerate_from 0 xs) i (0, d) ≡ (i, get_or xs i d) = get_or-enumerate_from 0 xs i (0, d) h ∙ ap (λ (k : ℕ). (k, get_or xs i d)) (zero-add i) in
    ap (flat_map f) more ∙ flat_map-append f (take i (enumerate_from 0 xs)) (get_or (enumerate_from 0 xs) i (0, d) ∷ []) ∙ ap (λ ys. flat_map f (take i (enumerate_from 0 xs)) ++ ys) (append-nil (f (get_or (enumerate_from 0 xs) i (0, d))) ∙ ap f item)

pub each_all : {A : Type 0} (xs : List A) (i : ℕ) → length xs ≤ i → take i (enumerate_from 0 xs) ≡ enumerate_from 0 xs
each_all xs i h = take_all i (enumerate_from 0 xs) (rw (length-enumerate_from 0 xs) h)

-- nothing is past where there are as many as there may be, or fewer
pub past_none : {A : Type 0} (name : A → Name) (xs : List A) (n : ℕ) (found : List Finding) → length xs ≤ n → found ≡ found ++ past name (slice_get xs n)
past_none name xs n found h = rw (slice_get_past xs n h) (sym (append-nil found))

-- a step of a loop that adds what it finds at each place
pub each_step : {A B : Type 0} (f : ℕ × A → List B) (xs : List A) (i : ℕ) (d : A) (before found more : List B) → i < length xs → found ≡ before ++ flat_map f (take i (enumerate_from 0 xs)) → more ≡ found ++ f (i, get_or xs i d) → more ≡ before ++ flat_map f (take (i + 1) (enumerate_from 0 xs))
each_step f xs i d before found more h so here =
    here ∙ ap (λ ys. ys ++ f (i, get_or xs i d)) so ∙ append_assoc before (flat_map f (take i (enumerate_from 0 xs))) (f (i, get_or xs i d)) ∙ ap (λ ys. before ++ ys) (sym (each_more f xs i d h))

-- the same where the item is known by another name
pub each_step_at : {A B : Type 0} (f : ℕ × A → List B) (xs : List A) (i : ℕ) (x : A) (before found more : List B) → i < length xs → get_or xs i x ≡ x → found ≡ before ++ flat_map f (take i (enumerate_from 0 xs)) → more ≡ found ++ f (i, x) → more ≡ before ++ flat_map f (take (i + 1) (enumerate_from 0 xs))
each_step_at f xs i x before found more h is so here = each_step f xs i x before found more h so (here ∙ ap (λ y. found ++ f (i, y)) (sym is))

-- four findings, one after another
pub four_more : {A : Type 0} (before one two three a b c x : List A) → one ≡ before ++ a → two ≡ one ++ b → three ≡ two ++ c → three ++ x ≡ before ++ (a ++ b ++ c ++ x)
four_more before one two three a b c x first second third =
    ap (λ l. l ++ x) (third ∙ ap (λ l. l ++ c) (second ∙ ap (λ l. l ++ b) first ∙ append_assoc before a b) ∙ append_assoc before (a ++ b) c) ∙ append_assoc before (a ++ b ++ c) x

-- a step of a loop that makes something of each item
pub made_step : {A B : Type 0} (f : A → B) (xs : List A) (i : ℕ) (x : A) (made more : List B) → i < length xs → x ≡ get_or xs i x → made ≡ map f (take i xs) → more ≡ made ++ f x ∷ [] → more ≡ map f (take (i + 1) xs)
made_step f xs i x made more h is so here =
    here ∙ ap (λ ys. ys ++ f x ∷ []) so ∙ sym (map-append f (take i xs) (x ∷ [])) ∙ ap (λ y. map f (take i xs ++ y ∷ [])) is ∙ ap (map f) (sym (take_more xs i x h))

-- a step of a loop that keeps what there is of each item
pub kept_step : {A B : Type 0} (f : A → Option B) (xs : List A) (i : ℕ) (x : A) (kept more : List B) → i < length xs → x ≡ get_or xs i x → kept ≡ filter_map f (take i xs) → more ≡ kept ++ cons_option (f x) [] → more ≡ filter_map f (take (i + 1) xs)
kept_step f xs i x kept more h is so here =
    here ∙ ap (λ ys. ys ++ cons_option (f x) []) so ∙ sym (filter_map-append f (take i xs) (x ∷ [])) ∙ ap (λ y. filter_map f (take i xs ++ y ∷ [])) is ∙ ap (filter_map f) (sym (take_more xs i x h))

-- a step of a loop that adds what it finds of each item
pub found_step : {A B : Type 0} (f : A → List B) (xs : List A) (i : ℕ) (x : A) (before found more : List B) → i < length xs → x ≡ get_or xs i x → found ≡ before ++ flat_map f (take i xs) → more ≡ found ++ f x → more ≡ before ++ flat_map f (take (i + 1) xs)
found_step f xs i x before found more h is so here =
    here ∙ ap (λ ys. ys ++ f x) so ∙ append_assoc before (flat_map f (take i xs)) (f x)
    ∙ ap (λ ys. before ++ (flat_map f (take i xs) ++ ys)) (sym (append-nil (f x)))
    ∙ ap (λ ys. before ++ ys) (sym (flat_map-append f (take i xs) (x ∷ [])))
    ∙ ap (λ y. before ++ flat_map f (take i xs ++ y ∷ [])) is
    ∙ ap (λ ys. before ++ flat_map f ys) (sym (take_more xs i x h))
