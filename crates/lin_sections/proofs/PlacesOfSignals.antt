-- The places of signals, one by one.
use Rattle.std.proofs.Common.{◌≡◌, ◌≢◌, ◌∙◌, ◌+◌, ◌<◌, ◌≤◌, ℕ, zero, suc, Bool, true, false, cond, List, [], ◌∷◌, ◌++◌, length, map, flat_map, take, get_or, set, Some, None, refl, sym, ap, arith, append-nil}
use Rattle.std.specs.Prelude.{◌||◌, filter, fold, not}
use Rattle.std.specs.List.{position_from}
use Rattle.std.specs.Option.{option_or}
use Rattle.std.specs.Str.{bytes_eq}
use Rattle.std.proofs.lemmas.List.{get_or-set_other, get_or-set_same, map-append, take_more}
use Rattle.std.proofs.lemmas.List.Concat.{flat_map-append}
use Rattle.std.proofs.lemmas.List.Elements.{filter-append}
use Rattle.std.proofs.lemmas.List.Sums.{fold-append}
use Rattle.lin_cluster.proofs.NamesFound.{any-within, one-text, same-text, text-same}
use Rattle.lin_parts.specs.declared.description.Signal.{Signal}
use Rattle.lin_sections.specs.NewNames.{alone, is_among}
use Rattle.lin_sections.specs.Renames.{signal_key}
use Rattle.lin_sections.specs.Numbering.{ArePlaces}
use Rattle.lin_sections.specs.SignalPlaces.{number_among, places_under, with_place, without_places, ArePlacesOf}
use Rattle.lin_sections.specs.declared.diff.signal_facts.Places.{Places}
use Rattle.lin_sections.proofs.Found.{mapped-length}
use Rattle.lin_sections.specs.SortedTexts.{insert_text}

no-places : (names : List (List ℕ)) (n : ℕ) → get_or (without_places names) n [] ≡ []
no-places [] n = refl
no-places (t ∷ names) zero = refl
no-places (t ∷ names) (suc n) = no-places names n

pub all-without : (names : List (List ℕ)) (p : Places) → ArePlaces names p.numbers.map → p.all.items ≡ without_places names → ArePlacesOf names (λ q. []) p
all-without names p numbers all = record {
  numbers = numbers;
  size = ap (λ ps. length ps) all ∙ mapped-length (λ (n : List ℕ). []) names;
  each = λ q among. ap (λ ps. get_or ps (number_among names q) []) all ∙ no-places names (number_among names q);
}

-- without names, each place is one of theirs
pub of-none : (names : List (List ℕ)) (places more : List ℕ → List (List ℕ)) (p : Places) → length p.all.items ≡ 0 → ArePlacesOf names places p → ArePlacesOf names more p
of-none [] places more p none are = record {
  numbers = are.numbers;
  size = are.size;
  each = λ q among. absurd cc;
}
of-none (n ∷ names) places more p none are = absurd (omega (arith, are.size))

-- a name more has the next number
pub number-behind : (names : List (List ℕ)) (k : ℕ) (name q : List ℕ)
    → position_from (λ t. bytes_eq t q) k (names ++ name ∷ [])
    ≡ option_or (position_from (λ t. bytes_eq t q) k names) (cond (bytes_eq name q) (Some (k + length names)) None)
number-behind [] k name q = ap (λ n. cond (bytes_eq name q) (Some n) None) (omega arith)
number-behind (t ∷ names) k name q =
    elim (bytes_eq t q) as (λ b. cond b (Some k) (position_from (λ u. bytes_eq u q) (k + 1) (names ++ name ∷ [])) ≡ option_or (cond b (Some k) (position_from (λ u. bytes_eq u q) (k + 1) names)) (cond (bytes_eq name q) (Some (k + suc (length names))) None)) [
      | true ↦ refl
      | false ↦ number-behind names (k + 1) name q ∙ ap (λ n. option_or (position_from (λ u. bytes_eq u q) (k + 1) names) (cond (bytes_eq name q) (Some n) None)) (omega arith)
    ]

-- a place more of a signal that has a number
pub place-added : (names : List (List ℕ)) (all : List (List (List ℕ))) (places : List ℕ → List (List ℕ)) (signal place : List ℕ) (n : ℕ)
    → n ≡ number_among names signal → length all ≡ length names → n < length names
    → ((q : List ℕ) → is_among names q ≡ true → places_under names all q ≡ places q)
    → (q : List ℕ) → is_among names q ≡ true
    → places_under names (set all n (insert_text (get_or all n []) place)) q ≡ with_place places signal place q
place-added names all places signal place n is size lt each q among =
    elim (bytes_eq signal q) as (λ b. (bytes_eq signal q ≡ b) → places_under names (set all n (insert_text (get_or all n []) place)) q ≡ cond b (insert_text (places q) place) (places q)) [
      | true ↦ λ e.
          let at : number_among names q ≡ n = sym (is ∙ ap (number_among names) (same-text signal q e)) in
          let here : n < length all = omega arith in
          ap (λ k. get_or (set all n (insert_text (get_or all n []) place)) k []) at
          ∙ get_or-set_same all n (insert_text (get_or all n []) place) [] here
          ∙ ap (λ k. insert_text (get_or all k []) place) (sym at)
          ∙ ap (λ ps. insert_text ps place) (each q among)
      | false ↦ λ e.
          let other : number_among names q ≢ n = λ same.
          let within : number_among names q < length names = any-within (λ t. bytes_eq t q) names among in
          let texts : q ≡ signal = one-text (λ t. t) names q signal within (same ∙ is) in
          let twice : bytes_eq signal q ≡ true = text-same signal q (sym texts) in
          absurd cc in
          get_or-set_other all n (number_among names q) (insert_text (get_or all n []) place) [] other ∙ each q among
    ] refl

-- a place of a signal that isn't among the names
pub place-left : (names : List (List ℕ)) (all : List (List (List ℕ))) (places : List ℕ → List (List ℕ)) (signal place : List ℕ)
    → length names ≤ number_among names signal
    → ((q : List ℕ) → is_among names q ≡ true → places_under names all q ≡ places q)
    → (q : List ℕ) → is_among names q ≡ true → places_under names all q ≡ with_place places signal place q
place-left names all places signal place past each q among =
    elim (bytes_eq signal q) as (λ b. (bytes_eq signal q ≡ b) → places_under names all q ≡ cond b (insert_text (places q) place) (places q)) [
      | true ↦ λ e.
          let at : number_among names signal ≡ number_among names q = ap (number_among names) (same-text signal q e) in
          let within : number_among names q < length names = any-within (λ t. bytes_eq t q) names among in
          absurd (omega arith)
      | false ↦ λ e. each q among
    ] refl

-- ---- frame by frame

inserted : (b : Bool) (places texts : List (List ℕ)) (text : List ℕ) → fold insert_text places (texts ++ cond b (text ∷ []) []) ≡ cond b (insert_text (fold insert_text places texts) text) (fold insert_text places texts)
inserted true places texts text = fold-append insert_text places texts (text ∷ [])
inserted false places texts text = fold-append insert_text places texts []

mapped-if : {X : Type 0} (b : Bool) (text_of : X → List ℕ) (x : X) → map text_of (cond b (x ∷ []) []) ≡ cond b (text_of x ∷ []) []
mapped-if true text_of x = refl
mapped-if false text_of x = refl

-- the places that a test leaves, of one item more
pub placed-more : {X : Type 0} (test : X → Bool) (text_of : X → List ℕ) (places : List (List ℕ)) (xs : List X) (i : ℕ) (d : X) → i < length xs
    → fold insert_text places (map text_of (filter test (take (i + 1) xs)))
    ≡ cond (test (get_or xs i d)) (insert_text (fold insert_text places (map text_of (filter test (take i xs)))) (text_of (get_or xs i d)))
    (fold insert_text places (map text_of (filter test (take i xs))))
placed-more test text_of places xs i d lt =
    let x = get_or xs i d in
    ap (λ ys. fold insert_text places (map text_of (filter test ys))) (take_more xs i d lt)
    ∙ ap (λ ys. fold insert_text places (map text_of ys)) (filter-append test (take i xs) (x ∷ []))
    ∙ ap (fold insert_text places) (map-append text_of (filter test (take i xs)) (cond (test x) (x ∷ []) []) ∙ ap (λ ys. map text_of (filter test (take i xs)) ++ ys) (mapped-if (test x) text_of x))
    ∙ inserted (test x) places (map text_of (filter test (take i xs))) (text_of x)

-- the places in one frame more
pub frame-placed : {X : Type 0} (places_of : X → List (List ℕ)) (xs : List X) (i : ℕ) (d : X) → i < length xs
    → fold insert_text (fold insert_text [] (flat_map places_of (take i xs))) (places_of (get_or xs i d)) ≡ fold insert_text [] (flat_map places_of (take (i + 1) xs))
frame-placed places_of xs i d lt =
    sym (fold-append insert_text [] (flat_map places_of (take i xs)) (places_of (get_or xs i d)))
    ∙ ap (fold insert_text []) (ap (λ ys. flat_map places_of (take i xs) ++ ys) (sym (append-nil (places_of (get_or xs i d)))) ∙ sym (flat_map-append places_of (take i xs) (get_or xs i d ∷ [])) ∙ ap (flat_map places_of) (sym (take_more xs i d lt)))

-- ---- a name that the other LDF doesn't have

pub kept-among : {X : Type 0} (text_of : X → List ℕ) (is_other : List ℕ → Bool) (xs : List X) (i : ℕ) (d : X) → i < length xs → is_other (text_of (get_or xs i d)) ≡ false
    → is_among (filter (λ n. not (is_other n)) (map text_of xs)) (text_of (get_or xs i d)) ≡ true
kept-among text_of is_other [] i d lt e = absurd (omega arith)
kept-among text_of is_other (x ∷ xs) zero d lt e =
    let same : bytes_eq (text_of x) (text_of x) ≡ true = text-same (text_of x) (text_of x) refl in
    rw e (rw same refl)
kept-among text_of is_other (x ∷ xs) (suc i) d lt e =
    let rest : is_among (filter (λ n. not (is_other n)) (map text_of xs)) (text_of (get_or xs i d)) ≡ true = kept-among text_of is_other xs i d (omega arith) e in
    elim (is_other (text_of x)) as (λ b. is_among (cond (not b) (text_of x ∷ filter (λ n. not (is_other n)) (map text_of xs)) (filter (λ n. not (is_other n)) (map text_of xs))) (text_of (get_or xs i d)) ≡ true) [
      | true ↦ rest
      | false ↦ elim (bytes_eq (text_of x) (text_of (get_or xs i d))) as (λ b. (b || is_among (filter (λ n. not (is_other n)) (map text_of xs)) (text_of (get_or xs i d))) ≡ true) [
        | true ↦ refl
        | false ↦ rest
      ]
    ]

-- the key of a signal of which the other LDF has the name, and of one of which it doesn't
pub key-left : (is_other : List ℕ → Bool) (s : Signal) (places : List (List ℕ)) → is_other s.name.text ≡ true → alone is_other (signal_key s places) ≡ []
key-left is_other s [] e = refl
key-left is_other s (p ∷ ps) e = rw e refl

pub key-kept : (is_other : List ℕ → Bool) (s : Signal) (places : List (List ℕ)) → is_other s.name.text ≡ false → alone is_other (signal_key s places) ≡ signal_key s places
key-kept is_other s [] e = refl
key-kept is_other s (p ∷ ps) e = rw e refl
