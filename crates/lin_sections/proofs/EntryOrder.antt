-- Entries that all kept their order.
use Rattle.std.proofs.Common.{◌≡◌, ◌∙◌, ◌+◌, ◌<◌, ◌≤◌, ℕ, zero, suc, Bool, true, false, cond, List, [], ◌∷◌, ◌++◌, length, get_or, map, flat_map, refl, sym, ap, subst, arith}
use Rattle.std.specs.Prelude.{◌||◌, ◌&&◌, ◌==◌, Contains, zip, Option, Some, None}
use Rattle.std.specs.List.{list_any, position_from, range_with_len}
use Rattle.std.specs.Option.{option_map_or}
use Rattle.std.specs.Str.{bytes_eq}
use Rattle.std.proofs.lemmas.Bool.Decides.{nat_tests}
use Rattle.lin_cluster.proofs.NamesFound.{same-text, text-same}
use Rattle.lin_sections.specs.NewNames.{is_among}
use Rattle.lin_sections.proofs.FoundTexts.{contained-later, Apart}
use Rattle.lin_sections.proofs.MovedLaws.{Rising}

-- the place of a text among others, if it is there
abbrev pub place_in : ℕ → List (List ℕ) → List ℕ → Option ℕ
place_in k texts t = position_from (λ u. bytes_eq u t) k texts

abbrev pub listed : Option ℕ → List ℕ
listed o = option_map_or (λ p. p ∷ []) o []

-- the places of texts
abbrev pub places : ℕ → List (List ℕ) → List (List ℕ) → List ℕ
places k texts ts = flat_map (λ t. listed (place_in k texts t)) ts

rising-below : (k m : ℕ) (ps : List ℕ) → k ≤ m → Rising m ps → Rising k ps
rising-below k m [] le r = tt
rising-below k m (p ∷ ps) le r = (let up : m ≤ p = r.0 in omega arith, r.1)

or-true : (b : Bool) → (b || true) ≡ true
or-true true = refl
or-true false = refl

or-later : (b c : Bool) → (b || c) ≡ false → c ≡ false
or-later true c e = absurd cc
or-later false c e = e

and-unset : (b c d : Bool) → c ≡ true → ((b && c) || d) ≡ false → b ≡ false
and-unset false c d e none = refl
and-unset true c d e none = absurd (let no : true ≡ false = ap (λ x. x || d) (sym e) ∙ none in cc)

number-same : (n : ℕ) → (n == n) ≡ true
number-same n = grind (arith, nat_tests)

other-way : (u t : List ℕ) → bytes_eq t u ≡ false → bytes_eq u t ≡ false
other-way u t isnt =
    elim (bytes_eq u t) as (λ b. (bytes_eq u t ≡ b) → b ≡ false) [
      | true ↦ λ e. let is : bytes_eq t u ≡ true = text-same t u (sym (same-text u t e)) in let no : true ≡ false = sym is ∙ isnt in cc
      | false ↦ λ e. refl
    ] refl

first-among : (t : List ℕ) (ts : List (List ℕ)) → is_among (t ∷ ts) t ≡ true
first-among t ts = ap (λ b. b || is_among ts t) (text-same t t refl)

-- a text that isn't the first one
not-first : (t : List ℕ) (ts : List (List ℕ)) (q : List ℕ) → (bytes_eq t q ≡ true → ⊥) → is_among (t ∷ ts) q ≡ true → is_among ts q ≡ true
not-first t ts q other e =
    elim (bytes_eq t q) as (λ b. (bytes_eq t q ≡ b) → (b || is_among ts q) ≡ true → is_among ts q ≡ true) [
      | true ↦ λ is e. absurd (other is)
      | false ↦ λ isnt e. e
    ] refl e

rising-rest : (m : ℕ) (o : Option ℕ) (ps : List ℕ) → Rising m (listed o ++ ps) → Rising m ps
rising-rest m None ps r = r
rising-rest m (Some p) ps r = rising-below m (p + 1) ps (let up : m ≤ p = r.0 in omega arith) r.1

place-from : (k : ℕ) (texts : List (List ℕ)) (t : List ℕ) → is_among texts t ≡ true → (p : ℕ) × (place_in k texts t ≡ Some p) × (k ≤ p)
place-from k [] t e = absurd cc
place-from k (u ∷ texts) t e =
    elim (bytes_eq u t) as (λ b. (bytes_eq u t ≡ b) → (b || is_among texts t) ≡ true → (p : ℕ) × (cond b (Some k) (place_in (k + 1) texts t) ≡ Some p) × (k ≤ p)) [
      | true ↦ λ is e. (k, refl, omega arith)
      | false ↦ λ isnt e.
          let rest : (p : ℕ) × (place_in (k + 1) texts t ≡ Some p) × (k + 1 ≤ p) = place-from (k + 1) texts t e in
          (rest.0, rest.1, let up : k + 1 ≤ rest.0 = rest.2 in omega arith)
    ] refl e

-- texts that aren't the first one
later-places : (k : ℕ) (u : List ℕ) (texts ts : List (List ℕ)) → is_among ts u ≡ false → places k (u ∷ texts) ts ≡ places (k + 1) texts ts
later-places k u texts [] none = refl
later-places k u texts (t ∷ ts) none =
    elim (bytes_eq t u) as (λ b. (bytes_eq t u ≡ b) → (b || is_among ts u) ≡ false → listed (place_in k (u ∷ texts) t) ++ places k (u ∷ texts) ts ≡ listed (place_in (k + 1) texts t) ++ places (k + 1) texts ts) [
      | true ↦ λ is none. absurd (let no : true ≡ false = none in cc)
      | false ↦ λ isnt none.
          let other : bytes_eq u t ≡ false = other-way u t isnt in
          ap (λ b. listed (cond b (Some k) (place_in (k + 1) texts t)) ++ places k (u ∷ texts) ts) other
          ∙ ap (λ ps. listed (place_in (k + 1) texts t) ++ ps) (later-places k u texts ts none)
    ] refl none

-- places above the first one don't have its text
above-first : (k m : ℕ) (u : List ℕ) (texts ts : List (List ℕ)) → k < m → Rising m (places k (u ∷ texts) ts) → is_among ts u ≡ false
above-first k m u texts [] lt r = refl
above-first k m u texts (t ∷ ts) lt r =
    elim (bytes_eq t u) as (λ b. (bytes_eq t u ≡ b) → (b || is_among ts u) ≡ false) [
      | true ↦ λ is.
          let first : bytes_eq u t ≡ true = text-same u t (sym (same-text t u is)) in
          let here : Rising m (k ∷ places k (u ∷ texts) ts) = subst (λ b. Rising m (listed (cond b (Some k) (place_in (k + 1) texts t)) ++ places k (u ∷ texts) ts)) first r in
          let up : m ≤ k = here.0 in absurd (omega arith)
      | false ↦ λ isnt. above-first k m u texts ts lt (rising-rest m (place_in k (u ∷ texts) t) (places k (u ∷ texts) ts) r)
    ] refl

-- places that rise in the order of the texts are those of the same texts
pub same-order : (k : ℕ) (texts ts : List (List ℕ)) → Apart texts
    → ((q : List ℕ) → is_among texts q ≡ true → is_among ts q ≡ true)
    → ((q : List ℕ) → is_among ts q ≡ true → is_among texts q ≡ true)
    → Rising k (places k texts ts) → texts ≡ ts
same-order k [] [] all there here r = refl
same-order k [] (t ∷ ts) all there here r = absurd (let no : false ≡ true = here t (first-among t ts) in cc)
same-order k (u ∷ texts) [] all there here r = absurd (let no : false ≡ true = there u (first-among u texts) in cc)
same-order k (u ∷ texts) (t ∷ ts) all there here r =
    elim (bytes_eq u t) as (λ b. (bytes_eq u t ≡ b) → u ∷ texts ≡ t ∷ ts) [
      | true ↦ λ is.
          let same : u ≡ t = same-text u t is in
          let r_is : Rising k (k ∷ places k (u ∷ texts) ts) = subst (λ b. Rising k (listed (cond b (Some k) (place_in (k + 1) texts t)) ++ places k (u ∷ texts) ts)) is r in
          let above : is_among ts u ≡ false = above-first k (k + 1) u texts ts (omega arith) r_is.1 in
          let rest : texts ≡ ts = same-order (k + 1) texts ts all.1
          (λ q e. not-first t ts q (λ is_q. let twice : is_among texts u ≡ true = ap (is_among texts) (same ∙ same-text t q is_q) ∙ e in let no : true ≡ false = sym twice ∙ all.0 in cc) (there q (ap (λ b. bytes_eq u q || b) e ∙ or-true (bytes_eq u q))))
          (λ q e. not-first u texts q (λ is_q. let twice : is_among ts u ≡ true = ap (is_among ts) (same-text u q is_q) ∙ e in let no : true ≡ false = sym twice ∙ above in cc) (here q (ap (λ b. bytes_eq t q || b) e ∙ or-true (bytes_eq t q))))
          (subst (λ ps. Rising (k + 1) ps) (later-places k u texts ts above) r_is.1) in
          (λ j. same j ∷ rest j)
      | false ↦ λ isnt.
          let in_texts : is_among texts t ≡ true = not-first u texts t (λ is_t. let no : false ≡ true = sym isnt ∙ is_t in cc) (here t (first-among t ts)) in
          let in_ts : is_among ts u ≡ true = not-first t ts u (λ is_u. let no : false ≡ true = sym isnt ∙ text-same u t (sym (same-text t u is_u)) in cc) (there u (first-among u texts)) in
          let later : (p : ℕ) × (place_in (k + 1) texts t ≡ Some p) × (k + 1 ≤ p) = place-from (k + 1) texts t in_texts in
          let at : place_in k (u ∷ texts) t ≡ Some later.0 = ap (λ b. cond b (Some k) (place_in (k + 1) texts t)) isnt ∙ later.1 in
          let r_is : Rising k (later.0 ∷ places k (u ∷ texts) ts) = subst (λ o. Rising k (listed o ++ places k (u ∷ texts) ts)) at r in
          let none : is_among ts u ≡ false = above-first k (later.0 + 1) u texts ts (let up : k + 1 ≤ later.0 = later.2 in omega arith) r_is.1 in
          absurd (let no : true ≡ false = sym in_ts ∙ none in cc)
    ] refl

-- and those of the texts themselves are all numbers
pub own-places : (k : ℕ) (texts : List (List ℕ)) → Apart texts → places k texts texts ≡ range_with_len k (length texts)
own-places k [] all = refl
own-places k (u ∷ texts) all =
    ap (λ b. listed (cond b (Some k) (place_in (k + 1) texts u)) ++ places k (u ∷ texts) texts) (text-same u u refl)
    ∙ ap (λ ps. k ∷ ps) (later-places k u texts texts all.0 ∙ own-places (k + 1) texts all.1)

-- ---- what is listed

listed-first : {X : Type 0} (g : X → Option ℕ) (y : X) (xs : List X) (p : ℕ) → g y ≡ Some p
    → ((i : ℕ) → i < length (flat_map (λ x. listed (g x)) xs) → (x : X) × Contains xs x × (g x ≡ Some (get_or (flat_map (λ x. listed (g x)) xs) i 0)))
    → (j : ℕ) → j < suc (length (flat_map (λ x. listed (g x)) xs)) → (x : X) × Contains (y ∷ xs) x × (g x ≡ Some (get_or (p ∷ flat_map (λ x. listed (g x)) xs) j 0))
listed-first g y xs p e later zero lt = (y, (0, omega arith, refl), e)
listed-first {X} g y xs p e later (suc j) lt =
    let rest : (x : X) × Contains xs x × (g x ≡ Some (get_or (flat_map (λ x. listed (g x)) xs) j 0)) = later j (omega arith) in
    (rest.0, contained-later y xs rest.0 rest.1, rest.2)

pub listed-is : {X : Type 0} (g : X → Option ℕ) (xs : List X) (j : ℕ) → j < length (flat_map (λ x. listed (g x)) xs)
    → (x : X) × Contains xs x × (g x ≡ Some (get_or (flat_map (λ x. listed (g x)) xs) j 0))
listed-is g [] j lt = absurd (omega arith)
listed-is {X} g (y ∷ xs) j lt =
    elim (g y) as (λ o. (g y ≡ o) → j < length (listed o ++ flat_map (λ x. listed (g x)) xs) → (x : X) × Contains (y ∷ xs) x × (g x ≡ Some (get_or (listed o ++ flat_map (λ x. listed (g x)) xs) j 0))) [
      | None ↦ λ e lt. let rest : (x : X) × Contains xs x × (g x ≡ Some (get_or (flat_map (λ x. listed (g x)) xs) j 0)) = listed-is g xs j lt in (rest.0, contained-later y xs rest.0 rest.1, rest.2)
      | Some p ↦ λ e lt. listed-first g y xs p e (listed-is g xs) j lt
    ] refl lt

pub mapped-listed : {X : Type 0} (f : X → List ℕ) (g : List ℕ → List ℕ) (xs : List X) → flat_map (λ x. g (f x)) xs ≡ flat_map g (map f xs)
mapped-listed f g [] = refl
mapped-listed f g (x ∷ xs) = ap (λ ys. g (f x) ++ ys) (mapped-listed f g xs)

-- ---- flags of places

abbrev pub flagged : ℕ → List ℕ → List Bool → Bool
flagged p ps flags = list_any (λ (x : ℕ × Bool). x.1 && x.0 == p) (zip ps flags)

pub no-flags : (p : ℕ) (ps : List ℕ) (flags : List Bool) → ((i : ℕ) → i < length ps → get_or flags i false ≡ false) → flagged p ps flags ≡ false
no-flags p [] flags none = refl
no-flags p (n ∷ ps) [] none = refl
no-flags p (n ∷ ps) (b ∷ flags) none =
    ap (λ c. (c && n == p) || flagged p ps flags) (none 0 (omega arith)) ∙ no-flags p ps flags (λ i lt. none (suc i) (omega arith))

pub flag-unset : (ps : List ℕ) (flags : List Bool) (i : ℕ) → i < length ps → flagged (get_or ps i 0) ps flags ≡ false → get_or flags i false ≡ false
flag-unset [] flags i lt none = absurd (omega arith)
flag-unset (n ∷ ps) [] i lt none = refl
flag-unset (n ∷ ps) (b ∷ flags) zero lt none =
    and-unset b (n == n) (flagged n ps flags) (number-same n) none
flag-unset (n ∷ ps) (b ∷ flags) (suc i) lt none = flag-unset ps flags i (omega arith) (or-later (b && n == get_or ps i 0) (flagged (get_or ps i 0) ps flags) none)
