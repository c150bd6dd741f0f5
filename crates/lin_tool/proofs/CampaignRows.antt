-- How many rows a campaign has, where each of them stands, and that its parts are the whole.
use Rattle.std.proofs.Common.{◌≡◌, ℕ, zero, suc, Bool, true, false, if◌then◌else◌, Option, Some, None, ◌+◌, ◌-◌, ◌*◌, ◌/◌, ◌<◌, ◌≤◌, List, [], ◌∷◌, ◌++◌, length, flat_map, get_or, take, refl, sym, ap, ◌∙◌, append_assoc, append-nil, add-one, arith, length-append}
use Rattle.std.proofs.Math.Nat.{suc-mul, mul-suc, div-eq_of_eq-mul_left, div-mul-le_self, le_of_mul-le-mul_right, mul-le-mul_left, zero-div}
use Rattle.std.proofs.Math.Seq.{take-add, take-length, get_or-append_seam}
use Rattle.std.proofs.lemmas.Grind.{flat_map-append}
use Rattle.std.proofs.lemmas.List.{get_or-append-add, get_or_append_left, get_or-map, length-map}
use Rattle.std.proofs.lemmas.Nat.{le-div}
use Rattle.std.specs.Option.{option_map_or}
use Rattle.lin_frame.specs.Words.{numbers}
use Rattle.lin_tool.specs.campaign.Rows.{ArePartsJoined, bound, ones, pairs_of_places, pairs_from, pairs_in, part_of, places_of, random_set, random_sets, rows}
use Rattle.lin_tool.specs.declared.campaign.rows.Rows.{Rows}
use Rattle.lin_tool.specs.declared.campaign.rows.RandomSets.{RandomSets}

-- ---- the first numbers
pub length-numbers : (n : ℕ) → length (numbers n) ≡ n
length-numbers zero = refl
length-numbers (suc n) = let l = length-append (numbers n) (n ∷ []) in let m = length-numbers n in omega arith

-- a number stands at its own place among the first ones
pub numbers-from : (k d : ℕ) → (zs : List ℕ) × (numbers (suc k + d) ≡ numbers k ++ k ∷ zs)
numbers-from k zero = let e : suc k + 0 ≡ suc k = omega arith in rw e ([], refl)
numbers-from k (suc d) =
    let r : (zs : List ℕ) × (numbers (suc k + d) ≡ numbers k ++ k ∷ zs) = numbers-from k d in
    let e : suc k + suc d ≡ suc (suc k + d) = omega arith in
    rw e (r.0 ++ (suc k + d) ∷ [], ap (λ (xs : List ℕ). xs ++ (suc k + d) ∷ []) r.1 ∙ append_assoc (numbers k) (k ∷ r.0) ((suc k + d) ∷ []))

pub numbers-split : (n k : ℕ) → k < n → (zs : List ℕ) × (numbers n ≡ numbers k ++ k ∷ zs)
numbers-split n k h =
    let e : n ≡ suc k + (n - suc k) = omega arith in
    let r : (zs : List ℕ) × (numbers (suc k + (n - suc k)) ≡ numbers k ++ k ∷ zs) = numbers-from k (n - suc k) in
    (r.0, ap numbers e ∙ r.1)

pub number-at : (n k d : ℕ) → k < n → get_or (numbers n) k d ≡ k
number-at n k d h =
    let r : (zs : List ℕ) × (numbers n ≡ numbers k ++ k ∷ zs) = numbers-split n k h in
    let there : get_or (numbers k ++ k ∷ r.0) (length (numbers k)) d ≡ k = get_or-append_seam (numbers k) k r.0 d in
    ap (λ (xs : List ℕ). get_or xs k d) r.1 ∙ ap (λ i. get_or (numbers k ++ k ∷ r.0) i d) (sym (length-numbers k)) ∙ there

-- ---- pairs
-- those of which the first one is before k
abbrev pub pairs_before : ℕ → ℕ → List (List ℕ)
pairs_before n k = flat_map (pairs_from n) (numbers k)

pub pairs_before-more : (n k : ℕ) → pairs_before n (suc k) ≡ pairs_before n k ++ pairs_from n k
pairs_before-more n k =
    flat_map-append (pairs_from n) (numbers k) (k ∷ []) ∙ ap (λ l. pairs_before n k ++ l) (append-nil (pairs_from n k))

pub length-pairs_from : (n i : ℕ) → length (pairs_from n i) ≡ n - (i + 1)
length-pairs_from n i = length-map (numbers (n - (i + 1))) (λ j. i ∷ (i + 1 + j) ∷ []) ∙ length-numbers (n - (i + 1))

pub length-pairs_before-more : (n k : ℕ) → length (pairs_before n (suc k)) ≡ length (pairs_before n k) + (n - (k + 1))
length-pairs_before-more n k =
    ap length (pairs_before-more n k) ∙ length-append (pairs_before n k) (pairs_from n k)
    ∙ ap (λ l. length (pairs_before n k) + l) (length-pairs_from n k)

pub length-pairs_before : (n k : ℕ) → k ≤ n → 2 * length (pairs_before n k) + k * suc k ≡ 2 * (k * n)
length-pairs_before n zero h = omega arith
length-pairs_before n (suc k) h =
    let before = length-pairs_before n k (omega arith) in
    let more = length-pairs_before-more n k in
    let square : suc k * suc (suc k) ≡ k * suc k + k + suc (suc k) = suc-mul k (suc (suc k)) ∙ ap (λ x. x + suc (suc k)) (mul-suc k (suc k)) in
    let product : suc k * n ≡ k * n + n = suc-mul k n in
    omega arith

pub length-pairs : (n : ℕ) → length (pairs_of_places n) ≡ n * (n - 1) / 2
length-pairs zero = refl
length-pairs (suc m) =
    let all = length-pairs_before (suc m) (suc m) (omega arith) in
    let square : suc m * suc (suc m) ≡ suc m * suc m + suc m = mul-suc (suc m) (suc m) in
    let less : suc m * suc m ≡ suc m * m + suc m = mul-suc (suc m) m in
    let before : suc m - 1 ≡ m = omega arith in
    let twice : suc m * m ≡ length (pairs_of_places (suc m)) * 2 = omega arith in
    let half : suc m * m / 2 ≡ length (pairs_of_places (suc m)) = div-eq_of_eq-mul_left (omega arith) twice in
    rw before (sym half)

-- where a pair stands
pub pair-at : (n k j : ℕ) → k < n → j < n - (k + 1) → get_or (pairs_of_places n) (length (pairs_before n k) + j) [] ≡ k ∷ (k + 1 + j) ∷ []
pair-at n k j h less =
    let r : (zs : List ℕ) × (numbers n ≡ numbers k ++ k ∷ zs) = numbers-split n k h in
    let rest : List (List ℕ) = flat_map (pairs_from n) r.0 in
    let split : pairs_of_places n ≡ pairs_before n k ++ (pairs_from n k ++ rest) = ap (flat_map (pairs_from n)) r.1 ∙ flat_map-append (pairs_from n) (numbers k) (k ∷ r.0) in
    let own : j < length (pairs_from n k) = omega (arith, length-pairs_from n k) in
    let few : j < length (numbers (n - (k + 1))) = omega (arith, length-numbers (n - (k + 1))) in
    let number : get_or (numbers (n - (k + 1))) j 0 ≡ j = number-at (n - (k + 1)) j 0 less in
    ap (λ (xs : List (List ℕ)). get_or xs (length (pairs_before n k) + j) []) split
    ∙ get_or-append-add (pairs_before n k) (pairs_from n k ++ rest) j []
    ∙ get_or_append_left (pairs_from n k) rest [] j own
    ∙ get_or-map (λ i. k ∷ (k + 1 + i) ∷ []) (numbers (n - (k + 1))) j 0 [] few
    ∙ ap (λ i. k ∷ (k + 1 + i) ∷ []) number

-- ---- rows
length-ones : (n : ℕ) → length (ones n) ≡ n
length-ones n = length-map (numbers n) (λ i. i ∷ []) ∙ length-numbers n

-- its random sets
abbrev pub sets_in : Rows → List (List ℕ)
sets_in t = random_sets t.random t.singles

pub length-sets : (o : Option RandomSets) (r : RandomSets) (n : ℕ) → o ≡ Some r → length (random_sets o n) ≡ r.count
length-sets o r n e = ap (λ x. length (random_sets x n)) e ∙ length-map (numbers r.count) (random_set r n) ∙ length-numbers r.count

pub count-rows : (t : Rows) → length (rows t) ≡ 1 + t.singles + length (pairs_in t) + length (sets_in t)
count-rows t =
    let all = length-append (ones t.singles) (pairs_in t ++ sets_in t) in
    let behind = length-append (pairs_in t) (sets_in t) in
    omega (arith, all, behind, length-ones t.singles)

-- where a row stands
item-beyond : (xs : List (List ℕ)) (n : ℕ) → length xs ≤ n → get_or xs n [] ≡ []
item-beyond [] n h = refl
item-beyond (x ∷ xs) zero h = absurd (omega arith)
item-beyond (x ∷ xs) (suc n) h = item-beyond xs n (omega arith)

-- there is no such row
pub row-beyond : (t : Rows) (n : ℕ) → length (rows t) ≤ n → places_of t n ≡ []
row-beyond t n h = item-beyond (rows t) n h

pub row-none : (t : Rows) → places_of t 0 ≡ []
row-none t = refl

pub row-single : (t : Rows) (i : ℕ) → i < t.singles → places_of t (suc i) ≡ i ∷ []
row-single t i h =
    let own : i < length (ones t.singles) = omega (arith, h, length-ones t.singles) in
    let few : i < length (numbers t.singles) = omega (arith, h, length-numbers t.singles) in
    get_or_append_left (ones t.singles) (pairs_in t ++ sets_in t) [] i own
    ∙ get_or-map (λ k. k ∷ []) (numbers t.singles) i 0 [] few ∙ ap (λ k. k ∷ []) (number-at t.singles i 0 h)

behind-ones : (t : Rows) (j : ℕ) → places_of t (suc (t.singles + j)) ≡ get_or (pairs_in t ++ sets_in t) j []
behind-ones t j =
    ap (λ n. get_or (ones t.singles ++ (pairs_in t ++ sets_in t)) (n + j) []) (sym (length-ones t.singles))
    ∙ get_or-append-add (ones t.singles) (pairs_in t ++ sets_in t) j []

pub row-pair : (t : Rows) (j : ℕ) → j < length (pairs_in t) → places_of t (suc (t.singles + j)) ≡ get_or (pairs_in t) j []
row-pair t j h = behind-ones t j ∙ get_or_append_left (pairs_in t) (sets_in t) [] j h

pub row-set : (t : Rows) (r : RandomSets) (k : ℕ) → t.random ≡ Some r → k < r.count → places_of t (suc (t.singles + (length (pairs_in t) + k))) ≡ random_set r t.singles k
row-set t r k e h =
    let few : k < length (numbers r.count) = omega (arith, h, length-numbers r.count) in
    behind-ones t (length (pairs_in t) + k)
    ∙ get_or-append-add (pairs_in t) (sets_in t) k []
    ∙ ap (λ o. get_or (random_sets o t.singles) k []) e
    ∙ get_or-map (random_set r t.singles) (numbers r.count) k 0 [] few ∙ ap (random_set r t.singles) (number-at r.count k 0 h)

-- the places in a row of two, and of a random set
pair-if : (b : Bool) (ps : List (List ℕ)) (j : ℕ) → j < length (if b then ps else []) → get_or (if b then ps else []) j [] ≡ get_or ps j []
pair-if true ps j h = refl
pair-if false ps j h = absurd (omega arith)

pub pair-row : (t : Rows) (j a b : ℕ) → j < length (pairs_in t) → get_or (pairs_of_places t.singles) j [] ≡ a ∷ b ∷ [] → places_of t (suc (t.singles + j)) ≡ a ∷ b ∷ []
pair-row t j a b h e = row-pair t j h ∙ pair-if t.pairs (pairs_of_places t.singles) j h ∙ e

random-by : (t : Rows) (k : ℕ) (o : Option RandomSets) → t.random ≡ o → k < length (random_sets o t.singles)
    → places_of t (suc (t.singles + (length (pairs_in t) + k))) ≡ option_map_or (λ r. random_set r t.singles k) o []
random-by t k None e h = absurd (omega arith)
random-by t k (Some r) e h = row-set t r k e (omega (arith, h, length-sets (Some r) r t.singles refl))

pub random-row : (t : Rows) (k : ℕ) → k < length (sets_in t)
    → places_of t (suc (t.singles + (length (pairs_in t) + k))) ≡ option_map_or (λ r. random_set r t.singles k) t.random []
random-row t k h = random-by t k t.random refl h

-- ---- parts
pub bound-more : (n k count : ℕ) → 1 ≤ count → bound n k count ≤ bound n (k + 1) count
bound-more n k count h =
    let below : n * k / count * count ≤ n * k = div-mul-le_self (n * k) count in
    let more : n * (k + 1) ≡ n * k + n = rw add-one (mul-suc n k) in
    le-div (n * k / count) (n * (k + 1)) count (omega arith) (omega arith)

pub bound-whole : (n count : ℕ) → 1 ≤ count → bound n count count ≡ n
bound-whole n count h = div-eq_of_eq-mul_left (omega arith) refl

pub bound-within : (n k count : ℕ) → 1 ≤ count → k ≤ count → bound n k count ≤ n
bound-within n k count h less =
    let below : n * k / count * count ≤ n * k = div-mul-le_self (n * k) count in
    let times : n * k ≤ n * count = mul-le-mul_left n less in
    le_of_mul-le-mul_right (omega (arith, below, times)) h

-- part k, counted from 0
abbrev pub nth_part : List (List ℕ) → ℕ → ℕ → List (List ℕ)
nth_part xs count k = part_of (record { number = k + 1; count = count }) xs

pub part-next : (xs : List (List ℕ)) (k count : ℕ) → 1 ≤ count
    → take (bound (length xs) k count) xs ++ nth_part xs count k ≡ take (bound (length xs) (k + 1) count) xs
part-next xs k count h =
    let from : ℕ = bound (length xs) k count in
    let to : ℕ = bound (length xs) (k + 1) count in
    let less : k + 1 - 1 ≡ k = omega arith in
    let rises : from ≤ to = bound-more (length xs) k count h in
    let sum : from + (to - from) ≡ to = omega arith in
    rw less (sym (take-add from (to - from) xs) ∙ ap (λ n. take n xs) sum)

pub parts-so-far : (xs : List (List ℕ)) (count k : ℕ) → 1 ≤ count
    → flat_map (nth_part xs count) (numbers k) ≡ take (bound (length xs) k count) xs
parts-so-far xs count zero h =
    let none : length xs * 0 ≡ 0 = omega arith in
    let zeroth : bound (length xs) 0 count ≡ 0 = ap (λ n. n / count) none ∙ zero-div count in
    rw zeroth refl
parts-so-far xs count (suc k) h =
    flat_map-append (nth_part xs count) (numbers k) (k ∷ [])
    ∙ ap (λ l. flat_map (nth_part xs count) (numbers k) ++ l) (append-nil (nth_part xs count k))
    ∙ ap (λ l. l ++ nth_part xs count k) (parts-so-far xs count k h)
    ∙ rw (sym (add-one k)) (part-next xs k count h)

pub parts-joined : ArePartsJoined
parts-joined xs count h =
    parts-so-far xs count count h ∙ ap (λ n. take n xs) (bound-whole (length xs) count h) ∙ take-length xs
