-- The digits of a value spell it again.
use Rattle.std.proofs.Common.{◌≡◌, ◌<◌, ◌+◌, ◌-◌, ◌*◌, ◌/◌, ◌%◌, ◌^◌, ℕ, zero, suc, Bool, true, false, cond, ◌&&◌, List, [], ◌∷◌, ◌++◌, map, flat_map, refl, sym, ap, ◌∙◌, arith}
use Rattle.std.specs.Prelude.{◌==◌, Some, None, length, nat_lt, replicate}
use Rattle.std.specs.Char.{is_ascii_digit}
use Rattle.std.specs.List.{list_all}
use Rattle.std.specs.Option.{option_map}
use Rattle.std.proofs.lemmas.Bool.{eqb-true}
use Rattle.std.proofs.lemmas.Bool.Decides.{nat_tests}
use Rattle.std.proofs.Math.Nat.{div-div-eq-div-mul, pow-suc}
use Rattle.lin_values.specs.Meaning.{as_digits, fours}
use Rattle.lin_values.specs.Raws.{is_plain_from, is_printable}
use Rattle.lin_values.specs.Spelled.{byte_of, bcd_after, pairs}
use Rattle.lin_values.proofs.SpelledSteps.{paired}

abbrev pub all-small : List ℕ → Bool
all-small ds = list_all (λ d. nat_lt d 10) ds

abbrev pub as-text : List ℕ → List ℕ
as-text ds = map (λ d. 48 + d) ds

pub digits-are : (ds text : List ℕ) → as_digits ds ≡ Some text → (all-small ds ≡ true) × (text ≡ as-text ds)
digits-are ds text e =
    elim (all-small ds) as (λ b. all-small ds ≡ b → cond b (Some (as-text ds)) None ≡ Some text → (all-small ds ≡ true) × (text ≡ as-text ds)) [
      | true ↦ λ s f. (s, (let same : as-text ds ≡ text = cc in sym same))
      | false ↦ λ s f. cc
    ] refl e

pub first-small : (a b : Bool) → a && b ≡ true → a ≡ true
first-small true b e = refl
first-small false b e = e

pub rest-small : (a b : Bool) → a && b ≡ true → b ≡ true
rest-small true b e = e
rest-small false b e = cc

pub is-digit : (d : ℕ) → nat_lt d 10 ≡ true → is_ascii_digit (48 + d) ≡ true
is-digit d e = grind (arith, nat_tests)

number-step : (a d : ℕ) (cs : List ℕ) → nat_lt d 10 ≡ true → bcd_after a ((48 + d) ∷ cs) ≡ bcd_after (a * 16 + d) cs
number-step a d cs e =
    let same : a * 16 + ((48 + d) - 48) ≡ a * 16 + d = omega arith in
    ap (λ t. cond t (bcd_after (a * 16 + ((48 + d) - 48)) cs) None) (is-digit d e) ∙ ap (λ n. bcd_after n cs) same

below-byte : (b : ℕ) → nat_lt b 256 ≡ true → b < 256
below-byte b e = grind (arith, nat_tests)

byte-again : (b : ℕ) → b < 256 → byte_of (48 + (b / 16 ^ 1) % 16) (48 + (b / 16 ^ 0) % 16) ≡ b
byte-again b lt = omega arith

pub pairs-again : (bs : List ℕ) → list_all (λ b. nat_lt b 256) bs ≡ true → all-small (flat_map (fours 2) bs) ≡ true → pairs (as-text (flat_map (fours 2) bs)) ≡ Some bs
pairs-again [] bytes small = refl
pairs-again (b ∷ bs) bytes small =
    let high : ℕ = (b / 16 ^ 1) % 16 in
    let low : ℕ = (b / 16 ^ 0) % 16 in
    let rest : List ℕ = flat_map (fours 2) bs in
    let lt : b < 256 = below-byte b (first-small (nat_lt b 256) (list_all (λ c. nat_lt c 256) bs) bytes) in
    let more : nat_lt low 10 && all-small rest ≡ true = rest-small (nat_lt high 10) (nat_lt low 10 && all-small rest) small in
    paired (48 + high) (48 + low) (as-text rest) (is-digit high (first-small (nat_lt high 10) (nat_lt low 10 && all-small rest) small)) (is-digit low (first-small (nat_lt low 10) (all-small rest) more))
    ∙ ap (λ x. option_map (λ cs. x ∷ cs) (pairs (as-text rest))) (byte-again b lt)
    ∙ ap (option_map (λ cs. b ∷ cs)) (pairs-again bs (rest-small (nat_lt b 256) (list_all (λ c. nat_lt c 256) bs) bytes) (rest-small (nat_lt low 10) (all-small rest) more))

digit-more : (n k : ℕ) → (n / 16 ^ suc k) * 16 + (n / 16 ^ k) % 16 ≡ n / 16 ^ k
digit-more n k =
    let e : n / 16 ^ suc k ≡ n / 16 ^ k / 16 = ap (λ m. n / m) (pow-suc 16 k) ∙ sym (div-div-eq-div-mul n (16 ^ k) 16) in
    let s : (n / 16 ^ k / 16) * 16 + (n / 16 ^ k) % 16 ≡ n / 16 ^ k = omega arith in
    ap (λ m. m * 16 + (n / 16 ^ k) % 16) e ∙ s

-- behind the digits that are above, the last ones make the number
pub number-again : (k n : ℕ) → all-small (fours k n) ≡ true → bcd_after (n / 16 ^ k) (as-text (fours k n)) ≡ Some n
number-again zero n small = let e : n / 16 ^ 0 ≡ n = omega arith in ap Some e
number-again (suc k) n small =
    let d : ℕ = (n / 16 ^ k) % 16 in
    number-step (n / 16 ^ suc k) d (as-text (fours k n)) (first-small (nat_lt d 10) (all-small (fours k n)) small)
    ∙ ap (λ m. bcd_after m (as-text (fours k n))) (digit-more n k)
    ∙ number-again k n (rest-small (nat_lt d 10) (all-small (fours k n)) small)

-- ---- characters up to zeros at the end

only-zeros : (bs : List ℕ) → is_plain_from true bs ≡ true → bs ≡ replicate (length bs) 0
only-zeros [] e = refl
only-zeros (b ∷ bs) e =
    elim (b == 0) as (λ t. (b == 0) ≡ t → cond t (is_plain_from true bs) (cond true false (is_printable b && is_plain_from false bs)) ≡ true → b ∷ bs ≡ replicate (suc (length bs)) 0) [
      | true ↦ λ z f. let zero-here : b ≡ 0 = eqb-true b 0 z in let rest : bs ≡ replicate (length bs) 0 = only-zeros bs f in cc
      | false ↦ λ z f. cc
    ] refl e

all-zeros : (b : ℕ) (bs : List ℕ) → b ≡ 0 → is_plain_from true bs ≡ true → b ∷ bs ≡ replicate (suc (length bs)) 0
all-zeros b bs z f = let rest : bs ≡ replicate (length bs) 0 = only-zeros bs f in cc

abbrev pub IsSplit : List ℕ → Type 0
IsSplit bs = (vs : List ℕ) × (z : ℕ) × (bs ≡ vs ++ replicate z 0) × (list_all is_printable vs ≡ true)

pub both-true : (a b : Bool) → a ≡ true → b ≡ true → a && b ≡ true
both-true true b e f = f
both-true false b e f = e

pub plain-split : (bs : List ℕ) → is_plain_from false bs ≡ true → IsSplit bs
plain-split [] e = ([], 0, refl, refl)
plain-split (b ∷ bs) e =
    elim (b == 0) as (λ t. (b == 0) ≡ t → cond t (is_plain_from true bs) (cond false false (is_printable b && is_plain_from false bs)) ≡ true → IsSplit (b ∷ bs)) [
      | true ↦ λ z f. ([], suc (length bs), all-zeros b bs (eqb-true b 0 z) f, refl)
      | false ↦ λ z f. (
          let rest : IsSplit bs = plain-split bs (rest-small (is_printable b) (is_plain_from false bs) f) in
          (b ∷ rest.0, rest.1, ap (λ cs. b ∷ cs) rest.2, both-true (is_printable b) (list_all is_printable rest.0) (first-small (is_printable b) (is_plain_from false bs) f) rest.3))
    ] refl e
