-- What the number of a name is the number of.
use Rattle.std.proofs.Common.{◌≡◌, ◌<◌, ◌≤◌, ◌+◌, ℕ, zero, suc, Bool, true, false, cond, not, ◌||◌, List, [], ◌∷◌, map, ◌++◌, length, get_or, take, refl, sym, subst, ap, ◌∙◌, arith, one-add, length-take}
use Rattle.std.specs.Prelude.{Option, Some, None, find, is_some, nat_lt, slice_get}
use Rattle.std.specs.List.{list_any, position_or_len, position_from}
use Rattle.std.specs.Option.{option_copied, option_map, option_or}
use Rattle.std.specs.Slice.{IsItemAt}
use Rattle.std.proofs.lemmas.Option.{slice_get_past}
use denote.Ref.{Bor}
use Rattle.std.specs.Str.{bytes_eq}
use Rattle.std.proofs.lemmas.Bool.{ltb-false}
use Rattle.std.proofs.lemmas.Iterator.Adapters.{position_from-zero}
use Rattle.std.proofs.lemmas.List.{take_more}
use Rattle.std.proofs.lemmas.List.Sums.{passes_at_first, prefix_len-le-length}
use Rattle.std.proofs.lemmas.Slice.Eq.{bytes_eq-Decides}

pub same-text : (a b : List ℕ) → bytes_eq a b ≡ true → a ≡ b
same-text a b e = (bytes_eq-Decides a b).0 e

pub text-same : (a b : List ℕ) → a ≡ b → bytes_eq a b ≡ true
text-same a b e = (bytes_eq-Decides a b).1 e

-- the number of the first item with a text
abbrev pub number_by : {X : Type 0} → (X → List ℕ) → List X → List ℕ → ℕ
number_by name xs t = position_or_len (λ x. bytes_eq (name x) t) xs

pub has-text : {X : Type 0} (name : X → List ℕ) (xs : List X) (t : List ℕ) (d : X) → number_by name xs t < length xs → name (get_or xs (number_by name xs t) d) ≡ t
has-text name xs t d lt = same-text (name (get_or xs (number_by name xs t) d)) t (passes_at_first (λ x. bytes_eq (name x) t) xs d lt)

-- one number is that of one text
pub one-text : {X : Type 0} (name : X → List ℕ) (xs : List X) (a b : List ℕ) → number_by name xs a < length xs → number_by name xs a ≡ number_by name xs b → a ≡ b
one-text name [] a b lt same = absurd (omega arith)
one-text name (x ∷ xs) a b lt same =
    let there : number_by name (x ∷ xs) b < length (x ∷ xs) = subst (λ n. n < length (x ∷ xs)) same lt
    in sym (has-text name (x ∷ xs) a x lt) ∙ (ap (λ k. name (get_or (x ∷ xs) k x)) same ∙ has-text name (x ∷ xs) b x there)

pub found-within : {X : Type 0} (p : X → Bool) (xs : List X) → is_some (find p xs) ≡ true → position_or_len p xs < length xs
found-within p [] e = absurd (cc)
found-within p (x ∷ xs) e =
    elim (p x) as (λ b. is_some (cond b (Some x) (find p xs)) ≡ true → cond (not b) (1 + position_or_len p xs) 0 < suc (length xs)) [
      | true ↦ λ _. omega arith
      | false ↦ λ h. let rest = found-within p xs h in omega (arith, rest)
    ] e

pub any-within : {X : Type 0} (p : X → Bool) (xs : List X) → list_any p xs ≡ true → position_or_len p xs < length xs
any-within p [] e = absurd (cc)
any-within p (x ∷ xs) e =
    elim (p x) as (λ b. (b || list_any p xs) ≡ true → cond (not b) (1 + position_or_len p xs) 0 < suc (length xs)) [
      | true ↦ λ _. omega arith
      | false ↦ λ h. let rest = any-within p xs h in omega (arith, rest)
    ] e

pub within-any : {X : Type 0} (p : X → Bool) (xs : List X) → position_or_len p xs < length xs → list_any p xs ≡ true
within-any p [] lt = absurd (omega arith)
within-any p (x ∷ xs) lt =
    elim (p x) as (λ b. cond (not b) (1 + position_or_len p xs) 0 < suc (length xs) → (b || list_any p xs) ≡ true) [
      | true ↦ λ _. refl
      | false ↦ λ h. within-any p xs (omega arith)
    ] lt

pub past-any : {X : Type 0} (p : X → Bool) (xs : List X) → length xs ≤ position_or_len p xs → list_any p xs ≡ false
past-any p [] le = refl
past-any p (x ∷ xs) le =
    elim (p x) as (λ b. suc (length xs) ≤ cond (not b) (1 + position_or_len p xs) 0 → (b || list_any p xs) ≡ false) [
      | true ↦ λ h. absurd (omega arith)
      | false ↦ λ h. past-any p xs (omega arith)
    ] le

pub found-at : {X : Type 0} (p : X → Bool) (xs : List X) (d : X) → position_or_len p xs < length xs → find p xs ≡ Some (get_or xs (position_or_len p xs) d)
found-at p [] d lt = absurd (omega arith)
found-at p (x ∷ xs) d lt =
    elim (p x) as (λ b. cond (not b) (1 + position_or_len p xs) 0 < suc (length xs) → cond b (Some x) (find p xs) ≡ Some (get_or (x ∷ xs) (cond (not b) (1 + position_or_len p xs) 0) d)) [
      | true ↦ λ _. refl
      | false ↦ λ h. rw one-add (found-at p xs d (omega arith))
    ] lt

pub found-past : {X : Type 0} (p : X → Bool) (xs : List X) → length xs ≤ position_or_len p xs → is_some (find p xs) ≡ false
found-past p [] le = refl
found-past p (x ∷ xs) le =
    elim (p x) as (λ b. suc (length xs) ≤ cond (not b) (1 + position_or_len p xs) 0 → is_some (cond b (Some x) (find p xs)) ≡ false) [
      | true ↦ λ h. absurd (omega arith)
      | false ↦ λ h. found-past p xs (omega arith)
    ] le

-- ---- numbers that are found as they are given, item by item

from-more : {X : Type 0} (p : X → Bool) (k : ℕ) (xs : List X) (x : X) → position_from p k (xs ++ x ∷ []) ≡ option_or (position_from p k xs) (cond (p x) (Some (k + length xs)) None)
from-more p k [] x = ap (λ n. cond (p x) (Some n) None) (omega arith)
from-more p k (y ∷ xs) x =
    elim (p y) as (λ b. cond b (Some k) (position_from p (k + 1) (xs ++ x ∷ [])) ≡ option_or (cond b (Some k) (position_from p (k + 1) xs)) (cond (p x) (Some (k + suc (length xs))) None)) [
      | true ↦ refl
      | false ↦ from-more p (k + 1) xs x ∙ ap (λ n. option_or (position_from p (k + 1) xs) (cond (p x) (Some n) None)) (omega arith)
    ]

-- with one more item
pub numbered_more : {X : Type 0} (p : X → Bool) (xs : List X) (i : ℕ) (x : X) (b : Bool) (old new : Option ℕ) → i < length xs → x ≡ get_or xs i x → b ≡ p x → old ≡ position_from p 0 (take i xs) → new ≡ option_or old (cond b (Some i) None) → new ≡ position_from p 0 (take (i + 1) xs)
numbered_more p xs i x b old new lt is passes so here =
    let count : 0 + length (take i xs) ≡ i = omega (arith, length-take i xs)
    in here ∙ ap (λ o. option_or o (cond b (Some i) None)) so ∙ ap (λ t. option_or (position_from p 0 (take i xs)) (cond t (Some i) None)) (passes ∙ ap p is)
    ∙ ap (λ n. option_or (position_from p 0 (take i xs)) (cond (p (get_or xs i x)) (Some n) None)) (sym count)
    ∙ sym (from-more p 0 (take i xs) (get_or xs i x)) ∙ ap (position_from p 0) (sym (take_more xs i x lt))

some-number : (b : Bool) (n k : ℕ) → Some k ≡ cond b (Some n) None → k ≡ n
some-number true n k e = cc
some-number false n k e = absurd (cc)

-- the number that is found
pub number_found : {X : Type 0} (p : X → Bool) (xs : List X) (k : ℕ) → Some k ≡ position_from p 0 xs → k ≡ position_or_len p xs
number_found p xs k e = some-number (nat_lt (position_or_len p xs) (length xs)) (position_or_len p xs) k (e ∙ sym (position_from-zero p xs))

not-below : (b : Bool) (n : ℕ) → None ≡ cond b (Some n) None → b ≡ false
not-below true n e = absurd (cc)
not-below false n e = refl

no-number : (n l : ℕ) → n ≤ l → None ≡ cond (nat_lt n l) (Some n) None → l ≡ n
no-number n l le e =
    let past : l ≤ n = ltb-false n l (not-below (nat_lt n l) n e)
    in omega arith

-- and where none is found
pub none_numbered : {X : Type 0} (p : X → Bool) (xs : List X) → None ≡ position_from p 0 xs → length xs ≡ position_or_len p xs
none_numbered p xs e = no-number (position_or_len p xs) (length xs) (prefix_len-le-length _ xs) (e ∙ sym (position_from-zero p xs))

at-place : {X : Type 0} (xs : List X) (i : ℕ) (d : X) → i < length xs → slice_get xs i ≡ Some (get_or xs i d)
at-place [] i d lt = absurd (omega arith)
at-place (x ∷ xs) zero d lt = refl
at-place (x ∷ xs) (suc i) d lt = at-place xs i d (omega arith)

-- the item that is lent
pub lent-at : {X : Type 0} (xs : List X) (i : ℕ) (o : Option (Bor X)) → IsItemAt xs i o → option_copied o ≡ slice_get xs i
lent-at xs i (Some x) is = ap Some is.1 ∙ sym (at-place xs i x.now is.3.0)
lent-at xs i None is = sym (slice_get_past xs i is.3)

-- what is made of the item with a number, from the list of what is made of each
made-at : {X V : Type 0} (f : X → V) (p : X → Bool) (xs : List X) → slice_get (map f xs) (position_or_len p xs) ≡ option_map f (find p xs)
made-at f p [] = refl
made-at f p (x ∷ xs) =
    elim (p x) as (λ b. slice_get (f x ∷ map f xs) (cond (not b) (1 + position_or_len p xs) 0) ≡ option_map f (cond b (Some x) (find p xs))) [
      | true ↦ refl
      | false ↦ rw one-add (made-at f p xs)
    ]

pub made_of : {X V : Type 0} (f : X → V) (p : X → Bool) (xs : List X) (n : ℕ) (lent made : List V) → lent ≡ made → made ≡ map f xs → n ≡ position_or_len p xs → slice_get lent n ≡ option_map f (find p xs)
made_of f p xs n lent made is all here = (λ i. slice_get ((is ∙ all) i) (here i)) ∙ made-at f p xs
