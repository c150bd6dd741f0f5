-- The first of so many numbers that passes a test, as a loop finds it; and the address of the node with a name.
use Rattle.std.proofs.Common.{◌≡◌, ◌∙◌, ℕ, zero, suc, ◌+◌, ◌≤◌, ◌<◌, Bool, true, false, List, [], ◌∷◌, Option, Some, None, refl, sym, ap, add-one, arith, inl, inr}
use Rattle.std.specs.Prelude.{find, option_and_then}
use Rattle.std.specs.Option.{option_or}
use Rattle.std.specs.Str.{bytes_eq}
use Rattle.std.proofs.lemmas.Bool.{cases_lt, lt-ltb}
use Rattle.std.proofs.lemmas.List.Folds.{find-append}
use Rattle.lin_frame.specs.Words.{numbers}
use Rattle.lin_parts.specs.Cluster.{nad, node_of, nodes}
use Rattle.lin_parts.specs.declared.parts.Parts.{Parts}
use Rattle.lin_sections.specs.Requests.{address_of, is_responder_named}

-- ---- numbers

numbers-none : (p : ℕ → Bool) (n : ℕ) → find p (numbers n) ≡ None → find p (numbers (suc n)) ≡ find p (n ∷ [])
numbers-none p n none = find-append p (numbers n) (n ∷ []) ∙ ap (λ (o : Option ℕ). option_or o (find p (n ∷ []))) none

numbers-some : (p : ℕ → Bool) (n i : ℕ) → find p (numbers n) ≡ Some i → find p (numbers (suc n)) ≡ Some i
numbers-some p n i found = find-append p (numbers n) (n ∷ []) ∙ ap (λ (o : Option ℕ). option_or o (find p (n ∷ []))) found

pub first-number : (p : ℕ → Bool) (n i : ℕ) → i < n → find p (numbers i) ≡ None → p i ≡ true → find p (numbers n) ≡ Some i
first-number p zero i h none is = absurd (omega arith)
first-number p (suc n) i h none is =
    elim (cases_lt i n) [
      | inl lt ↦ numbers-some p n i (first-number p n i lt none is)
      | inr ge ↦
          let same : i ≡ n = omega arith in
          numbers-none p n (ap (λ k. find p (numbers k)) (sym same) ∙ none) ∙ ap (λ k. find p (k ∷ [])) (sym same) ∙ rw is refl
    ]

pub one-number-less : (p : ℕ → Bool) (i : ℕ) → find p (numbers i) ≡ None → p i ≡ false → find p (numbers (i + 1)) ≡ None
one-number-less p i none isnt = ap (λ k. find p (numbers k)) (add-one i) ∙ numbers-none p i none ∙ rw isnt refl

some-or : {X : Type 0} (o q : Option X) → option_or o q ≡ None → o ≡ None
some-or None q e = refl
some-or (Some x) q e = absurd cc

pub no-number : (p : ℕ → Bool) (n i : ℕ) → n ≤ i → find p (numbers i) ≡ None → find p (numbers n) ≡ None
no-number p n zero h none = let same : n ≡ zero = omega arith in ap (λ k. find p (numbers k)) same ∙ none
no-number p n (suc i) h none =
    elim (cases_lt i n) [
      | inl lt ↦ let same : n ≡ suc i = omega arith in ap (λ k. find p (numbers k)) same ∙ none
      | inr ge ↦ no-number p n i ge (some-or (find p (numbers i)) (find p (i ∷ [])) (sym (find-append p (numbers i) (i ∷ [])) ∙ none))
    ]

-- ---- the address of the node with a name

named : (c : Parts) (name : List ℕ) (n : ℕ) (b : Bool) → 1 ≤ n → bytes_eq (node_of c n).name name ≡ b → is_responder_named c name n ≡ b
named c name n b h e = rw (lt-ltb 0 n h) e

pub address-found : (c : Parts) (name : List ℕ) (n : ℕ) (own : Option ℕ) → 1 ≤ n → n < nodes c → bytes_eq (node_of c n).name name ≡ true → find (is_responder_named c name) (numbers n) ≡ None → own ≡ nad c n → own ≡ address_of c name
address-found c name n own some less is none here =
    here ∙ sym (ap (option_and_then (nad c)) (first-number (is_responder_named c name) (nodes c) n less none (named c name n true some is)))

pub not-named : (c : Parts) (name : List ℕ) (n : ℕ) → 1 ≤ n → bytes_eq (node_of c n).name name ≡ false → find (is_responder_named c name) (numbers n) ≡ None → find (is_responder_named c name) (numbers (n + 1)) ≡ None
not-named c name n some isnt none = one-number-less (is_responder_named c name) n none (named c name n false some isnt)

pub no-address : (c : Parts) (name : List ℕ) (n : ℕ) → nodes c ≤ n → find (is_responder_named c name) (numbers n) ≡ None → None ≡ address_of c name
no-address c name n all none = sym (ap (option_and_then (nad c)) (no-number (is_responder_named c name) (nodes c) n all none))
