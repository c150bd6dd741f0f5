-- What the signals of a frame take up, with one more signal.
use Rattle.std.proofs.Common.{◌≡◌, ℕ, ◌+◌, ◌<◌, ◌≤◌, Bool, true, false, List, [], ◌∷◌, length, take, get_or, Option, Some, None, sym, ap, refl, subst, ◌∙◌, ◌⊎◌, inl, inr, arith}
use Rattle.std.specs.Prelude.{◌↔◌, ◌||◌, ◌&&◌, ◌==◌, nat_lt, IsSome}
use Rattle.std.specs.List.{list_any}
use Rattle.std.specs.Option.{option_map, option_map_or}
use Rattle.std.proofs.lemmas.Bool.{lt-ltb, cases_lt}
use Rattle.std.proofs.lemmas.Bool.Decides.{nat_tests}
use Rattle.std.proofs.lemmas.List.Folds.{list_any_more}
use Rattle.lin_cluster.specs.Described.{signal_number}
use Rattle.lin_cluster.specs.Overlaps.{overlaps_earlier, share_bit}
use Rattle.lin_cluster.specs.FindingsNames.{signal_named, same_name}
use Rattle.lin_cluster.specs.FindingsPlaces.{IsTaken, has_bit_between}
use Rattle.lin_cluster.specs.FindingsRanges.{HasBit}
use Rattle.lin_cluster.specs.Known.{signal_facts}
use Rattle.lin_cluster.specs.declared.findings.facts.SignalFacts.{SignalFacts}
use Rattle.lin_cluster.specs.declared.findings.ranges.Ranges.{Ranges}
use Rattle.lin_cluster.proofs.KnownNames.{same-number}
use Rattle.lin_cluster.proofs.Made.{some-made}
use Rattle.lin_cluster.proofs.NamesFound.{found-within}
use Rattle.lin_parts.specs.declared.description.Description.{Description}
use Rattle.lin_parts.specs.declared.description.PlacedSignal.{PlacedSignal}

either : (a b : Bool) → (a || b) ≡ true → (a ≡ true) ⊎ (b ≡ true)
either true b h = inl refl
either false b h = inr h

first_of_two : (a b : Bool) → a ≡ true → (a || b) ≡ true
first_of_two true b h = refl
first_of_two false b h = absurd (cc)

second_of_two : (a b : Bool) → b ≡ true → (a || b) ≡ true
second_of_two true b h = refl
second_of_two false b h = h

four : (a b c d : Bool) → ((a || b) || (c || d)) ≡ ((a || c) || (b || d))
four true b c d = refl
four false true true d = refl
four false true false d = refl
four false false true d = refl
four false false false d = refl

any_either : {A : Type 0} (f g : A → Bool) (xs : List A) → list_any (λ x. f x || g x) xs ≡ (list_any f xs || list_any g xs)
any_either f g [] = refl
any_either f g (x ∷ xs) = ap (λ b. (f x || g x) || b) (any_either f g xs) ∙ four (f x) (g x) (list_any f xs) (list_any g xs)

unknown_no : {A : Type 0} (o : Option A) → option_map_or (λ x. false) o false ≡ false
unknown_no (Some x) = refl
unknown_no None = refl

any_no : {A B : Type 0} (o : A → Option B) (xs : List A) → list_any (λ x. option_map_or (λ y. false) (o x) false) xs ≡ false
any_no o [] = refl
any_no o (x ∷ xs) = ap (λ b. b || list_any (λ z. option_map_or (λ y. false) (o z) false) xs) (unknown_no (o x)) ∙ any_no o xs

no_bits : (m : ℕ) → m ≤ 0 → nat_lt 0 m ≡ false
no_bits m h = grind (arith, nat_tests)

abbrev Shares : Description → ℕ → ℕ → List PlacedSignal → Bool → Bool
Shares d a m xs b = list_any (λ (q : PlacedSignal). option_map_or (λ t. b && nat_lt 0 t.size.value && nat_lt a (q.offset.value + t.size.value) && nat_lt q.offset.value (a + m)) (signal_named d q.signal) false) xs

bits_taken : (d : Description) (ranges : Ranges) (a m : ℕ) (xs : List PlacedSignal) → ((b e : ℕ) → b < e → HasBit ranges b e ↔ (list_any (λ q. option_map_or (λ t. has_bit_between b e q t.size.value) (signal_named d q.signal) false) xs ≡ true))
    → (list_any (λ q. option_map_or (λ t. share_bit a m q.offset.value t.size.value) (signal_named d q.signal) false) xs ≡ true) ↔ ((0 < m) × HasBit ranges a (a + m))
bits_taken d ranges a m xs so =
    elim (cases_lt 0 m) as (λ _. (list_any (λ q. option_map_or (λ t. share_bit a m q.offset.value t.size.value) (signal_named d q.signal) false) xs ≡ true) ↔ ((0 < m) × HasBit ranges a (a + m))) [
      | inl some ↦
          let e = ap (Shares d a m xs) (lt-ltb 0 m some) in
          let here = so a (a + m) (omega arith) in
          (λ h. (some, here.1 (sym e ∙ h)), λ met. e ∙ here.0 met.1)
      | inr none ↦
          let e = ap (Shares d a m xs) (no_bits m none) ∙ any_no (λ (q : PlacedSignal). signal_named d q.signal) xs in
          (λ h. absurd (let no : true ≡ false = sym h ∙ e in cc), λ met. absurd (let low : 0 < m = met.0 in omega arith))
    ]

pub taken : (d : Description) (ranges : Ranges) (xs : List PlacedSignal) (p : PlacedSignal) (size : ℕ) (twice : Bool) → signal_number d p.signal < length d.signals
    → twice ≡ list_any (λ q. signal_number d q.signal == signal_number d p.signal) xs
    → ((b e : ℕ) → b < e → HasBit ranges b e ↔ (list_any (λ q. option_map_or (λ t. has_bit_between b e q t.size.value) (signal_named d q.signal) false) xs ≡ true))
    → (list_any (overlaps_earlier d p size) xs ≡ true) ↔ IsTaken twice ranges p size
taken d ranges xs p size twice lt numbered so =
    let f : PlacedSignal → Bool = λ q. same_name q.signal p.signal in
    let g : PlacedSignal → Bool = λ q. option_map_or (λ t. share_bit p.offset.value size q.offset.value t.size.value) (signal_named d q.signal) false in
    let e : list_any (overlaps_earlier d p size) xs ≡ (list_any f xs || list_any g xs) = any_either f g xs in
    let named : list_any f xs ≡ twice = (λ i. list_any (λ q. same-number d p q lt i) xs) ∙ sym numbered in
    let bits = bits_taken d ranges p.offset.value size xs so in (
      λ h. elim (either (list_any f xs) (list_any g xs) (sym e ∙ h)) as (λ _. IsTaken twice ranges p size) [
        | inl name ↦ inl (sym named ∙ name)
        | inr bit ↦ inr (bits.0 bit)
      ],
      λ h. e ∙ elim h as (λ _. (list_any f xs || list_any g xs) ≡ true) [
        | inl again ↦ first_of_two (list_any f xs) (list_any g xs) (named ∙ again)
        | inr met ↦ second_of_two (list_any f xs) (list_any g xs) (bits.1 met)
      ],
    )

-- a signal of which something is known is found
pub placed_found : (d : Description) (p : PlacedSignal) (signal : Option SignalFacts) → signal ≡ option_map (signal_facts d) (signal_named d p.signal) → IsSome signal → signal_number d p.signal < length d.signals
placed_found d p signal here some =
    found-within (λ s. same_name s.name p.signal) d.signals (some-made (signal_facts d) (signal_named d p.signal) (subst (λ o. IsSome o) here some))

pub more_bits : {A : Type 0} (old new : Type 0) (p : A → Bool) (xs : List A) (i : ℕ) (d : A) → i < length xs → get_or xs i d ≡ d → (old ↔ (list_any p (take i xs) ≡ true)) → (new ↔ (old ⊎ (p d ≡ true))) → new ↔ (list_any p (take (i + 1) xs) ≡ true)
more_bits old new p xs i d lt is so here =
    let e : list_any p (take (i + 1) xs) ≡ (list_any p (take i xs) || p d) = list_any_more p xs i d lt ∙ ap (λ x. list_any p (take i xs) || p x) is in (
      λ h. e ∙ elim (here.0 h) as (λ _. (list_any p (take i xs) || p d) ≡ true) [
        | inl past ↦ first_of_two (list_any p (take i xs)) (p d) (so.0 past)
        | inr now ↦ second_of_two (list_any p (take i xs)) (p d) now
      ],
      λ h. elim (either (list_any p (take i xs)) (p d) (sym e ∙ h)) as (λ _. new) [
        | inl past ↦ here.1 (inl (so.1 past))
        | inr now ↦ here.1 (inr now)
      ],
    )

once : (twice : Bool) → twice ≡ false → twice ≡ true → ⊥
once twice new again = absurd (let e : false ≡ true = sym new ∙ again in cc)

pub taken_by_bits : (twice : Bool) (ranges : Ranges) (p : PlacedSignal) (bits start size : ℕ) (b : Bool) → twice ≡ false → start ≡ p.offset.value → size ≡ bits → 0 < size
    → ((b ≡ true) ↔ HasBit ranges start (start + size)) → (b ≡ true) ↔ IsTaken twice ranges p bits
taken_by_bits twice ranges p bits start size b new at wide some met =
    let there = subst (λ (xy : ℕ × ℕ). HasBit ranges xy.0 (xy.0 + xy.1)) (λ i. (at i, wide i)) in
    let back = subst (λ (xy : ℕ × ℕ). HasBit ranges xy.0 (xy.0 + xy.1)) (λ i. (sym at i, sym wide i)) in (
      λ e. inr (subst (λ n. 0 < n) wide some, there (met.0 e)),
      λ t. elim t as (λ _. b ≡ true) [
        | inl again ↦ absurd (once twice new again)
        | inr here ↦ met.1 (back here.1)
      ],
    )

pub taken_by_none : (twice : Bool) (ranges : Ranges) (p : PlacedSignal) (bits size : ℕ) → twice ≡ false → size ≡ bits → size ≤ 0 → (nat_lt 0 size ≡ true) ↔ IsTaken twice ranges p bits
taken_by_none twice ranges p bits size new wide none = (
  λ e. absurd (let never : true ≡ false = sym e ∙ no_bits size none in cc),
  λ t. elim t as (λ _. nat_lt 0 size ≡ true) [
    | inl again ↦ absurd (once twice new again)
    | inr here ↦ absurd (let some : 0 < bits = here.0 in omega arith)
  ],
)

lies_from : (m o a b : ℕ) → 0 < m → o < b → a < o + m → (nat_lt 0 m && nat_lt a (o + m) && nat_lt o b) ≡ true
lies_from m o a b some low high = grind (arith, nat_tests)

lies_low : (m o a b : ℕ) → (nat_lt 0 m && nat_lt a (o + m) && nat_lt o b) ≡ true → o < b
lies_low m o a b h = grind (arith, nat_tests)

lies_high : (m o a b : ℕ) → (nat_lt 0 m && nat_lt a (o + m) && nat_lt o b) ≡ true → a < o + m
lies_high m o a b h = grind (arith, nat_tests)

pub added_bits : (p : PlacedSignal) (bits start size a b : ℕ) (old new : Type 0) → start ≡ p.offset.value → size ≡ bits → 0 < bits
    → (new ↔ (old ⊎ ((start < b) × (a < start + size)))) → new ↔ (old ⊎ (has_bit_between a b p bits ≡ true))
added_bits p bits start size a b old new at wide some same =
    let o : ℕ = p.offset.value in (
      λ h. elim (same.0 h) as (λ _. old ⊎ (has_bit_between a b p bits ≡ true)) [
        | inl past ↦ inl past
        | inr now ↦ inr (lies_from bits o a b some (subst (λ x. x < b) at now.0) (subst (λ (xy : ℕ × ℕ). a < xy.0 + xy.1) (λ i. (at i, wide i)) now.1))
      ],
      λ h. same.1 (elim h as (λ _. old ⊎ ((start < b) × (a < start + size))) [
        | inl past ↦ inl past
        | inr now ↦ inr (subst (λ x. x < b) (sym at) (lies_low bits o a b now), subst (λ (xy : ℕ × ℕ). a < xy.0 + xy.1) (λ i. (sym at i, sym wide i)) (lies_high bits o a b now))
      ]),
    )
