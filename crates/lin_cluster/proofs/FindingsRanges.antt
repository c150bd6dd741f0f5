-- Ranges of bits, when one more is merged into them.
use Rattle.std.proofs.Common.{◌≡◌, ℕ, ◌<◌, ◌≤◌, Bool, true, false, cond, Option, Some, None, sym, ap, refl, subst, ◌∙◌, ◌⊎◌, inl, inr, arith}
use Rattle.std.specs.Prelude.{◌↔◌, min, max}
use Rattle.std.specs.BTreeMap.{BTreeMap, get}
use Rattle.std.specs.Option.{option_map_or}
use Rattle.std.specs.Ordering.{nat_cmp, is_eq}
use Rattle.std.specs.declared.cmp.Ordering.TheVariants.{Less}
use Rattle.std.proofs.Math.Nat.{min-eq_left, min-eq_right, max-eq_left, max-eq_right}
use Rattle.std.proofs.lemmas.Bool.{cases_lt, cases_order}
use Rattle.std.proofs.lemmas.Bool.Decides.{nat_tests}
use Rattle.lin_cluster.specs.FindingsRanges.{Meets, AreApart, Covers, IsNoneBelow, IsLastBelow}

same_end : (e f : ℕ) → Some e ≡ Some f → e ≡ f
same_end e f h = ap (λ (o : Option ℕ). option_map_or (λ n. n) o 0) h

pub less_from_below : (a b : ℕ) → a < b → nat_cmp a b ≡ Less
less_from_below a b h = grind (arith, nat_tests)

pub below_from_less : (a b : ℕ) → nat_cmp a b ≡ Less → a < b
below_from_less a b h = grind (arith, nat_tests)

pub none_met : (m : BTreeMap ℕ ℕ) (a b : ℕ) → IsNoneBelow m b → Meets m a b → ⊥
none_met m a b none (k, e, is, low, high) = let far : b ≤ k = none k e is in absurd (omega arith)

-- where the last range that begins below the end ends before the start, no range has a bit between
pub last_unmet : (m : BTreeMap ℕ ℕ) (a b : ℕ) (r : ℕ × ℕ) → AreApart m → IsLastBelow m b r → r.1 ≤ a → Meets m a b → ⊥
last_unmet m a b r apart last over (k, e, is, low, high) =
    let full : r.0 < r.1 = apart.some r.0 r.1 last.0 in
    let up : k ≤ r.0 = last.2 k e is low in
    elim (cases_lt k r.0) as (λ _. ⊥) [
      | inl lt ↦ let far : e ≤ r.0 = apart.apart k r.0 e r.1 is last.0 lt in absurd (omega arith)
      | inr le ↦
          let same : k ≡ r.0 = omega arith in
          let end : e ≡ r.1 = same_end e r.1 (sym is ∙ ap (get nat_cmp m) same ∙ last.0) in
          absurd (omega arith)
    ]

-- ---- one range is taken out

kept_by : (b : Bool) (e : ℕ) (here new : Option ℕ) → new ≡ cond b None here → new ≡ Some e → here ≡ Some e
kept_by true e here new is h = absurd (let none : None ≡ Some e = sym is ∙ h in cc)
kept_by false e here new is h = sym is ∙ h

abbrev Without : BTreeMap ℕ ℕ → BTreeMap ℕ ℕ → ℕ → Type 0
Without m n o = (q : ℕ) → get nat_cmp n q ≡ cond (is_eq (nat_cmp o q)) None (get nat_cmp m q)

pub kept : (m n : BTreeMap ℕ ℕ) (o : ℕ) → Without m n o → (q e : ℕ) → get nat_cmp n q ≡ Some e → get nat_cmp m q ≡ Some e
kept m n o without q e h = kept_by (is_eq (nat_cmp o q)) e (get nat_cmp m q) (get nat_cmp n q) (without q) h

pub apart_without : (m n : BTreeMap ℕ ℕ) (o : ℕ) → Without m n o → AreApart m → AreApart n
apart_without m n o without apart = record {
  some = λ k e is. apart.some k e (kept m n o without k e is);
  apart = λ j k e f one two lt. apart.apart j k e f (kept m n o without j e one) (kept m n o without k f two) lt;
}

other_key : (o q : ℕ) → o < q → is_eq (nat_cmp o q) ≡ false
other_key o q h = grind (arith, nat_tests)

key_other : (o q : ℕ) → q < o → is_eq (nat_cmp o q) ≡ false
key_other o q h = grind (arith, nat_tests)

same_key : (o q : ℕ) → o ≡ q → is_eq (nat_cmp o q) ≡ true
same_key o q h = grind (arith, nat_tests)

left_in : (m n : BTreeMap ℕ ℕ) (o q e : ℕ) → Without m n o → is_eq (nat_cmp o q) ≡ false → get nat_cmp m q ≡ Some e → get nat_cmp n q ≡ Some e
left_in m n o q e without apart is = without q ∙ ap (λ b. cond b None (get nat_cmp m q)) apart ∙ is

-- taken out, and merged into a range with which it has a bit in common
pub merged_less : (m n : BTreeMap ℕ ℕ) (o l s e s' e' a b : ℕ) → Without m n o → get nat_cmp m o ≡ Some l → o < e → s < l → s' ≤ s → s' ≤ o → e ≤ e' → l ≤ e' → Covers m s e a b → Covers n s' e' a b
merged_less m n o l s e s' e' a b without is oe sl ss so ee le (inr h) = inr (omega arith, omega arith)
merged_less m n o l s e s' e' a b without is oe sl ss so ee le (inl (k, f, at, low, high)) =
    elim (cases_order o k) as (λ _. Covers n s' e' a b) [
      | inl same ↦
          let end : f ≡ l = same_end f l (sym at ∙ ap (get nat_cmp m) (sym same) ∙ is) in
          inr (omega arith, omega arith)
      | inr differ ↦ elim differ as (λ _. Covers n s' e' a b) [
        | inl lt ↦ inl (k, f, left_in m n o k f without (other_key o k lt) at, low, high)
        | inr lt ↦ inl (k, f, left_in m n o k f without (key_other o k lt) at, low, high)
      ]
    ]

pub merged_more : (m n : BTreeMap ℕ ℕ) (o l s e s' e' a b : ℕ) → Without m n o → get nat_cmp m o ≡ Some l → o < e → s < l → (s' ≡ s) ⊎ (s' ≡ o) → (e' ≡ e) ⊎ (e' ≡ l) → a < b → Covers n s' e' a b → Covers m s e a b
merged_more m n o l s e s' e' a b without is oe sl from to ab (inl (k, f, at, low, high)) = inl (k, f, kept m n o without k f at, low, high)
merged_more m n o l s e s' e' a b without is oe sl from to ab (inr h) =
    elim (cases_lt o b) as (λ _. Covers m s e a b) [
      | inl ob ↦ elim (cases_lt a l) as (λ _. Covers m s e a b) [
        | inl al ↦ inl (o, l, is, ob, al)
        | inr la ↦ inr (elim from as (λ _. s < b) [ inl p ↦ omega arith | inr p ↦ omega arith ], elim to as (λ _. a < e) [ inl p ↦ omega arith | inr p ↦ absurd (omega arith) ])
      ]
      | inr bo ↦ inr (elim from as (λ _. s < b) [ inl p ↦ omega arith | inr p ↦ absurd (omega arith) ], omega arith)
    ]

-- ---- one range is put in

put_by : (c : Bool) (f e : ℕ) (here new : Option ℕ) → new ≡ cond c (Some f) here → new ≡ Some e → ((c ≡ true) × (e ≡ f)) ⊎ (here ≡ Some e)
put_by true f e here new is h = inl (refl, same_end e f (sym h ∙ is))
put_by false f e here new is h = inr (sym is ∙ h)

abbrev With : BTreeMap ℕ ℕ → BTreeMap ℕ ℕ → ℕ → ℕ → Type 0
With m n s e = (q : ℕ) → get nat_cmp n q ≡ cond (is_eq (nat_cmp s q)) (Some e) (get nat_cmp m q)

is_key : (s q : ℕ) → is_eq (nat_cmp s q) ≡ true → s ≡ q
is_key s q h = grind (arith, nat_tests)

put : (m n : BTreeMap ℕ ℕ) (s e : ℕ) → With m n s e → (q f : ℕ) → get nat_cmp n q ≡ Some f → ((s ≡ q) × (f ≡ e)) ⊎ (get nat_cmp m q ≡ Some f)
put m n s e more q f is =
    elim (put_by (is_eq (nat_cmp s q)) e f (get nat_cmp m q) (get nat_cmp n q) (more q) is) as (λ _. ((s ≡ q) × (f ≡ e)) ⊎ (get nat_cmp m q ≡ Some f)) [
      | inl new ↦ inl (is_key s q new.0, new.1)
      | inr old ↦ inr old
    ]

pub apart_with : (m n : BTreeMap ℕ ℕ) (s e : ℕ) → With m n s e → s < e → (Meets m s e → ⊥) → AreApart m → AreApart n
apart_with m n s e more full free apart = record {
  some = λ k f is. elim (put m n s e more k f is) as (λ _. k < f) [
    | inl new ↦ omega arith
    | inr old ↦ apart.some k f old
  ];
  apart = λ j k f g one two lt. elim (put m n s e more j f one) as (λ _. f ≤ k) [
    | inl new ↦ elim (put m n s e more k g two) as (λ _. f ≤ k) [
      | inl also ↦ absurd (omega arith)
      | inr old ↦ elim (cases_lt k e) as (λ _. f ≤ k) [
        | inl low ↦ let high : k < g = apart.some k g old in absurd (free (k, g, old, low, omega arith))
        | inr le ↦ omega arith
      ]
    ]
    | inr past ↦ elim (put m n s e more k g two) as (λ _. f ≤ k) [
      | inl new ↦ elim (cases_lt s f) as (λ _. f ≤ k) [
        | inl high ↦ absurd (free (j, f, past, omega arith, high))
        | inr le ↦ omega arith
      ]
      | inr old ↦ apart.apart j k f g past old lt
    ]
  ];
}

at_key : (m n : BTreeMap ℕ ℕ) (s e : ℕ) → With m n s e → get nat_cmp n s ≡ Some e
at_key m n s e more = more s ∙ ap (λ c. cond c (Some e) (get nat_cmp m s)) (same_key s s refl)

beside_key : (m n : BTreeMap ℕ ℕ) (s e k f : ℕ) → With m n s e → is_eq (nat_cmp s k) ≡ false → get nat_cmp m k ≡ Some f → get nat_cmp n k ≡ Some f
beside_key m n s e k f more apart is = more k ∙ ap (λ c. cond c (Some e) (get nat_cmp m k)) apart ∙ is

pub covered_with : (m n : BTreeMap ℕ ℕ) (s e a b : ℕ) → With m n s e → s < e → (Meets m s e → ⊥) → AreApart m → Meets n a b ↔ Covers m s e a b
covered_with m n s e a b more full free apart = (
  λ met. elim (put m n s e more met.0 met.1 met.2) as (λ _. Covers m s e a b) [
    | inl new ↦ let low : met.0 < b = met.3 in let high : a < met.1 = met.4 in inr (omega arith, omega arith)
    | inr old ↦ inl (met.0, met.1, old, met.3, met.4)
  ],
  λ covers. elim covers as (λ _. Meets n a b) [
    | inl met ↦ elim (cases_order s met.0) as (λ _. Meets n a b) [
      | inl same ↦
          let old : get nat_cmp m met.0 ≡ Some met.1 = met.2 in
          let high : met.0 < met.1 = apart.some met.0 met.1 old in
          absurd (free (met.0, met.1, old, omega arith, omega arith))
      | inr differ ↦ elim differ as (λ _. Meets n a b) [
        | inl lt ↦ (met.0, met.1, beside_key m n s e met.0 met.1 more (other_key s met.0 lt) met.2, met.3, met.4)
        | inr lt ↦ (met.0, met.1, beside_key m n s e met.0 met.1 more (key_other s met.0 lt) met.2, met.3, met.4)
      ]
    ]
    | inr here ↦ (s, e, at_key m n s e more, here.0, here.1)
  ],
)

pub min_low : (a b : ℕ) → (min a b ≤ a) × (min a b ≤ b) × ((min a b ≡ a) ⊎ (min a b ≡ b))
min_low a b = elim (cases_lt a b) as (λ _. (min a b ≤ a) × (min a b ≤ b) × ((min a b ≡ a) ⊎ (min a b ≡ b))) [
  | inl lt ↦ let e : min a b ≡ a = min-eq_left (omega arith) in (omega arith, omega arith, inl e)
  | inr le ↦ let e : min a b ≡ b = min-eq_right le in (omega arith, omega arith, inr e)
]

pub max_high : (a b : ℕ) → (a ≤ max a b) × (b ≤ max a b) × ((max a b ≡ a) ⊎ (max a b ≡ b))
max_high a b = elim (cases_lt a b) as (λ _. (a ≤ max a b) × (b ≤ max a b) × ((max a b ≡ a) ⊎ (max a b ≡ b))) [
  | inl lt ↦ let e : max a b ≡ b = max-eq_right (omega arith) in (omega arith, omega arith, inr e)
  | inr le ↦ let e : max a b ≡ a = max-eq_left le in (omega arith, omega arith, inl e)
]

pub lowest : (s o r : ℕ) → r ≡ min s o → (r ≤ s) × (r ≤ o) × ((r ≡ s) ⊎ (r ≡ o))
lowest s o r e = subst (λ x. (x ≤ s) × (x ≤ o) × ((x ≡ s) ⊎ (x ≡ o))) (sym e) (min_low s o)

pub highest : (s o r : ℕ) → r ≡ max s o → (s ≤ r) × (o ≤ r) × ((r ≡ s) ⊎ (r ≡ o))
highest s o r e = subst (λ x. (s ≤ x) × (o ≤ x) × ((x ≡ s) ⊎ (x ≡ o))) (sym e) (max_high s o)

-- ---- the newest range

-- it joins the others, and another one takes its place
pub put_away : (m n : BTreeMap ℕ ℕ) (f o s e a b : ℕ) → (Meets n a b ↔ Covers m f o a b)
    → (((s < b) × (a < e)) ⊎ Meets n a b) ↔ ((((f < b) × (a < o)) ⊎ Meets m a b) ⊎ ((s < b) × (a < e)))
put_away m n f o s e a b with = (
  λ h. elim h as (λ _. (((f < b) × (a < o)) ⊎ Meets m a b) ⊎ ((s < b) × (a < e))) [
    | inl new ↦ inr new
    | inr met ↦ elim (with.0 met) as (λ _. (((f < b) × (a < o)) ⊎ Meets m a b) ⊎ ((s < b) × (a < e))) [
      | inl old ↦ inl (inr old)
      | inr here ↦ inl (inl here)
    ]
  ],
  λ h. elim h as (λ _. ((s < b) × (a < e)) ⊎ Meets n a b) [
    | inl old ↦ elim old as (λ _. ((s < b) × (a < e)) ⊎ Meets n a b) [
      | inl here ↦ inr (with.1 (inr here))
      | inr met ↦ inr (with.1 (inl met))
    ]
    | inr new ↦ inl new
  ],
)
