-- Bits below 64 as a mask, and the bits of a range below 64 and beyond.
use Rattle.std.proofs.Common.{◌≡◌, Bool, true, false, ℕ, ◌-◌, ◌<◌, ◌≤◌, ◌^◌, ◌⊎◌, inl, inr, refl, sym, ap, subst, ◌∙◌, arith, w64}
use Rattle.std.specs.Prelude.{◌↔◌, min, max, bit_and, bit_or, nat_lt}
use Rattle.std.specs.Int.{bit_at, trailing_zeros}
use Rattle.std.proofs.lemmas.Bool.{cases_lt, le-ltb}
use Rattle.std.proofs.lemmas.Nat.{and_le_l}
use Rattle.std.proofs.lemmas.Nat.Bits.{bit_at-lt, bit_at-zero, bit_at_and, bit_at_or, bit_at-trailing_zeros, bit_at_mask_below, bit_at_mask_inside, bit_at_ones, bit_at_ones_above}
use Rattle.lin_cluster.specs.FindingsRanges.{HasBit, HasFar, HasNear, IsBeyond, IsNear}
use Rattle.lin_cluster.specs.declared.findings.ranges.Far.{Far}
use Rattle.lin_cluster.specs.declared.findings.ranges.Ranges.{Ranges}
use Rattle.lin_cluster.proofs.FindingsRanges.{min_low, max_high}

both_set : (a b : ℕ) → a < 2 → b < 2 → min a b ≡ 1 → (a ≡ 1) × (b ≡ 1)
both_set a b low high h = let least = min_low a b in (omega (arith, least.0, least.1), omega (arith, least.0, least.1))

set_by_both : (a b : ℕ) → a ≡ 1 → b ≡ 1 → min a b ≡ 1
set_by_both a b first second = (λ i. min (first i) (second i))

one_set : (a b : ℕ) → a < 2 → b < 2 → max a b ≡ 1 → (a ≡ 1) ⊎ (b ≡ 1)
one_set a b low high h = elim (max_high a b).2 as (λ _. (a ≡ 1) ⊎ (b ≡ 1)) [
  | inl first ↦ inl (sym first ∙ h)
  | inr second ↦ inr (sym second ∙ h)
]

set_by_first : (a b : ℕ) → b < 2 → a ≡ 1 → max a b ≡ 1
set_by_first a b high first = let most = max_high a b in elim most.2 as (λ _. max a b ≡ 1) [
  | inl here ↦ here ∙ first
  | inr here ↦ omega (arith, most.0)
]

set_by_second : (a b : ℕ) → a < 2 → b ≡ 1 → max a b ≡ 1
set_by_second a b low second = let most = max_high a b in elim most.2 as (λ _. max a b ≡ 1) [
  | inl here ↦ omega (arith, most.1)
  | inr here ↦ here ∙ second
]

abbrev IsMask : ℕ → ℕ → ℕ → Type 0
IsMask m s e = (i : ℕ) → (bit_at m i ≡ 1) ↔ IsNear s e i

beyond_64 : (e : ℕ) → e ≤ 64 → nat_lt 64 e ≡ true → ⊥
beyond_64 e le h = absurd (let never : true ≡ false = sym h ∙ le-ltb 64 e le in cc)

-- ---- the mask of a range

pub kept_ones : (n : ℕ) → n ≤ 64 → 64 - (64 - n) ≡ n
kept_ones n le = omega arith

-- the ones from s up, and those below the end
high_ones : (s i : ℕ) → i < 64 → (bit_at (2 ^ 64 - 2 ^ s) i ≡ 1) ↔ (s ≤ i)
high_ones s i within = (
  λ one. elim (cases_lt i s) as (λ _. s ≤ i) [
    | inl low ↦ let none : bit_at (2 ^ 64 - 2 ^ s) i ≡ 0 = bit_at_mask_below s 64 i low in absurd (omega (arith, one))
    | inr le ↦ le
  ],
  λ le. bit_at_mask_inside s 64 i le within,
)

low_ones : (e i : ℕ) → (bit_at (2 ^ e - 1) i ≡ 1) ↔ (i < e)
low_ones e i = (
  λ one. elim (cases_lt i e) as (λ _. i < e) [
    | inl lt ↦ lt
    | inr past ↦ let none : bit_at (2 ^ e - 1) i ≡ 0 = bit_at_ones_above e i past in absurd (omega (arith, one))
  ],
  λ lt. bit_at_ones e i lt,
)

pub mask_of : (s e after high low : ℕ) → after ≡ min e 64 → high ≡ 2 ^ 64 - 2 ^ s → low ≡ 2 ^ after - 1 → IsMask (bit_and high low) s e
mask_of s e after high low is highs lows i =
    let least = min_low e 64 in
    let both = bit_at_and high low i in (
      λ one.
          let set = both_set (bit_at high i) (bit_at low i) (bit_at-lt high i) (bit_at-lt low i) (sym both ∙ one) in
          let lt : i < after = (low_ones after i).0 (ap (λ n. bit_at n i) (sym lows) ∙ set.1) in
          let within : i < 64 = omega (arith, least.1, lt) in
          (within, (high_ones s i within).0 (ap (λ n. bit_at n i) (sym highs) ∙ set.0), omega (arith, least.0, lt)),
      λ near.
          let lt : i < after = elim least.2 as (λ _. i < after) [
            | inl all ↦ omega (arith, near.2)
            | inr some ↦ omega (arith, near.0)
          ] in
          both ∙ set_by_both (bit_at high i) (bit_at low i) (ap (λ n. bit_at n i) highs ∙ (high_ones s i near.0).1 near.1) (ap (λ n. bit_at n i) lows ∙ (low_ones after i).1 lt),
    )

-- ---- a range and the mask of others

pub met_near : (m n s e : ℕ) → m < 2 ^ 64 → 0 < bit_and m n → IsMask n s e → HasNear m s e
met_near m n s e small some mask =
    let less : bit_and m n < 2 ^ 64 = omega (arith, and_le_l m n) in
    let first = bit_at-trailing_zeros w64 (bit_and m n) some less in
    let t : ℕ = trailing_zeros w64 (bit_and m n) in
    let set = both_set (bit_at m t) (bit_at n t) (bit_at-lt m t) (bit_at-lt n t) (sym (bit_at_and m n t) ∙ first.1) in
    (t, (mask t).0 set.1, set.0)

pub unmet_near : (m n s e : ℕ) → bit_and m n ≡ 0 → IsMask n s e → HasNear m s e → ⊥
unmet_near m n s e none mask (i, near, one) =
    absurd (let set : 0 ≡ 1 = sym (bit_at-zero i) ∙ ap (λ k. bit_at k i) (sym none) ∙ bit_at_and m n i ∙ set_by_both (bit_at m i) (bit_at n i) one ((mask i).1 near) in omega (arith, set))

-- ---- a range more

pub beyond : (a b s e most : ℕ) (old new : Type 0) → most ≡ max s 64 → 64 < e → (new ↔ (old ⊎ ((most < b) × (a < e)))) → new ↔ (old ⊎ IsBeyond s e a b)
beyond a b s e most old new is far same =
    let greatest = max_high s 64 in (
      λ h. elim (same.0 h) as (λ _. old ⊎ IsBeyond s e a b) [
        | inl past ↦ inl past
        | inr here ↦ let low : most < b = here.0 in inr (omega (arith, greatest.0, low), here.1, omega (arith, greatest.1, low), far)
      ],
      λ h. same.1 (elim h as (λ _. old ⊎ ((most < b) × (a < e))) [
        | inl past ↦ inl past
        | inr here ↦ inr (
          elim greatest.2 as (λ _. most < b) [
            | inl start ↦ let low : s < b = here.0 in omega (arith, low)
            | inr all ↦ let low : 64 < b = here.2 in omega (arith, low)
          ],
          here.1,
        )
      ]),
    )

pub none_beyond : (a b s e : ℕ) (old : Type 0) → e ≤ 64 → old ↔ (old ⊎ IsBeyond s e a b)
none_beyond a b s e old le = (
  λ h. inl h,
  λ h. elim h as (λ _. old) [
    | inl past ↦ past
    | inr here ↦ absurd (let far : 64 < e = here.3 in omega arith)
  ],
)

near_or : (m n a b s e : ℕ) → IsMask n s e → HasNear (bit_or m n) a b → HasNear m a b ⊎ ((s < b) × (a < e))
near_or m n a b s e mask (i, near, one) =
    elim (one_set (bit_at m i) (bit_at n i) (bit_at-lt m i) (bit_at-lt n i) (sym (bit_at_or m n i) ∙ one)) as (λ _. HasNear m a b ⊎ ((s < b) × (a < e))) [
      | inl old ↦ inl (i, near, old)
      | inr new ↦ let here = (mask i).0 new in inr (omega (arith, here.1, near.2), omega (arith, near.1, here.2))
    ]

kept_near : (m n a b : ℕ) → HasNear m a b → HasNear (bit_or m n) a b
kept_near m n a b (i, near, one) = (i, near, bit_at_or m n i ∙ set_by_first (bit_at m i) (bit_at n i) (bit_at-lt n i) one)

put_near : (m n a b s e i : ℕ) → IsMask n s e → IsNear s e i → IsNear a b i → HasNear (bit_or m n) a b
put_near m n a b s e i mask here near = (i, near, bit_at_or m n i ∙ set_by_second (bit_at m i) (bit_at n i) (bit_at-lt m i) ((mask i).1 here))

-- the first common bit is below 64, or there is one beyond
common : (m n a b s e : ℕ) → a < b → s < e → s < b → a < e → IsMask n s e → HasNear (bit_or m n) a b ⊎ IsBeyond s e a b
common m n a b s e ab se sb ae mask =
    elim (cases_lt s a) as (λ _. HasNear (bit_or m n) a b ⊎ IsBeyond s e a b) [
      | inl lt ↦ elim (cases_lt a 64) as (λ _. HasNear (bit_or m n) a b ⊎ IsBeyond s e a b) [
        | inl low ↦ inl (put_near m n a b s e a mask (low, omega arith, ae) (low, omega arith, ab))
        | inr far ↦ inr (sb, ae, omega arith, omega arith)
      ]
      | inr le ↦ elim (cases_lt s 64) as (λ _. HasNear (bit_or m n) a b ⊎ IsBeyond s e a b) [
        | inl low ↦ inl (put_near m n a b s e s mask (low, omega arith, se) (low, le, sb))
        | inr far ↦ inr (sb, ae, omega arith, omega arith)
      ]
    ]

pub all_bits : (old new : Ranges) (n a b s e : ℕ) → a < b → s < e → IsMask n s e → new.near ≡ bit_or old.near n → (HasFar new.far a b ↔ (HasFar old.far a b ⊎ IsBeyond s e a b)) → HasBit new a b ↔ (HasBit old a b ⊎ ((s < b) × (a < e)))
all_bits old new n a b s e ab se mask is far =
    let there : HasNear new.near a b → HasNear (bit_or old.near n) a b = subst (λ m. HasNear m a b) is in
    let back : HasNear (bit_or old.near n) a b → HasNear new.near a b = subst (λ m. HasNear m a b) (sym is) in (
      λ h. elim h as (λ _. HasBit old a b ⊎ ((s < b) × (a < e))) [
        | inl near ↦ elim (near_or old.near n a b s e mask (there near)) as (λ _. HasBit old a b ⊎ ((s < b) × (a < e))) [
          | inl past ↦ inl (inl past)
          | inr here ↦ inr here
        ]
        | inr met ↦ elim (far.0 met) as (λ _. HasBit old a b ⊎ ((s < b) × (a < e))) [
          | inl past ↦ inl (inr past)
          | inr here ↦ inr (here.0, here.1)
        ]
      ],
      λ h. elim h as (λ _. HasBit new a b) [
        | inl past ↦ elim past as (λ _. HasBit new a b) [
          | inl near ↦ inl (back (kept_near old.near n a b near))
          | inr met ↦ inr (far.1 (inl met))
        ]
        | inr here ↦ elim (common old.near n a b s e ab se here.0 here.1 mask) as (λ _. HasBit new a b) [
          | inl near ↦ inl (back near)
          | inr met ↦ inr (far.1 (inr met))
        ]
      ],
    )

pub still_beyond : (old new : Far) (s e : ℕ) → ((a b : ℕ) → a < b → b ≤ 64 → HasFar old a b → ⊥) → ((a b : ℕ) → a < b → HasFar new a b ↔ (HasFar old a b ⊎ IsBeyond s e a b)) → (a b : ℕ) → a < b → b ≤ 64 → HasFar new a b → ⊥
still_beyond old new s e apart same a b ab le met =
    elim ((same a b ab).0 met) as (λ _. ⊥) [
      | inl past ↦ apart a b ab le past
      | inr here ↦ absurd (let far : 64 < b = here.2 in omega arith)
    ]

-- what a range meets, where it meets no bit below 64
pub met_far : (r : Ranges) (n s e : ℕ) (met : Type 0) → bit_and r.near n ≡ 0 → IsMask n s e → (met ↔ HasFar r.far s e) → met ↔ HasBit r s e
met_far r n s e met none mask far = (
  λ h. inr (far.0 h),
  λ h. elim h as (λ _. met) [
    | inl near ↦ absurd (unmet_near r.near n s e none mask near)
    | inr here ↦ far.1 here
  ],
)

pub no_more : (r : Ranges) (n s e : ℕ) → bit_and r.near n ≡ 0 → IsMask n s e → ((a b : ℕ) → a < b → b ≤ 64 → HasFar r.far a b → ⊥) → s < e → e ≤ 64 → (nat_lt 64 e ≡ true) ↔ HasBit r s e
no_more r n s e none mask apart some le = (
  λ far. absurd (beyond_64 e le far),
  λ h. elim h as (λ _. nat_lt 64 e ≡ true) [
    | inl near ↦ absurd (unmet_near r.near n s e none mask near)
    | inr here ↦ absurd (apart s e some le here)
  ],
)
