-- The nearest of a list of raw values with decimals.
use Rattle.std.proofs.Common.{◌≡◌, ℕ, zero, suc, ◌+◌, ◌<◌, ◌≤◌, ap, sym, ◌∙◌, arith, refl, Bool, true, false, nat_lt, subst, List, [], ◌∷◌, ◌++◌, below_more}
use Rattle.std.specs.Prelude.{Option, Some, None, ℤ, if◌then◌else◌, filter, flat_map, fold}
use Rattle.std.specs.List.{range_with_len}
use Rattle.std.specs.Option.{option_map_or}
use Rattle.std.proofs.lemmas.Grind.{common_steps}
use Rattle.lin_values.specs.Raws.{distance}

-- the nearest of those up to a number
abbrev pub IsNearerTo : (ℕ → Option ℤ) → (ℤ → Bool) → ℤ → ℕ → Option (ℕ × ℤ) → Type 0
IsNearerTo f good x m None = (n : ℕ) → n < m → (z : ℤ) → f n ≡ Some z → good z ≡ true → ⊥
IsNearerTo f good x m (Some p) =
    (p.0 < m) × (f p.0 ≡ Some p.1) × (good p.1 ≡ true)
    × ((n : ℕ) → n < m → (z : ℤ) → f n ≡ Some z → good z ≡ true
    → (distance x p.1 ≤ distance x z) × (n < p.0 → distance x p.1 < distance x z))

abbrev pub pick : ℤ → Option (ℕ × ℤ) → ℕ × ℤ → Option (ℕ × ℤ)
pick x b p = if option_map_or (λ q. nat_lt (distance x p.1) (distance x q.1)) b true then Some p else b

-- the next raw value has no decimal of these
pass : (f : ℕ → Option ℤ) (good : ℤ → Bool) (x : ℤ) (m : ℕ) (b : Option (ℕ × ℤ))
    → ((z : ℤ) → f m ≡ Some z → good z ≡ true → ⊥) → IsNearerTo f good x m b → IsNearerTo f good x (m + 1) b
pass f good x m None h l =
    below_more (λ n. (z : ℤ) → f n ≡ Some z → good z ≡ true → ⊥) m l h
pass f good x m (Some p) h l =
    let less : p.0 < m + 1 = (let a = l.0 in omega arith) in (
      less,
      l.1,
      l.2,
      below_more (λ n. (z : ℤ) → f n ≡ Some z → good z ≡ true → (distance x p.1 ≤ distance x z) × (n < p.0 → distance x p.1 < distance x z)) m l.3
          (λ z e t. absurd (h z e t)),
    )

same-some : (a b : ℤ) → Some a ≡ Some b → a ≡ b
same-some a b e = cc

-- the next raw value is the first, or nearer than those before
put : (f : ℕ → Option ℤ) (good : ℤ → Bool) (x : ℤ) (m : ℕ) (z : ℤ) → f m ≡ Some z → good z ≡ true
    → ((n : ℕ) → n < m → (y : ℤ) → f n ≡ Some y → good y ≡ true → distance x z < distance x y)
    → IsNearerTo f good x (m + 1) (Some (m, z))
put f good x m z e t h = (
  omega arith,
  e,
  t,
  below_more (λ n. (y : ℤ) → f n ≡ Some y → good y ≡ true → (distance x z ≤ distance x y) × (n < m → distance x z < distance x y)) m
      (λ n i y k u. let j : distance x z < distance x y = h n i y k u in (omega (arith, j), λ w. j))
      (λ y k u. let j : distance x z ≡ distance x y = ap (distance x) (same-some z y (sym e ∙ k)) in (omega (arith, j), λ w. absurd (omega (arith, w)))),
)

keep : (f : ℕ → Option ℤ) (good : ℤ → Bool) (x : ℤ) (m : ℕ) (z : ℤ) (q : ℕ × ℤ) → f m ≡ Some z
    → distance x q.1 ≤ distance x z → IsNearerTo f good x m (Some q) → IsNearerTo f good x (m + 1) (Some q)
keep f good x m z q e h l =
    let less : q.0 < m + 1 = (let a = l.0 in omega arith) in (
      less,
      l.1,
      l.2,
      below_more (λ n. (y : ℤ) → f n ≡ Some y → good y ≡ true → (distance x q.1 ≤ distance x y) × (n < q.0 → distance x q.1 < distance x y)) m l.3
          (λ y k u. let j : distance x z ≡ distance x y = ap (distance x) (same-some z y (sym e ∙ k)) in
          let i : q.0 < m = l.0 in (omega (arith, j, h), λ w. absurd (omega (arith, w, i)))),
    )

test-true : (a b : ℕ) → nat_lt a b ≡ true → a < b
test-true a b h = grind (arith, common_steps)

test-false : (a b : ℕ) → nat_lt a b ≡ false → b ≤ a
test-false a b h = grind (arith, common_steps)

pick-over : (f : ℕ → Option ℤ) (good : ℤ → Bool) (x : ℤ) (m : ℕ) (z : ℤ) (q : ℕ × ℤ) (t : Bool) → f m ≡ Some z → good z ≡ true
    → nat_lt (distance x z) (distance x q.1) ≡ t
    → IsNearerTo f good x m (Some q) → IsNearerTo f good x (m + 1) (if t then Some (m, z) else Some q)
pick-over f good x m z q true e g h l =
    put f good x m z e g (λ n i y k u.
    let a : distance x q.1 ≤ distance x y = (l.3 n i y k u).0 in
    let b : distance x z < distance x q.1 = test-true (distance x z) (distance x q.1) h in omega (arith, a, b))
pick-over f good x m z q false e g h l =
    keep f good x m z q e (test-false (distance x z) (distance x q.1) h) l

picked : (f : ℕ → Option ℤ) (good : ℤ → Bool) (x : ℤ) (m : ℕ) (z : ℤ) (b : Option (ℕ × ℤ)) → f m ≡ Some z → good z ≡ true
    → IsNearerTo f good x m b → IsNearerTo f good x (m + 1) (pick x b (m, z))
picked f good x m z None e g l = put f good x m z e g (λ n i y k u. absurd (l n i y k u))
picked f good x m z (Some q) e g l = pick-over f good x m z q (nat_lt (distance x z) (distance x q.1)) e g refl l

abbrev pub with_decimal : ℕ → Option ℤ → List (ℕ × ℤ)
with_decimal raw o = option_map_or (λ z. (raw, z) ∷ []) o []

good-step : (f : ℕ → Option ℤ) (good : ℤ → Bool) (x : ℤ) (m : ℕ) (z : ℤ) (b : Option (ℕ × ℤ)) (rest : List (ℕ × ℤ)) (t : Bool) → f m ≡ Some z → good z ≡ t
    → IsNearerTo f good x m b
    → (r : Option (ℕ × ℤ)) × IsNearerTo f good x (m + 1) r × (fold (pick x) b (if t then (m, z) ∷ rest else rest) ≡ fold (pick x) r rest)
good-step f good x m z b rest true e g l = (pick x b (m, z), picked f good x m z b e g l, refl)
good-step f good x m z b rest false e g l =
    (b, pass f good x m b (λ y k u. let j : z ≡ y = same-some z y (sym e ∙ k) in cc (ap good j)) l, refl)

step : (f : ℕ → Option ℤ) (good : ℤ → Bool) (x : ℤ) (m : ℕ) (b : Option (ℕ × ℤ)) (rest : List (ℕ × ℤ)) (o : Option ℤ) → f m ≡ o
    → IsNearerTo f good x m b
    → (r : Option (ℕ × ℤ)) × IsNearerTo f good x (m + 1) r
    × (fold (pick x) b (filter (λ p. good p.1) (with_decimal m o ++ rest)) ≡ fold (pick x) r (filter (λ p. good p.1) rest))
step f good x m b rest None e l = (b, pass f good x m b (λ z k u. let i : None ≡ Some z = sym e ∙ k in cc) l, refl)
step f good x m b rest (Some z) e l = good-step f good x m z b (filter (λ p. good p.1) rest) (good z) e refl l

abbrev pub decimals_from : (ℕ → Option ℤ) → ℕ → ℕ → List (ℕ × ℤ)
decimals_from f a len = flat_map (λ raw. with_decimal raw (f raw)) (range_with_len a len)

pub nearest-from : (f : ℕ → Option ℤ) (good : ℤ → Bool) (x : ℤ) (len a : ℕ) (b : Option (ℕ × ℤ)) → IsNearerTo f good x a b
    → IsNearerTo f good x (a + len) (fold (pick x) b (filter (λ p. good p.1) (decimals_from f a len)))
nearest-from f good x zero a b l = subst (λ (k : ℕ). IsNearerTo f good x k b) (let e : a ≡ a + 0 = omega arith in e) l
nearest-from f good x (suc len) a b l =
    let s = step f good x a b (decimals_from f (a + 1) len) (f a) refl l in
    let i : IsNearerTo f good x (a + 1 + len) (fold (pick x) s.0 (filter (λ p. good p.1) (decimals_from f (a + 1) len)))
    = nearest-from f good x len (a + 1) s.0 s.1 in
    let j : a + 1 + len ≡ a + suc len = omega arith in
    subst (λ (k : ℕ). IsNearerTo f good x k (fold (pick x) b (filter (λ p. good p.1) (decimals_from f a (suc len))))) j
    (subst (λ (r : Option (ℕ × ℤ)). IsNearerTo f good x (a + 1 + len) r) (sym s.2) i)
