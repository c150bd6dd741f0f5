-- Decimals on one side of another, and how far they are from it.
use Rattle.std.proofs.Common.{◌≡◌, ℕ, ◌<◌, ◌≤◌, ◌^◌, ap, sym, ◌∙◌, arith, refl, Bool, true, false, subst}
use Rattle.std.specs.Prelude.{ℤ, int_lt, unsigned_abs, Option, Some, None, if◌then◌else◌}
use lib.IntN.{pos, negsuc, ◌+ℤ◌, ◌*ℤ◌, ◌-ℤ◌}
use lib.Signed.{◌<ℤ◌, ◌≤ℤ◌}
use mir.Syntax.{w128}
use mir.Val.{SFits, of_z, to_z}
use Rattle.std.proofs.lemmas.Int.{ints, by_lt_z, to_z-of_z}
use Rattle.lin_values.specs.Nearest.{distance_above, distance_below, left_by, IsAtLeastAsNear}
use Rattle.lin_values.specs.Raws.{distance}
use Rattle.lin_values.proofs.LeastRaw.{IsAsNear}
use Rattle.lin_values.proofs.Solving.{difference-fits}

lt-is : (a b : ℤ) → a <ℤ b → int_lt a b ≡ true
lt-is a b h = grind (arith, ints)

lt-not : (a b : ℤ) → b ≤ℤ a → int_lt a b ≡ false
lt-not a b h = grind (arith, ints)

abbrev pub when_not : Bool → ℕ → Option ℕ
when_not t d = if t then None else Some d

none-some : (t : Bool) (d e : ℕ) → t ≡ true → when_not t d ≡ Some e → ⊥
none-some true d e h k = cc
none-some false d e h k = cc

some-is : (t : Bool) (d : ℕ) → t ≡ false → when_not t d ≡ Some d
some-is true d h = cc
some-is false d h = refl

same-some : (a b : ℕ) → Some a ≡ Some b → a ≡ b
same-some a b e = cc

abbrev pub AsNear : Option ℕ → ℕ → ℕ → ℕ → ℕ → Type 0
AsNear o e c n d = (o ≡ Some e) × (e ≤ d) × (n < c → e < d)

below-as : (x y z : ℤ) (c n d : ℕ) → (pos 0 ≤ℤ (x -ℤ y) → pos 0 ≤ℤ (x -ℤ z)) → distance x z ≤ distance x y → (n < c → distance x z < distance x y)
    → distance_below x y ≡ Some d → AsNear (distance_below x z) (distance x z) c n d
below-as x y z c n d f g h e = by_lt_z x y
    (λ i. absurd (none-some (int_lt x y) (distance x y) d (lt-is x y i) e))
    (λ i.
    let j : distance x y ≡ d = same-some (distance x y) d (sym (some-is (int_lt x y) (distance x y) (lt-not x y i)) ∙ e) in
    let k : pos 0 ≤ℤ (x -ℤ z) = f (omega (arith, ints)) in
    let l : z ≤ℤ x = omega (arith, ints) in
    (some-is (int_lt x z) (distance x z) (lt-not x z l), subst (λ (m : ℕ). distance x z ≤ m) j g, λ w. subst (λ (m : ℕ). distance x z < m) j (h w)))

above-as : (x y z : ℤ) (c n d : ℕ) → ((x -ℤ y) ≤ℤ pos 0 → (x -ℤ z) ≤ℤ pos 0) → distance x z ≤ distance x y → (n < c → distance x z < distance x y)
    → distance_above x y ≡ Some d → AsNear (distance_above x z) (distance x z) c n d
above-as x y z c n d f g h e = by_lt_z y x
    (λ i. absurd (none-some (int_lt y x) (distance x y) d (lt-is y x i) e))
    (λ i.
    let j : distance x y ≡ d = same-some (distance x y) d (sym (some-is (int_lt y x) (distance x y) (lt-not y x i)) ∙ e) in
    let k : (x -ℤ z) ≤ℤ pos 0 = f (omega (arith, ints)) in
    let l : x ≤ℤ z = omega (arith, ints) in
    (some-is (int_lt z x) (distance x z) (lt-not z x l), subst (λ (m : ℕ). distance x z ≤ m) j g, λ w. subst (λ (m : ℕ). distance x z < m) j (h w)))

left-is : (x o p : ℤ) → (x -ℤ o) -ℤ p ≡ x -ℤ (p +ℤ o)
left-is x o p = omega (arith, ints)

abbrev pub IsReachedAt : ℕ → ℕ → ℤ → ℤ → Type 0
IsReachedAt c n a b =
    (pos 0 ≤ℤ b → pos 0 ≤ℤ a) × (b ≤ℤ pos 0 → a ≤ℤ pos 0) × (unsigned_abs a ≤ unsigned_abs b) × (n < c → unsigned_abs a < unsigned_abs b)

reached-at : (scale x o : ℤ) (c n : ℕ) → IsAtLeastAsNear scale (x -ℤ o) c n → IsReachedAt c n (x -ℤ (pos c *ℤ scale +ℤ o)) (x -ℤ (pos n *ℤ scale +ℤ o))
reached-at scale x o c n h =
    subst (λ (w : ℤ). IsReachedAt c n w (x -ℤ (pos n *ℤ scale +ℤ o))) (left-is x o (pos c *ℤ scale))
    (subst (λ (w : ℤ). IsReachedAt c n (left_by scale (x -ℤ o) c) w) (left-is x o (pos n *ℤ scale)) h)

pub reached-below : (scale x o : ℤ) (c n d : ℕ) → IsAtLeastAsNear scale (x -ℤ o) c n → distance_below x (pos n *ℤ scale +ℤ o) ≡ Some d
    → IsAsNear (λ k. distance_below x (pos k *ℤ scale +ℤ o)) c n d
reached-below scale x o c n d h e =
    let r = reached-at scale x o c n h in
    let a = below-as x (pos n *ℤ scale +ℤ o) (pos c *ℤ scale +ℤ o) c n d r.0 r.2 r.3 e in
    record { distance = distance x (pos c *ℤ scale +ℤ o); there = a.0; near = a.1; nearer = a.2 }

pub reached-above : (scale x o : ℤ) (c n d : ℕ) → IsAtLeastAsNear scale (x -ℤ o) c n → distance_above x (pos n *ℤ scale +ℤ o) ≡ Some d
    → IsAsNear (λ k. distance_above x (pos k *ℤ scale +ℤ o)) c n d
reached-above scale x o c n d h e =
    let r = reached-at scale x o c n h in
    let a = above-as x (pos n *ℤ scale +ℤ o) (pos c *ℤ scale +ℤ o) c n d r.1 r.2 r.3 e in
    record { distance = distance x (pos c *ℤ scale +ℤ o); there = a.0; near = a.1; nearer = a.2 }

small-fits : (z : ℤ) → unsigned_abs z < 10 ^ 33 → SFits w128 z
small-fits (pos a) h = omega (arith, ints)
small-fits (negsuc a) h = omega (arith, ints)

pub small-kept : (z v : ℤ) → z ≡ v → unsigned_abs v < 10 ^ 33 → to_z w128 (of_z w128 z) ≡ v
small-kept z v e h = ap (λ w. to_z w128 (of_z w128 w)) e ∙ to_z-of_z w128 v (small-fits v h)

pub distance-kept : (x o l z : ℤ) → to_z w128 (of_z w128 x) ≡ x → to_z w128 (of_z w128 z) ≡ o → unsigned_abs x ≤ 10 ^ 38 → unsigned_abs o < 10 ^ 33
    → l ≡ to_z w128 (of_z w128 x) -ℤ to_z w128 (of_z w128 z) → to_z w128 (of_z w128 l) ≡ x -ℤ o
distance-kept x o l z kx ko h i e =
    ap (λ w. to_z w128 (of_z w128 w)) (e ∙ ap (λ w. w -ℤ to_z w128 (of_z w128 z)) kx ∙ ap (λ w. x -ℤ w) ko)
    ∙ to_z-of_z w128 (x -ℤ o) (difference-fits x o (omega (arith, h, i)))
