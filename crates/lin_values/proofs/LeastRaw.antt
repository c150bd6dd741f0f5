-- The lowest raw value with the least distance: as raw values are added, and of a list.
use Rattle.std.proofs.Common.{◌≡◌, ℕ, ◌<◌, ◌≤◌, inl, inr, ap, sym, ◌∙◌, arith, refl, Bool, true, false, nat_lt, subst}
use Rattle.std.specs.Prelude.{Option, Some, None, ◌⊎◌}
use Rattle.std.proofs.lemmas.Grind.{common_steps}
use Rattle.lin_values.specs.Layers.{in_span}
use Rattle.lin_values.specs.Nearest.{IsAmong, IsExtended, IsLeast, IsNearer, with_near, with_raw}
use Rattle.lin_values.specs.declared.layers.Span.{Span}

-- ---- one raw value is added

near-kept : (p q : ℕ × ℕ) (n d : ℕ) → IsNearer (Some q) n d → IsNearer (with_near p (Some q)) n d
near-kept p q n d h = grind (arith, common_steps)

kept : (o : Option ℕ) (c : ℕ) (b : Option (ℕ × ℕ)) (n d : ℕ) → IsNearer b n d → IsNearer (with_raw o c b) n d
kept None c b n d h = h
kept (Some e) c None n d h = absurd h
kept (Some e) c (Some q) n d h = near-kept (c, e) q n d h

-- all that are there are up to a number
abbrev pub IsUpTo : ℕ → Option (ℕ × ℕ) → Type 0
IsUpTo m None = Unit {0}
IsUpTo m (Some p) = p.0 ≤ m

near-new : (c e : ℕ) (q : ℕ × ℕ) → q.0 ≤ c → IsNearer (with_near (c, e) (Some q)) c e
near-new c e q h = grind (arith, common_steps)

new : (e c : ℕ) (b : Option (ℕ × ℕ)) → IsUpTo c b → IsNearer (with_raw (Some e) c b) c e
new e c None h = (omega arith, λ k. absurd (omega arith))
new e c (Some q) h = near-new c e q h

near-up : (p q : ℕ × ℕ) (m : ℕ) → p.0 ≤ m → q.0 ≤ m → IsUpTo m (with_near p (Some q))
near-up p q m h k = grind (arith, common_steps)

up : (o : Option ℕ) (c m : ℕ) (b : Option (ℕ × ℕ)) → c ≤ m → IsUpTo m b → IsUpTo m (with_raw o c b)
up None c m b h k = k
up (Some e) c m None h k = h
up (Some e) c m (Some q) h k = near-up (c, e) q m h k

up-more : (m k : ℕ) (b : Option (ℕ × ℕ)) → m ≤ k → IsUpTo m b → IsUpTo k b
up-more m k None h i = tt
up-more m k (Some p) h i = omega arith

near-among : (g : ℕ → Option ℕ) (p q : ℕ × ℕ) → g p.0 ≡ Some p.1 → g q.0 ≡ Some q.1 → (b : Bool) → nat_lt p.1 q.1 ≡ b → IsAmong g (with_near p (Some q))
near-among g p q h k true e = rw e h
near-among g p q h k false e = rw e k

among : (g : ℕ → Option ℕ) (o : Option ℕ) (c : ℕ) (b : Option (ℕ × ℕ)) → g c ≡ o → IsAmong g b → IsAmong g (with_raw o c b)
among g None c b h k = k
among g (Some e) c None h k = h
among g (Some e) c (Some q) h k = near-among g (c, e) q h k (nat_lt e q.1) refl

-- ---- as near as one that is there

pub record IsAsNear (h : ℕ → Option ℕ) (c n d : ℕ) : Type 0 where
  pub distance : ℕ
  pub there : h c ≡ Some distance
  pub near : distance ≤ d
  pub nearer : n < c → distance < d

near-past : (p : ℕ × ℕ) (c e n d : ℕ) → IsNearer (Some p) c e → e ≤ d → (n < c → e < d) → IsNearer (Some p) n d
near-past p c e n d h i j = grind arith

past : (b : Option (ℕ × ℕ)) (c e n d : ℕ) → IsNearer b c e → e ≤ d → (n < c → e < d) → IsNearer b n d
past None c e n d h i j = absurd h
past (Some p) c e n d h i j = near-past p c e n d h i j

there-new : (o : Option ℕ) (e c : ℕ) (b : Option (ℕ × ℕ)) → o ≡ Some e → IsUpTo c b → IsNearer (with_raw o c b) c e
there-new o e c b h k = subst (λ (x : Option ℕ). IsNearer (with_raw x c b) c e) (sym h) (new e c b k)

pub as-near : (h : ℕ → Option ℕ) (c : ℕ) (b : Option (ℕ × ℕ)) (n d : ℕ) → IsUpTo c b → IsAsNear h c n d → IsNearer (with_raw (h c) c b) n d
as-near h c b n d u a = past (with_raw (h c) c b) c a.distance n d (there-new (h c) a.distance c b a.there u) a.near a.nearer

-- ---- both candidates of a span are added

before-up : (f : ℕ → Option ℕ) (m : ℕ) (b : Option (ℕ × ℕ)) → IsAmong f b → ((n d : ℕ) → f n ≡ Some d → n < m) → IsUpTo m b
before-up f m None h k = tt
before-up f m (Some p) h k = let i : p.0 < m = k p.0 p.1 h in omega arith

in-from : (s : Span) (n : ℕ) → in_span s n ≡ true → s.from ≤ n
in-from s n h = grind (arith, common_steps)

below-out : (s : Span) (n : ℕ) → n < s.from → in_span s n ≡ false
below-out s n h = grind (arith, common_steps)

old-among : (s : Span) (h f g : ℕ → Option ℕ) (b : Option (ℕ × ℕ)) → IsExtended s h f g → IsAmong f b → IsAmong g b
old-among s h f g None x a = tt
old-among s h f g (Some p) x a = x.outside p.0 (below-out s p.0 (x.before p.0 p.1 a)) ∙ a

by-test : (s : Span) (h f g : ℕ → Option ℕ) (r : Option (ℕ × ℕ)) (n d : ℕ) (t : Bool) → in_span s n ≡ t → IsExtended s h f g
    → g n ≡ Some d
    → (f n ≡ Some d → IsNearer r n d)
    → (in_span s n ≡ true → h n ≡ Some d → IsNearer r n d) → IsNearer r n d
by-test s h f g r n d true e x i j k = k e (sym (x.inside n e) ∙ i)
by-test s h f g r n d false e x i j k = j (sym (x.outside n e) ∙ i)

pub both-added : (s : Span) (h f g : ℕ → Option ℕ) (a c : ℕ) (b : Option (ℕ × ℕ)) → in_span s a ≡ true → in_span s c ≡ true → a ≤ c
    → ((n d : ℕ) → in_span s n ≡ true → h n ≡ Some d → IsAsNear h a n d ⊎ IsAsNear h c n d)
    → IsExtended s h f g → IsLeast f b → IsLeast g (with_raw (h c) c (with_raw (h a) a b))
both-added s h f g a c b ia ic ac cover x l =
    let ub : IsUpTo s.from b = before-up f s.from b l.among x.before in
    let ua : IsUpTo a b = up-more s.from a b (in-from s a ia) ub in
    let b1 = with_raw (h a) a b in
    let u1 : IsUpTo c b1 = up (h a) a c b ac (up-more a c b ac ua) in
    record {
      among = among g (h c) c b1 (x.inside c ic) (among g (h a) a b (x.inside a ia) (old-among s h f g b x l.among));
      least = λ n d e. by-test s h f g (with_raw (h c) c b1) n d (in_span s n) refl x e
          (λ k. kept (h c) c b1 n d (kept (h a) a b n d (l.least n d k)))
          (λ i k. elim (cover n d i k) [
            | inl w ↦ kept (h c) c b1 n d (as-near h a b n d ua w)
            | inr w ↦ as-near h c b1 n d u1 w
          ]);
    }

-- ---- one result only

unique-some : (f : ℕ → Option ℕ) (p q : ℕ × ℕ) → IsLeast f (Some p) → IsLeast f (Some q) → p.0 ≡ q.0
unique-some f p q l m =
    let i : IsNearer (Some p) q.0 q.1 = l.least q.0 q.1 m.among in
    let j : IsNearer (Some q) p.0 p.1 = m.least p.0 p.1 l.among in
    grind arith

abbrev pub raw_of : Option (ℕ × ℕ) → Option ℕ
raw_of None = None
raw_of (Some p) = Some p.0

pub unique : (f : ℕ → Option ℕ) (a b : Option (ℕ × ℕ)) → IsLeast f a → IsLeast f b → raw_of a ≡ raw_of b
unique f None None l m = refl
unique f None (Some q) l m = absurd (l.least q.0 q.1 m.among)
unique f (Some p) None l m = absurd (m.least p.0 p.1 l.among)
unique f (Some p) (Some q) l m = ap Some (unique-some f p q l m)
