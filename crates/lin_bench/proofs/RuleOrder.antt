-- The order of rules doesn't matter: of rules that are distinct, the most specific one that matches a message is one.
use Rattle.std.proofs.Common.{◌≡◌, ◌∙◌, inl, inr, ℕ, ◌≤◌, ◌==◌, ◌&&◌, ◌||◌, Bool, true, false, cond, not, List, [], ◌∷◌, ◌++◌, Option, Some, None, refl, sym, ap, subst, arith, eq-eqb, eqb-true, length, map, Ordering, Less, Equal, Greater}
use Rattle.std.specs.Prelude.{filter, find, zip}
use Rattle.std.specs.List.{list_all, list_any}
use Rattle.std.specs.Option.{option_map_or}
use Rattle.std.specs.Ordering.{is_lt, nat_cmp, ordering_reverse}
use Rattle.std.specs.Cmp.Lexicographic.{pointwise, slice_cmp}
use Rattle.std.proofs.lemmas.Cmp.{nat_list_cmp_total, tied_itself}
use Rattle.std.proofs.lemmas.Grind.{common_steps}
use Rattle.std.proofs.lemmas.Slice.Eq.{bytes_eq-Decides}
use Rattle.lin_bench.specs.RuleLaws.{AreDistinct, IsOneOf, KeepsDistinct, OldScripts, OrderOfRules}
use Rattle.lin_bench.specs.Rules.{byte_rank, end_rank, fits, fits_byte, has_length, is_below, is_for_state, is_rule_for, more_specific, most_specific, rank, ranks, rule_for, same_byte, same_pattern, same_rule, same_state, state_rank, whens_with}
use Rattle.lin_log.specs.declared.pattern.Pattern.{Pattern}
use Rattle.lin_bench.specs.declared.rules.When.{When}

both : (a b : Bool) → (a && b) ≡ true → (a ≡ true) × (b ≡ true)
both true true h = (refl, refl)
both true false h = absurd (cc)
both false b h = absurd (cc)

neither : (a b : Bool) → (a || b) ≡ false → (a ≡ false) × (b ≡ false)
neither true b h = absurd (cc)
neither false b h = (refl, h)

-- ---- ranks are ordered
below-itself : (x : List ℕ) → is_lt (slice_cmp nat_cmp x x) ≡ false
below-itself x = ap is_lt (tied_itself nat_list_cmp_total x)

turned : (x y : List ℕ) (r : Ordering) → slice_cmp nat_cmp x y ≡ r → slice_cmp nat_cmp y x ≡ ordering_reverse r
turned x y r e = nat_list_cmp_total.antisymm y x ∙ ap ordering_reverse e

above-by : (x y : List ℕ) (r : Ordering) → slice_cmp nat_cmp x y ≡ r → is_lt r ≡ true → is_lt (slice_cmp nat_cmp y x) ≡ false
above-by x y Less e h = ap is_lt (turned x y Less e)
above-by x y Equal e h = absurd (cc)
above-by x y Greater e h = absurd (cc)

above : (x y : List ℕ) → is_lt (slice_cmp nat_cmp x y) ≡ true → is_lt (slice_cmp nat_cmp y x) ≡ false
above x y h = above-by x y (slice_cmp nat_cmp x y) refl h

not-below-by : (x y z : List ℕ) (r s : Ordering) → slice_cmp nat_cmp x y ≡ r → slice_cmp nat_cmp y z ≡ s → is_lt r ≡ false → is_lt s ≡ false
    → is_lt (slice_cmp nat_cmp x z) ≡ false
not-below-by x y z Less s e f h k = absurd (cc)
not-below-by x y z Equal s e f h k = ap is_lt (nat_list_cmp_total.congr x y z e ∙ f) ∙ k
not-below-by x y z Greater Less e f h k = absurd (cc)
not-below-by x y z Greater Equal e f h k = ap is_lt (turned z x Less (sym (nat_list_cmp_total.congr y z x f) ∙ turned x y Greater e))
not-below-by x y z Greater Greater e f h k = ap is_lt (turned z x Less (nat_list_cmp_total.trans z y x (turned y z Greater f) (turned x y Greater e)))

not-below : (x y z : List ℕ) → is_lt (slice_cmp nat_cmp x y) ≡ false → is_lt (slice_cmp nat_cmp y z) ≡ false → is_lt (slice_cmp nat_cmp x z) ≡ false
not-below x y z h k = not-below-by x y z (slice_cmp nat_cmp x y) (slice_cmp nat_cmp y z) refl refl h k

level-by : (x y : List ℕ) (r : Ordering) → slice_cmp nat_cmp x y ≡ r → is_lt r ≡ false → is_lt (slice_cmp nat_cmp y x) ≡ false → slice_cmp nat_cmp x y ≡ Equal
level-by x y Less e h k = absurd (cc)
level-by x y Equal e h k = e
level-by x y Greater e h k = let no : true ≡ false = sym (ap is_lt (turned x y Greater e)) ∙ k in absurd (cc)

-- ---- the most specific one of some rules
pub record IsBest (ws : List When) (b : When) : Type 0 where
  pub among : IsOneOf ws b
  pub best : (v : When) → IsOneOf ws v → is_below b v ≡ false

best-behind : (w : When) (ws : List When) (b : When) → IsBest ws b → is_below w b ≡ true → (v : When) → IsOneOf (w ∷ ws) v → is_below b v ≡ false
best-behind w ws b is t v (inl e) = ap (is_below b) (sym e) ∙ above (rank w) (rank b) t
best-behind w ws b is t v (inr k) = is.best v k

best-first : (w : When) (ws : List When) (b : When) → IsBest ws b → is_below w b ≡ false → (v : When) → IsOneOf (w ∷ ws) v → is_below w v ≡ false
best-first w ws b is t v (inl e) = ap (is_below w) (sym e) ∙ below-itself (rank w)
best-first w ws b is t v (inr k) = not-below (rank w) (rank b) (rank v) t (is.best v k)

best-more : (w : When) (ws : List When) (b : When) (t : Bool) → IsBest ws b → is_below w b ≡ t → IsBest (w ∷ ws) (cond t b w)
best-more w ws b true is t = record { among = inr is.among; best = best-behind w ws b is t }
best-more w ws b false is t = record { among = inl refl; best = best-first w ws b is t }

none-left : (ws : List When) → most_specific ws ≡ None → (v : When) → IsOneOf ws v → ⊥
none-left [] h v i = i
none-left (w ∷ ws) h v i = absurd (cc)

best-alone : (w : When) (ws : List When) → most_specific ws ≡ None → (v : When) → IsOneOf (w ∷ ws) v → is_below w v ≡ false
best-alone w ws h v (inl e) = ap (is_below w) (sym e) ∙ below-itself (rank w)
best-alone w ws h v (inr k) = absurd (none-left ws h v k)

unwrapped : (w b : When) → Some w ≡ Some b → w ≡ b
unwrapped w b e = ap (λ (o : Option When). option_map_or (λ x. x) o w) e

best-by : (w : When) (ws : List When) (b : When) (m : Option When) → ((b : When) → most_specific ws ≡ Some b → IsBest ws b) → most_specific ws ≡ m
    → Some (option_map_or (more_specific w) m w) ≡ Some b → IsBest (w ∷ ws) b
best-by w ws b None more e h = subst (IsBest (w ∷ ws)) (unwrapped w b h) (record { among = inl refl; best = best-alone w ws e })
best-by w ws b (Some v) more e h = subst (IsBest (w ∷ ws)) (unwrapped (more_specific w v) b h) (best-more w ws v (is_below w v) (more v e) refl)

best-is : (ws : List When) (b : When) → most_specific ws ≡ Some b → IsBest ws b
best-is [] b h = absurd (cc)
best-is (w ∷ ws) b h = best-by w ws b (most_specific ws) (λ v e. best-is ws v e) refl h

-- ---- rules that match
picked-by : (p : When → Bool) (w : When) (ws : List When) (v : When) (b : Bool) → p w ≡ b → (IsOneOf (filter p ws) v → IsOneOf ws v × (p v ≡ true))
    → IsOneOf (cond b (w ∷ filter p ws) (filter p ws)) v → IsOneOf (w ∷ ws) v × (p v ≡ true)
picked-by p w ws v true e more (inl q) = (inl q, ap p (sym q) ∙ e)
picked-by p w ws v true e more (inr k) = (inr (more k).0, (more k).1)
picked-by p w ws v false e more k = (inr (more k).0, (more k).1)

picked : (p : When → Bool) (ws : List When) (v : When) → IsOneOf (filter p ws) v → IsOneOf ws v × (p v ≡ true)
picked p [] v i = absurd i
picked p (w ∷ ws) v i = picked-by p w ws v (p w) refl (picked p ws v) i

past : (b : Bool) (w : When) (ws : List When) (v : When) → IsOneOf ws v → IsOneOf (cond b (w ∷ ws) ws) v
past true w ws v i = inr i
past false w ws v i = i

picks : (p : When → Bool) (ws : List When) (v : When) → IsOneOf ws v → p v ≡ true → IsOneOf (filter p ws) v
picks p [] v i h = absurd i
picks p (w ∷ ws) v (inl q) h = rw (ap p q ∙ h) (inl q)
picks p (w ∷ ws) v (inr k) h = past (p w) w (filter p ws) v (picks p ws v k h)

-- ---- of one node and state, rules of one rank that match one message are for the same pattern
abbrev fit-pair : Option ℕ × ℕ → Bool
fit-pair x = fits_byte x.0 x.1

abbrev cmp-ranks : List (Option ℕ) → Bool → List (Option ℕ) → Bool → Ordering
cmp-ranks ps m qs n = slice_cmp nat_cmp (map byte_rank ps ++ end_rank m ∷ []) (map byte_rank qs ++ end_rank n ∷ [])

bytes-agree : (ps qs : List (Option ℕ)) (m n : Bool) (message : List ℕ) → cmp-ranks ps m qs n ≡ Equal → length ps ≤ length message
    → list_all fit-pair (zip ps message) ≡ true → list_all fit-pair (zip qs message) ≡ true → pointwise same_byte ps qs ≡ true
bytes-agree [] [] m n message e l h k = refl
bytes-agree [] (None ∷ qs) true n message e l h k = absurd (cc)
bytes-agree [] (None ∷ qs) false n message e l h k = absurd (cc)
bytes-agree [] (Some b ∷ qs) true n message e l h k = absurd (cc)
bytes-agree [] (Some b ∷ qs) false n message e l h k = absurd (cc)
bytes-agree (None ∷ ps) [] m true message e l h k = absurd (cc)
bytes-agree (None ∷ ps) [] m false message e l h k = absurd (cc)
bytes-agree (Some a ∷ ps) [] m true message e l h k = absurd (cc)
bytes-agree (Some a ∷ ps) [] m false message e l h k = absurd (cc)
bytes-agree (p ∷ ps) (q ∷ qs) m n [] e l h k = absurd (omega (arith, l))
bytes-agree (None ∷ ps) (None ∷ qs) m n (x ∷ message) e l h k = bytes-agree ps qs m n message e (omega (arith, l)) h k
bytes-agree (None ∷ ps) (Some b ∷ qs) m n (x ∷ message) e l h k = absurd (cc)
bytes-agree (Some a ∷ ps) (None ∷ qs) m n (x ∷ message) e l h k = absurd (cc)
bytes-agree (Some a ∷ ps) (Some b ∷ qs) m n (x ∷ message) e l h k =
    let f = both (a == x) _ h in
    let g = both (b == x) _ k in
    let same : (a == b) ≡ true = eq-eqb a b (eqb-true a x f.0 ∙ sym (eqb-true b x g.0)) in
    rw same (bytes-agree ps qs m n message e (omega (arith, l)) f.1 g.1)

ends-agree : (ps qs : List (Option ℕ)) (m n : Bool) → cmp-ranks ps m qs n ≡ Equal → cond m n (not n) ≡ true
ends-agree [] [] true true e = refl
ends-agree [] [] true false e = absurd (cc)
ends-agree [] [] false true e = absurd (cc)
ends-agree [] [] false false e = refl
ends-agree [] (None ∷ qs) true n e = absurd (cc)
ends-agree [] (None ∷ qs) false n e = absurd (cc)
ends-agree [] (Some b ∷ qs) true n e = absurd (cc)
ends-agree [] (Some b ∷ qs) false n e = absurd (cc)
ends-agree (None ∷ ps) [] m true e = absurd (cc)
ends-agree (None ∷ ps) [] m false e = absurd (cc)
ends-agree (Some a ∷ ps) [] m true e = absurd (cc)
ends-agree (Some a ∷ ps) [] m false e = absurd (cc)
ends-agree (None ∷ ps) (None ∷ qs) m n e = ends-agree ps qs m n e
ends-agree (None ∷ ps) (Some b ∷ qs) m n e = absurd (cc)
ends-agree (Some a ∷ ps) (None ∷ qs) m n e = absurd (cc)
ends-agree (Some a ∷ ps) (Some b ∷ qs) m n e = ends-agree ps qs m n e

long-by : (more : Bool) (bytes : List (Option ℕ)) (n : ℕ) → has_length (record { bytes = bytes; more = more }) n ≡ true → length bytes ≤ n
long-by true bytes n h = grind (arith, common_steps)
long-by false bytes n h = grind (arith, common_steps)

patterns-agree : (p q : Pattern) (message : List ℕ) → slice_cmp nat_cmp (ranks p) (ranks q) ≡ Equal → fits p message ≡ true → fits q message ≡ true → same_pattern p q ≡ true
patterns-agree p q message e h k =
    let f = both (has_length p (length message)) _ h in
    let g = both (has_length q (length message)) _ k in
    rw (ends-agree p.bytes q.bytes p.more q.more e, bytes-agree p.bytes q.bytes p.more q.more message e (long-by p.more p.bytes (length message) f.0) f.1 g.1) refl

states-agree : (s t : Option (List ℕ)) (state : List ℕ) (xs ys : List ℕ) → slice_cmp nat_cmp (state_rank s ∷ xs) (state_rank t ∷ ys) ≡ Equal
    → is_for_state s state ≡ true → is_for_state t state ≡ true → (same_state s t ≡ true) × (slice_cmp nat_cmp xs ys ≡ Equal)
states-agree None None state xs ys e h k = (refl, e)
states-agree None (Some b) state xs ys e h k = absurd (cc)
states-agree (Some a) None state xs ys e h k = absurd (cc)
states-agree (Some a) (Some b) state xs ys e h k =
    ((bytes_eq-Decides a b).1 ((bytes_eq-Decides a state).0 h ∙ sym ((bytes_eq-Decides b state).0 k)), e)

-- the parts of what a rule is for
pub record Matches (w : When) (node : ℕ) (state message : List ℕ) : Type 0 where
  pub node_is : (w.node == node) ≡ true
  pub state_is : is_for_state w.state state ≡ true
  pub fits_it : fits w.pattern message ≡ true

matched : (w : When) (node : ℕ) (state message : List ℕ) → is_rule_for node state message w ≡ true → Matches w node state message
matched w node state message h =
    let f = both (w.node == node && is_for_state w.state state) _ h in
    let g = both (w.node == node) _ f.0 in
    record { node_is = g.0; state_is = g.1; fits_it = f.1 }

level-same : (v w : When) (node : ℕ) (state message : List ℕ) → Matches v node state message → Matches w node state message → slice_cmp nat_cmp (rank v) (rank w) ≡ Equal
    → same_rule v w ≡ true
level-same v w node state message f g e =
    let at = states-agree w.state v.state state (ranks w.pattern) (ranks v.pattern) (turned (rank v) (rank w) Equal e) g.state_is f.state_is in
    let nodes : (w.node == v.node) ≡ true = eq-eqb w.node v.node (eqb-true w.node node g.node_is ∙ sym (eqb-true v.node node f.node_is)) in
    rw (nodes, at.0, patterns-agree w.pattern v.pattern message at.1 g.fits_it f.fits_it) refl

-- ---- two of distinct rules that are for the same are one
byte-is : (x y : Option ℕ) → same_byte x y ≡ true → x ≡ y
byte-is None None h = refl
byte-is None (Some b) h = absurd (cc)
byte-is (Some a) None h = absurd (cc)
byte-is (Some a) (Some b) h = ap Some (eqb-true a b h)

bytes-are : (xs ys : List (Option ℕ)) → pointwise same_byte xs ys ≡ true → xs ≡ ys
bytes-are [] [] h = refl
bytes-are [] (y ∷ ys) h = absurd (cc)
bytes-are (x ∷ xs) [] h = absurd (cc)
bytes-are (x ∷ xs) (y ∷ ys) h =
    let f = both (same_byte x y) _ h in
    ap (λ z. z ∷ xs) (byte-is x y f.0) ∙ ap (λ l. y ∷ l) (bytes-are xs ys f.1)

more-is : (m n : Bool) → cond m n (not n) ≡ true → m ≡ n
more-is true true h = refl
more-is true false h = absurd (cc)
more-is false true h = absurd (cc)
more-is false false h = refl

pattern-is : (p q : Pattern) → same_pattern p q ≡ true → p ≡ q
pattern-is p q h =
    let f = both (cond p.more q.more (not q.more)) _ h in
    ap (λ bytes. record { bytes = bytes; more = p.more }) (bytes-are p.bytes q.bytes f.1) ∙ ap (λ more. record { bytes = q.bytes; more = more }) (more-is p.more q.more f.0)

state-is : (s t : Option (List ℕ)) → same_state s t ≡ true → s ≡ t
state-is None None h = refl
state-is None (Some b) h = absurd (cc)
state-is (Some a) None h = absurd (cc)
state-is (Some a) (Some b) h = ap Some ((bytes_eq-Decides a b).0 h)

-- a test whether a rule is for this node, state and pattern
abbrev is-for : ℕ → Option (List ℕ) → Pattern → When → Bool
is-for node state pattern v = v.node == node && same_state v.state state && same_pattern v.pattern pattern

same-test : (w v : When) → same_rule w v ≡ true → (u : When) → same_rule w u ≡ same_rule v u
same-test w v h u =
    let f = both (v.node == w.node && same_state v.state w.state) _ h in
    let g = both (v.node == w.node) _ f.0 in
    ap (λ n. is-for n w.state w.pattern u) (sym (eqb-true v.node w.node g.0))
    ∙ ap (λ s. is-for v.node s w.pattern u) (sym (state-is v.state w.state g.1))
    ∙ ap (λ p. is-for v.node v.state p u) (sym (pattern-is v.pattern w.pattern f.1))

pattern-same : (xs : List (Option ℕ)) → pointwise same_byte xs xs ≡ true
pattern-same [] = refl
pattern-same (None ∷ xs) = pattern-same xs
pattern-same (Some b ∷ xs) = rw (eq-eqb b b refl) (pattern-same xs)

more-same : (m : Bool) → cond m m (not m) ≡ true
more-same true = refl
more-same false = refl

state-same : (s : Option (List ℕ)) → same_state s s ≡ true
state-same None = refl
state-same (Some a) = (bytes_eq-Decides a a).1 refl

rule-same : (w : When) → same_rule w w ≡ true
rule-same w = rw (eq-eqb w.node w.node refl, state-same w.state, more-same w.pattern.more, pattern-same w.pattern.bytes) refl

turned-same : (w v : When) → same_rule w v ≡ true → same_rule v w ≡ true
turned-same w v h = sym (same-test w v h w) ∙ rule-same w

turned-other-by : (w v : When) (b : Bool) → same_rule v w ≡ b → same_rule w v ≡ false → b ≡ false
turned-other-by w v true e h = let no : true ≡ false = sym (turned-same v w e) ∙ h in absurd (cc)
turned-other-by w v false e h = refl

turned-other : (w v : When) → same_rule w v ≡ false → same_rule v w ≡ false
turned-other w v h = turned-other-by w v (same_rule v w) refl h

none-same : (p : When → Bool) (ws : List When) (v : When) → list_any p ws ≡ false → IsOneOf ws v → p v ≡ false
none-same p [] v h i = absurd i
none-same p (w ∷ ws) v h (inl e) = ap p (sym e) ∙ (neither (p w) (list_any p ws) h).0
none-same p (w ∷ ws) v h (inr k) = none-same p ws v (neither (p w) (list_any p ws) h).1 k

unique : (ws : List When) (a b : When) → AreDistinct ws → IsOneOf ws a → IsOneOf ws b → same_rule a b ≡ true → a ≡ b
unique [] a b d i j h = absurd i
unique (w ∷ ws) a b d (inl p) (inl q) h = sym p ∙ q
unique (w ∷ ws) a b d (inl p) (inr k) h =
    let no : true ≡ false = sym h ∙ ap (λ v. same_rule v b) (sym p) ∙ none-same (same_rule w) ws b d.0 k in absurd (cc)
unique (w ∷ ws) a b d (inr k) (inl q) h =
    let no : true ≡ false = sym (turned-same a b h) ∙ ap (λ v. same_rule v a) (sym q) ∙ none-same (same_rule w) ws a d.0 k in absurd (cc)
unique (w ∷ ws) a b d (inr k) (inr l) h = unique ws a b d.1 k l h

-- ---- the laws
order-by : (ws vs : List When) (node : ℕ) (state message : List ℕ) (a b : Option When) → AreDistinct ws
    → ((w : When) → IsOneOf ws w → IsOneOf vs w) → ((w : When) → IsOneOf vs w → IsOneOf ws w)
    → rule_for ws node state message ≡ a → rule_for vs node state message ≡ b → a ≡ b
order-by ws vs node state message None None d f g e h = refl
order-by ws vs node state message None (Some b) d f g e h =
    let p = is_rule_for node state message in
    let there = picked p vs b (best-is (filter p vs) b h).among in
    absurd (none-left (filter p ws) e b (picks p ws b (g b there.0) there.1))
order-by ws vs node state message (Some a) None d f g e h =
    let p = is_rule_for node state message in
    let there = picked p ws a (best-is (filter p ws) a e).among in
    absurd (none-left (filter p vs) h a (picks p vs a (f a there.0) there.1))
order-by ws vs node state message (Some a) (Some b) d f g e h =
    let p = is_rule_for node state message in
    let first = best-is (filter p ws) a e in
    let other = best-is (filter p vs) b h in
    let here = picked p ws a first.among in
    let there = picked p vs b other.among in
    let level = level-by (rank a) (rank b) (slice_cmp nat_cmp (rank a) (rank b)) refl (first.best b (picks p ws b (g b there.0) there.1)) (other.best a (picks p vs a (f a here.0) here.1)) in
    ap Some
    (unique ws a b d here.0 (g b there.0) (level-same a b node state message (matched a node state message here.1) (matched b node state message there.1) level))

pub order-free : OrderOfRules
order-free ws vs node state message d f g = order-by ws vs node state message (rule_for ws node state message) (rule_for vs node state message) d f g refl refl

none-with-by : (p : When → Bool) (v : When) (vs : List When) (w : When) (b : Bool) → same_rule w v ≡ b → list_any p (v ∷ vs) ≡ false → p w ≡ false
    → list_any p (whens_with vs w) ≡ false → list_any p (cond b (w ∷ vs) (v ∷ whens_with vs w)) ≡ false
none-with-by p v vs w true e h k more = rw (k, (neither (p v) (list_any p vs) h).1) refl
none-with-by p v vs w false e h k more = rw ((neither (p v) (list_any p vs) h).0, more) refl

none-with : (p : When → Bool) (vs : List When) (w : When) → list_any p vs ≡ false → p w ≡ false → list_any p (whens_with vs w) ≡ false
none-with p [] w h k = rw k refl
none-with p (v ∷ vs) w h k = none-with-by p v vs w (same_rule w v) refl h k (none-with p vs w (neither (p v) (list_any p vs) h).1 k)

any-same : (p q : When → Bool) (vs : List When) → ((u : When) → p u ≡ q u) → list_any p vs ≡ list_any q vs
any-same p q [] h = refl
any-same p q (v ∷ vs) h = ap (λ b. b || list_any p vs) (h v) ∙ ap (λ b. q v || b) (any-same p q vs h)

distinct-by : (v : When) (vs : List When) (w : When) (b : Bool) → same_rule w v ≡ b → AreDistinct (v ∷ vs) → AreDistinct (whens_with vs w)
    → AreDistinct (cond b (w ∷ vs) (v ∷ whens_with vs w))
distinct-by v vs w true e d more = (any-same (same_rule w) (same_rule v) vs (same-test w v e) ∙ d.0, d.1)
distinct-by v vs w false e d more = (none-with (same_rule v) vs w d.0 (turned-other w v e), more)

pub distinct-kept : KeepsDistinct
distinct-kept [] w d = (refl, tt)
distinct-kept (v ∷ vs) w d = distinct-by v vs w (same_rule w v) refl d (distinct-kept vs w d.1)

abbrev first-of : List When → Option When
first-of [] = None
first-of (z ∷ zs) = Some z

first-by : (p : When → Bool) (y : When) (ys : List When) (x : When) (b : Bool) → p y ≡ b → (filter p ys ≡ x ∷ [] → find p ys ≡ Some x)
    → cond b (y ∷ filter p ys) (filter p ys) ≡ x ∷ [] → cond b (Some y) (find p ys) ≡ Some x
first-by p y ys x true e more h = ap first-of h
first-by p y ys x false e more h = more h

first-found : (p : When → Bool) (ys : List When) (x : When) → filter p ys ≡ x ∷ [] → find p ys ≡ Some x
first-found p [] x h = absurd (cc)
first-found p (y ∷ ys) x h = first-by p y ys x (p y) refl (first-found p ys x) h

pub as-before : OldScripts
as-before ws w node state message h = ap most_specific h ∙ sym (first-found (is_rule_for node state message) ws w h)
