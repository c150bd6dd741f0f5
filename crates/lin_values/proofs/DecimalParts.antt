-- The decimals of the parts of an encoding, part by part.
use Rattle.std.proofs.Common.{◌≡◌, ℕ, ◌+◌, ◌<◌, ◌≤◌, ◌^◌, ap, sym, ◌∙◌, arith, refl, Bool, true, false, nat_le, nat_lt, min, max, subst, List, [], ◌∷◌, length, take, get_or, cond}
use Rattle.std.specs.Prelude.{ℤ, Option, Some, None, option_and_then, if◌then◌else◌}
use Rattle.std.specs.Option.{option_map, option_or}
use Rattle.std.proofs.lemmas.Grind.{common_steps}
use Rattle.std.proofs.lemmas.List.{take_all, take_more, length-take-le, get_or-take, get_or_default}
use Rattle.lin_values.specs.Coded.{item_by, item_for, range_in, range_of, RangeData}
use Rattle.lin_values.specs.Layers.{common_span, in_span, item_in, AreInOrder}
use Rattle.lin_values.specs.Nearest.{item_decimal, numbered_decimal, parts_decimal, range_decimal, range_value, raw_decimal, IsAmong, IsExtended, IsLeast, IsNearer}
use Rattle.lin_values.specs.Raws.{has_unit}
use Rattle.lin_values.specs.Warnings.{greatest_raw}
use Rattle.lin_values.specs.declared.encoding.Range.{Range}
use Rattle.lin_values.specs.declared.codings.Item.{Item}
use Rattle.lin_values.specs.declared.codings.PlacedItem.{PlacedItem}
use Rattle.lin_values.specs.declared.layers.RangePart.{RangePart}
use Rattle.lin_values.specs.declared.layers.Span.{Span}
use Rattle.std.proofs.Math.Nat.{pow-le-pow_right}
use Rattle.lin_values.proofs.Layered.{item-append}
use Rattle.lin_values.proofs.PartsInOrder.{no-item}

-- ---- the same decimals

among-same : (f g : ℕ → Option ℕ) (b : Option (ℕ × ℕ)) → ((n : ℕ) → f n ≡ g n) → IsAmong f b → IsAmong g b
among-same f g None h a = tt
among-same f g (Some p) h a = sym (h p.0) ∙ a

pub least-same : (f g : ℕ → Option ℕ) (b : Option (ℕ × ℕ)) → ((n : ℕ) → f n ≡ g n) → IsLeast f b → IsLeast g b
least-same f g b h l = record { among = among-same f g b h l.among; least = λ n d e. l.least n d (h n ∙ e) }

none-some : (o : Option ℕ) (d : ℕ) → o ≡ None → o ≡ Some d → ⊥
none-some None d e f = cc
none-some (Some x) d e f = cc

pub least-none : (f : ℕ → Option ℕ) → ((n : ℕ) → f n ≡ None) → IsLeast f None
least-none f h = record { among = tt; least = λ n d e. none-some (f n) d (h n) e }

-- ---- a part that has none of these

outside-before : (s : Span) (n : ℕ) → n < s.from → in_span s n ≡ false
outside-before s n h = grind (arith, common_steps)

inside-from : (s : Span) (n : ℕ) → in_span s n ≡ true → s.from ≤ n
inside-from s n h = grind (arith, common_steps)

among-outside : (s : Span) (h f g : ℕ → Option ℕ) (b : Option (ℕ × ℕ)) → IsExtended s h f g → IsAmong f b → IsAmong g b
among-outside s h f g None x a = tt
among-outside s h f g (Some p) x a = x.outside p.0 (outside-before s p.0 (x.before p.0 p.1 a)) ∙ a

least-outside : (s : Span) (h f g : ℕ → Option ℕ) (b : Option (ℕ × ℕ)) → ((n : ℕ) → in_span s n ≡ true → h n ≡ None) → IsExtended s h f g → IsLeast f b
    → (n d : ℕ) (t : Bool) → in_span s n ≡ t → g n ≡ Some d → IsNearer b n d
least-outside s h f g b none x l n d true e k = absurd (none-some (g n) d (x.inside n e ∙ none n e) k)
least-outside s h f g b none x l n d false e k = l.least n d (sym (x.outside n e) ∙ k)

pub nothing-added : (s : Span) (h f g : ℕ → Option ℕ) (b : Option (ℕ × ℕ)) → ((n : ℕ) → in_span s n ≡ true → h n ≡ None) → IsExtended s h f g → IsLeast f b → IsLeast g b
nothing-added s h f g b none x l =
    record { among = among-outside s h f g b x l.among; least = λ n d e. least-outside s h f g b none x l n d (in_span s n) refl e }

-- ---- a smaller span, outside of which the part has none of these

old-none : (s : Span) (f : ℕ → Option ℕ) (n : ℕ) (o : Option ℕ) → f n ≡ o → ((n d : ℕ) → f n ≡ Some d → n < s.from) → in_span s n ≡ true → f n ≡ None
old-none s f n None e h i = e
old-none s f n (Some d) e h i = let a : n < s.from = h n d e in let b : s.from ≤ n = inside-from s n i in absurd (omega arith)

pub smaller : (s t : Span) (h k f g : ℕ → Option ℕ) → s.from ≤ t.from
    → ((n : ℕ) → in_span t n ≡ true → in_span s n ≡ true)
    → ((n : ℕ) → in_span t n ≡ true → h n ≡ k n)
    → ((n : ℕ) → in_span s n ≡ true → in_span t n ≡ false → h n ≡ None)
    → IsExtended s h f g → IsExtended t k f g
smaller s t h k f g le sub same none x = record {
  inside = λ n i. x.inside n (sub n i) ∙ same n i;
  outside = λ n i. elim (in_span s n) as (λ b. in_span s n ≡ b → g n ≡ f n) [
    | true ↦ λ e. x.inside n e ∙ none n e i ∙ sym (old-none s f n (f n) refl x.before e)
    | false ↦ λ e. x.outside n e
  ] refl;
  before = λ n d e. let a : n < s.from = x.before n d e in omega arith;
}

-- ---- one part more

passed : (s : Span) (n m : ℕ) → s.to < m → m ≤ n → in_span s n ≡ false
passed s n m h i = grind (arith, common_steps)

none-before : (ps : List RangePart) (i n : ℕ) (e : RangePart) → AreInOrder ps → i < length ps → (get_or ps i e).span.from ≤ n → item_in (take i ps) n ≡ None
none-before ps i n e o l h = no-item n (take i ps) (λ k d lt.
    let j : k < i = (let m = length-take-le i ps (omega arith) in omega arith) in
    let f : (get_or ps k d).span.to < (get_or ps i d).span.from = o.1 k i d j l in
    let g : (get_or ps i d).span.from ≤ n = subst (λ (p : RangePart). p.span.from ≤ n) (get_or_default ps i e d l) h in
    subst (λ (p : RangePart). in_span p.span n ≡ false) (sym (get_or-take i ps k d j)) (passed (get_or ps k d).span n (get_or ps i d).span.from f g))

one-inside : (p : RangePart) (n : ℕ) → in_span p.span n ≡ true → item_in (p ∷ []) n ≡ Some p.item
one-inside p n e = ap (λ b. option_map (λ (q : RangePart). q.item) (cond b (Some p) None)) e

one-outside : (p : RangePart) (n : ℕ) → in_span p.span n ≡ false → item_in (p ∷ []) n ≡ None
one-outside p n e = ap (λ b. option_map (λ (q : RangePart). q.item) (cond b (Some p) None)) e

or-none : (o : Option ℕ) → option_or o None ≡ o
or-none None = refl
or-none (Some x) = refl

more : (ps : List RangePart) (i n : ℕ) (e : RangePart) → i < length ps → item_in (take (i + 1) ps) n ≡ option_or (item_in (take i ps) n) (item_in (get_or ps i e ∷ []) n)
more ps i n e l = ap (λ (qs : List RangePart). item_in qs n) (take_more ps i e l) ∙ item-append n (take i ps) (get_or ps i e ∷ [])

by-test-none : (t : Bool) (F : ℤ → Option ℕ) (o : Option ℤ) → o ≡ None → option_and_then F (if t then o else None) ≡ None
by-test-none true F o e = ap (option_and_then F) e
by-test-none false F o e = refl

before-by : (n m : ℕ) (t : Bool) → nat_lt n m ≡ t → (m ≤ n → ⊥) → n < m
before-by n m true e h = grind (arith, common_steps)
before-by n m false e h = absurd (h (grind (arith, common_steps)))

abbrev pub side_decimal : (ℤ → Option ℕ) → List PlacedItem → ℕ → List ℕ → Option ℕ → ℕ → Option ℕ
side_decimal F items bits unit k n = option_and_then F (numbered_decimal items bits unit k n)

pub one-more : (F : ℤ → Option ℕ) (items : List PlacedItem) (bits : ℕ) (unit : List ℕ) (ps : List RangePart) (i : ℕ) (e : RangePart) → AreInOrder ps → i < length ps
    → IsExtended (get_or ps i e).span (λ n. side_decimal F items bits unit (Some (get_or ps i e).item) n)
    (λ n. side_decimal F items bits unit (item_in (take i ps) n) n)
    (λ n. side_decimal F items bits unit (item_in (take (i + 1) ps) n) n)
one-more F items bits unit ps i e o l = record {
  inside = λ n h. ap (λ k. side_decimal F items bits unit k n)
      (more ps i n e l ∙ ap (λ k. option_or k (item_in (get_or ps i e ∷ []) n)) (none-before ps i n e o l (inside-from (get_or ps i e).span n h))
      ∙ one-inside (get_or ps i e) n h);
  outside = λ n h. ap (λ k. side_decimal F items bits unit k n)
      (more ps i n e l ∙ ap (option_or (item_in (take i ps) n)) (one-outside (get_or ps i e) n h) ∙ or-none (item_in (take i ps) n));
  before = λ n d h. before-by n (get_or ps i e).span.from (nat_lt n (get_or ps i e).span.from) refl
      (λ j. none-some (side_decimal F items bits unit (item_in (take i ps) n) n) d
      (ap (λ k. side_decimal F items bits unit k n) (none-before ps i n e o l j) ∙ by-test-none (nat_le n (greatest_raw bits)) F None refl) h);
}

-- ---- what a part adds

pub none-of-item : (F : ℤ → Option ℕ) (items : List PlacedItem) (bits : ℕ) (unit : List ℕ) (k n : ℕ) → item_by items k ≡ None → side_decimal F items bits unit (Some k) n ≡ None
none-of-item F items bits unit k n e = by-test-none (nat_le n (greatest_raw bits)) F (option_and_then (item_decimal unit n) (item_by items k)) (ap (option_and_then (item_decimal unit n)) e)

pub none-of-range : (F : ℤ → Option ℕ) (items : List PlacedItem) (bits : ℕ) (unit : List ℕ) (k n : ℕ) (i : Item) → item_by items k ≡ Some i → range_in i ≡ None
    → side_decimal F items bits unit (Some k) n ≡ None
none-of-range F items bits unit k n i e f =
    by-test-none (nat_le n (greatest_raw bits)) F (option_and_then (item_decimal unit n) (item_by items k))
    (ap (option_and_then (item_decimal unit n)) e ∙ ap (option_and_then (range_decimal unit n)) f)

range-is : (items : List PlacedItem) (unit : List ℕ) (k n : ℕ) (i : Item) (r : RangeData) → item_by items k ≡ Some i → range_in i ≡ Some r
    → option_and_then (item_decimal unit n) (item_by items k) ≡ range_decimal unit n r
range-is items unit k n i r e f = ap (option_and_then (item_decimal unit n)) e ∙ ap (option_and_then (range_decimal unit n)) f

pub none-of-unit : (F : ℤ → Option ℕ) (items : List PlacedItem) (bits : ℕ) (unit : List ℕ) (k n : ℕ) (i : Item) (r : Range) → item_by items k ≡ Some i → range_in i ≡ Some (range_of r)
    → has_unit unit r.unit.now ≡ false → side_decimal F items bits unit (Some k) n ≡ None
none-of-unit F items bits unit k n i r e f u =
    by-test-none (nat_le n (greatest_raw bits)) F (option_and_then (item_decimal unit n) (item_by items k))
    (range-is items unit k n i (range_of r) e f ∙ ap (λ t. if t then Some (range_value r n) else None) u)

pub none-above : (F : ℤ → Option ℕ) (items : List PlacedItem) (bits : ℕ) (unit : List ℕ) (k : Option ℕ) (n : ℕ) → nat_le n (greatest_raw bits) ≡ false
    → side_decimal F items bits unit k n ≡ None
none-above F items bits unit k n e = ap (λ t. option_and_then F (if t then option_and_then (item_decimal unit n) (option_and_then (item_by items) k) else None)) e

pub some-of-range : (F : ℤ → Option ℕ) (items : List PlacedItem) (bits : ℕ) (unit : List ℕ) (k n : ℕ) (i : Item) (r : Range) → item_by items k ≡ Some i → range_in i ≡ Some (range_of r)
    → has_unit unit r.unit.now ≡ true → nat_le n (greatest_raw bits) ≡ true → side_decimal F items bits unit (Some k) n ≡ F (range_value r n)
some-of-range F items bits unit k n i r e f u m =
    ap (λ t. option_and_then F (if t then option_and_then (item_decimal unit n) (item_by items k) else None)) m
    ∙ ap (option_and_then F) (range-is items unit k n i (range_of r) e f ∙ ap (λ t. if t then Some (range_value r n) else None) u)

abbrev pub up_to : ℕ → Span
up_to m = record { from = 0; to = m }

abbrev from_or : ℕ → Option Span → ℕ
from_or d None = d
from_or d (Some s) = s.from

abbrev to_or : ℕ → Option Span → ℕ
to_or d None = d
to_or d (Some s) = s.to

common-by : (s : Span) (m : ℕ) (t : Span) (b : Bool) → nat_le (max s.from 0) (min s.to m) ≡ b
    → (if b then Some (record { from = max s.from 0; to = min s.to m }) else None) ≡ Some t
    → (t.from ≡ max s.from 0) × (t.to ≡ min s.to m) × (t.from ≤ t.to)
common-by s m t true e f =
    let g : max s.from 0 ≤ min s.to m = grind (arith, common_steps) in
    let a : max s.from 0 ≡ t.from = ap (from_or 0) f in
    let b : min s.to m ≡ t.to = ap (to_or 0) f in
    (sym a, sym b, omega (arith, a, b, g))
common-by s m t false e f = cc

pub common-some : (s : Span) (m : ℕ) (t : Span) → common_span s (up_to m) ≡ Some t → (t.from ≡ max s.from 0) × (t.to ≡ min s.to m) × (t.from ≤ t.to)
common-some s m t e = common-by s m t (nat_le (max s.from 0) (min s.to m)) refl e

none-common-by : (s t : Span) (m n : ℕ) (b : Bool) → nat_le (max s.from 0) (min s.to m) ≡ b → (if b then Some t else None) ≡ None → in_span s n ≡ true → nat_le n m ≡ false
none-common-by s t m n true e f i = cc
none-common-by s t m n false e f i = grind (arith, common_steps)

-- no number of a span is up to one, if they have none in common
pub none-common : (s : Span) (m n : ℕ) → common_span s (up_to m) ≡ None → in_span s n ≡ true → nat_le n m ≡ false
none-common s m n e i = none-common-by s (record { from = max s.from 0; to = min s.to m }) m n (nat_le (max s.from 0) (min s.to m)) refl e i

sub-by : (s t : Span) (m n : ℕ) → t.from ≡ max s.from 0 → t.to ≡ min s.to m → in_span t n ≡ true → (in_span s n ≡ true) × (nat_le n m ≡ true)
sub-by s t m n e f i =
    let a : t.from ≤ n = inside-from t n i in
    let b : n ≤ t.to = grind (arith, common_steps) in
    let p : s.from ≤ n = omega (arith, a, e) in
    let q : n ≤ s.to = omega (arith, b, f) in
    let r : n ≤ m = omega (arith, b, f) in
    (grind (arith, common_steps), grind (arith, common_steps))

above-by : (s t : Span) (m n : ℕ) → t.from ≡ max s.from 0 → t.to ≡ min s.to m → in_span s n ≡ true → in_span t n ≡ false → nat_le n m ≡ false
above-by s t m n e f i j = grind (arith, common_steps)

pub extended-range : (F : ℤ → Option ℕ) (items : List PlacedItem) (bits : ℕ) (unit : List ℕ) (p : RangePart) (i : Item) (r : Range) (t : Span) (f g : ℕ → Option ℕ)
    → item_by items p.item ≡ Some i → range_in i ≡ Some (range_of r) → has_unit unit r.unit.now ≡ true
    → common_span p.span (up_to (greatest_raw bits)) ≡ Some t
    → IsExtended p.span (λ n. side_decimal F items bits unit (Some p.item) n) f g → IsExtended t (λ n. F (range_value r n)) f g
extended-range F items bits unit p i r t f g ei er u ec x =
    let a = common-some p.span (greatest_raw bits) t ec in
    let le : p.span.from ≤ t.from = (let b = a.0 in omega arith) in
    smaller p.span t (λ n. side_decimal F items bits unit (Some p.item) n) (λ n. F (range_value r n)) f g le
    (λ n h. (sub-by p.span t (greatest_raw bits) n a.0 a.1 h).0)
    (λ n h. some-of-range F items bits unit p.item n i r ei er u ((sub-by p.span t (greatest_raw bits) n a.0 a.1 h).1))
    (λ n h j. none-above F items bits unit (Some p.item) n (above-by p.span t (greatest_raw bits) n a.0 a.1 h j))
    x

abbrev pub Adds : Span → (ℕ → Option ℕ) → Option (ℕ × ℕ) → Option (ℕ × ℕ) → Type 0
Adds s h old new = (f g : ℕ → Option ℕ) → IsExtended s h f g → IsLeast f old → IsLeast g new

pub range-step : (side : ℤ → ℤ → Option ℕ) (x x' : ℤ) (items : List PlacedItem) (bits : ℕ) (unit : List ℕ) (p : RangePart) (i : Item) (r : Range) (t : Span) (old new : Option (ℕ × ℕ))
    → x' ≡ x → item_by items p.item ≡ Some i → range_in i ≡ Some (range_of r) → has_unit unit r.unit.now ≡ true
    → common_span p.span (up_to (greatest_raw bits)) ≡ Some t
    → Adds t (λ n. side x' (range_value r n)) old new
    → Adds p.span (λ n. option_and_then (side x) (numbered_decimal items bits unit (Some p.item) n)) old new
range-step side x x' items bits unit p i r t old new ex ei er u ec adds = λ f g e l.
    subst (λ (z : ℤ). Adds t (λ n. side z (range_value r n)) old new) ex adds f g
    (extended-range (side x) items bits unit p i r t f g ei er u ec e) l

pub part-step : (side : ℤ → ℤ → Option ℕ) (x x' : ℤ) (items : List PlacedItem) (bits : ℕ) (unit : List ℕ) (ps : List RangePart) (i : ℕ) (e : RangePart) (old new : Option (ℕ × ℕ))
    → x' ≡ x → AreInOrder ps → i < length ps
    → Adds (get_or ps i e).span (λ n. option_and_then (side x') (numbered_decimal items bits unit (Some (get_or ps i e).item) n)) old new
    → IsLeast (λ n. option_and_then (side x) (parts_decimal items bits unit (take i ps) n)) old
    → IsLeast (λ n. option_and_then (side x) (parts_decimal items bits unit (take (i + 1) ps) n)) new
part-step side x x' items bits unit ps i e old new ex o lt adds l =
    subst (λ (z : ℤ). Adds (get_or ps i e).span (λ n. option_and_then (side z) (numbered_decimal items bits unit (Some (get_or ps i e).item) n)) old new) ex adds
    (λ n. side_decimal (side x) items bits unit (item_in (take i ps) n) n)
    (λ n. side_decimal (side x) items bits unit (item_in (take (i + 1) ps) n) n)
    (one-more (side x) items bits unit ps i e o lt) l

le-of : (n m : ℕ) → nat_le n m ≡ true → n ≤ m
le-of n m h = grind (arith, common_steps)

most-below : (bits : ℕ) → greatest_raw bits < 65536
most-below bits = let i : min bits 16 ≤ 16 = omega arith in let h : 2 ^ (min bits 16) ≤ 2 ^ 16 = pow-le-pow_right (let j : 1 ≤ 2 = omega arith in j) i in omega (arith, h)

by-found : (items : List PlacedItem) (unit : List ℕ) (n : ℕ) (o : Option ℕ) (t : Bool) → (t ≡ true → option_and_then (item_by items) o ≡ item_for items n)
    → (if t then option_and_then (item_decimal unit n) (option_and_then (item_by items) o) else None) ≡ (if t then option_and_then (item_decimal unit n) (item_for items n) else None)
by-found items unit n o true h = ap (option_and_then (item_decimal unit n)) (h refl)
by-found items unit n o false h = refl

pub all-parts : (F : ℤ → Option ℕ) (items : List PlacedItem) (bits : ℕ) (unit : List ℕ) (ps : List RangePart) (i : ℕ) (b : Option (ℕ × ℕ))
    → length ps ≤ i → ((raw : ℕ) → raw < 65536 → option_and_then (item_by items) (item_in ps raw) ≡ item_for items raw)
    → IsLeast (λ n. option_and_then F (parts_decimal items bits unit (take i ps) n)) b → IsLeast (λ n. option_and_then F (raw_decimal items bits unit n)) b
all-parts F items bits unit ps i b le found l =
    least-same (λ n. option_and_then F (parts_decimal items bits unit (take i ps) n)) (λ n. option_and_then F (raw_decimal items bits unit n)) b
    (λ n. ap (λ qs. option_and_then F (parts_decimal items bits unit qs n)) (take_all i ps le)
    ∙ ap (option_and_then F) (by-found items unit n (item_in ps n) (nat_le n (greatest_raw bits))
    (λ t. found n (let k : n ≤ greatest_raw bits = le-of n (greatest_raw bits) t in omega (arith, k, most-below bits))))) l
