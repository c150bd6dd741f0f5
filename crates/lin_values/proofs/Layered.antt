-- Spans in order and the parts that have their numbers.
use Rattle.std.proofs.Common.{◌≡◌, ◌<◌, ◌≤◌, ◌+◌, ◌-◌, ℕ, Bool, true, false, cond, not, ◌&&◌, ◌||◌, List, [], ◌∷◌, ◌++◌, length, refl, sym, subst, ap, ◌∙◌, inl, inr, arith}
use Rattle.std.specs.Prelude.{Option, Some, None, find, is_some, nat_le, nat_lt, max, All, AllPairs, slice_index_or}
use Rattle.std.specs.List.{list_any, range_with_len}
use Rattle.std.specs.Option.{option_map, option_or}
use Rattle.std.proofs.lemmas.Bool.{cases_lt, or_parts, or_left, and_from, le-leb, lt-leb}
use Rattle.std.proofs.lemmas.Bool.Decides.{nat_tests}
use Rattle.std.proofs.lemmas.List.Elements.{All-cons, All-head, All-tail, All-append, All-weaker}
use Rattle.std.proofs.lemmas.List.Folds.{list_any-append, list_any_none, list_any_at, find-append}
use Rattle.std.proofs.lemmas.List.FromFn.{get_or-range_with_len, length-range_with_len}
use Rattle.lin_parts.proofs.Pairs.{all-front, all-back, pairs-append, pairs-back, pairs-cross, pairs-front}
use Rattle.lin_values.proofs.JoinedSpans.{any_span, any_part, times, none-above, none-below, above-all, gaps-have, gaps-once, gaps-are, joined-has, joined-apart, joined-low, joined-full, joined-rest, joined-some, meets, once-more}
use Rattle.lin_values.specs.Joined.{gaps, joined_span}
use Rattle.lin_values.specs.Layers.{in_span, item_in, numbers_of, IsBefore, IsLayered}
use Rattle.lin_values.specs.declared.layers.RangePart.{RangePart}
use Rattle.lin_values.specs.declared.layers.Span.{Span}

-- ---- a range more

-- the spans before and behind, the range joined with those behind, and what it has more
abbrev pub spans_more : List Span → List Span → Span → List Span
spans_more front back s = front ++ (joined_span s s.to back).0 ∷ (joined_span s s.to back).1

abbrev pub parts_more : List RangePart → List Span → Span → ℕ → List RangePart
parts_more ps back s item = ps ++ gaps s.from s.to item back

part-of : (f b x y : Bool) → (f || ((x && y) || b)) ≡ ((f || b) || (x && (y && not b)))
part-of true true true true = refl
part-of true true true false = refl
part-of true true false true = refl
part-of true true false false = refl
part-of true false true true = refl
part-of true false true false = refl
part-of true false false true = refl
part-of true false false false = refl
part-of false true true true = refl
part-of false true true false = refl
part-of false true false true = refl
part-of false true false false = refl
part-of false false true true = refl
part-of false false true false = refl
part-of false false false true = refl
part-of false false false false = refl

-- what stands before and behind where a range is added
pub record IsBetween (front back : List Span) (ps : List RangePart) (s : Span) : Type 0 where
  pub layered : IsLayered (front ++ back) ps
  pub full : s.from ≤ s.to
  pub below : All (λ z. z.to < s.from) front
  pub above : All (λ z. s.from ≤ z.to) back

some-back : (front back : List Span) (ps : List RangePart) (s : Span) → IsBetween front back ps s → All (λ z. z.from ≤ z.to) back
some-back front back ps s is = all-back (λ z. z.from ≤ z.to) front back is.layered.some

next-back : (front back : List Span) (ps : List RangePart) (s : Span) → IsBetween front back ps s → All (λ z. s.from ≤ z.to + 1) back
next-back front back ps s is = All-weaker (λ z. s.from ≤ z.to) (λ z. s.from ≤ z.to + 1) (λ z h. omega arith) back is.above

up-back : (front back : List Span) (ps : List RangePart) (s : Span) → IsBetween front back ps s → AllPairs IsBefore back
up-back front back ps s is = pairs-back IsBefore front back is.layered.ordered

more-have : (n item : ℕ) (front back : List Span) (ps : List RangePart) (s : Span) → IsBetween front back ps s → any_part n (gaps s.from s.to item back) ≡ (nat_le s.from n && (nat_le n s.to && not (any_span n back)))
more-have n item front back ps s is = gaps-have n s.from s.to item back (some-back front back ps s is) (up-back front back ps s is) (next-back front back ps s is)

both-have : (n : ℕ) (front back : List Span) (ps : List RangePart) (s : Span) → IsBetween front back ps s → any_part n ps ≡ (any_span n front || any_span n back)
both-have n front back ps s is = sym (is.layered.same n) ∙ list_any-append (λ (z : Span). in_span z n) front back

same-more : (n item : ℕ) (front back : List Span) (ps : List RangePart) (s : Span) → IsBetween front back ps s → any_span n (spans_more front back s) ≡ any_part n (parts_more ps back s item)
same-more n item front back ps s is =
    list_any-append (λ (z : Span). in_span z n) front ((joined_span s s.to back).0 ∷ (joined_span s s.to back).1)
    ∙ ap (λ b. any_span n front || b) (joined-has n s s.to back (omega arith) is.above)
    ∙ part-of (any_span n front) (any_span n back) (nat_le s.from n) (nat_le n s.to)
    ∙ ap (λ b. b || (nat_le s.from n && (nat_le n s.to && not (any_span n back)))) (sym (both-have n front back ps s is))
    ∙ ap (λ b. any_part n ps || b) (sym (more-have n item front back ps s is))
    ∙ sym (list_any-append (λ (p : RangePart). in_span p.span n) ps (gaps s.from s.to item back))

-- a number between, which no span behind has
new-number : (x y b : Bool) → (x && (y && not b)) ≡ true → (x ≡ true) × (y ≡ true) × (b ≡ false)
new-number true true false e = (refl, refl, refl)
new-number true true true e = absurd (cc)
new-number true false b e = absurd (cc)
new-number false y b e = absurd (cc)

below-front : (n : ℕ) (front back : List Span) (ps : List RangePart) (s : Span) → IsBetween front back ps s → s.from ≤ n → any_span n front ≡ false
below-front n front back ps s is le = none-below n front (All-weaker (λ z. z.to < s.from) (λ z. z.to < n) (λ z h. omega arith) front is.below)

once-all : (n item : ℕ) (front back : List Span) (ps : List RangePart) (s : Span) → IsBetween front back ps s → times n (parts_more ps back s item) ≤ 1
once-all n item front back ps s is =
    once-more n ps (gaps s.from s.to item back) (is.layered.once n) (gaps-once n s.from s.to item back (some-back front back ps s is) (up-back front back ps s is) (next-back front back ps s is)) (λ has.
    let parts = new-number (nat_le s.from n) (nat_le n s.to) (any_span n back) (sym (more-have n item front back ps s is) ∙ has) in
    let low : s.from ≤ n = grind (arith, nat_tests) in
    both-have n front back ps s is ∙ ap (λ b. b || any_span n back) (below-front n front back ps s is low) ∙ parts.2)

crossed : (front back : List Span) (ps : List RangePart) (s : Span) → IsBetween front back ps s → All (λ x. All (IsBefore x) ((joined_span s s.to back).0 ∷ (joined_span s s.to back).1)) front
crossed front back ps s is k d lt =
    let x : Span = slice_index_or front k d in
    let low : x.to < s.from = is.below k d lt in
    let up : All (IsBefore x) back = pairs-cross IsBefore front back is.layered.ordered k d lt in
    All-cons (IsBefore x) (joined_span s s.to back).0 (joined_span s s.to back).1 (joined-low x.to s s.to back low up) (joined-rest (IsBefore x) s s.to back up)

pub layered-more : (item : ℕ) (front back : List Span) (ps : List RangePart) (s : Span) → IsBetween front back ps s → IsLayered (spans_more front back s) (parts_more ps back s item)
layered-more item front back ps s is =
    let Full : Span → Type 0 = λ z. z.from ≤ z.to in
    let j : Span × List Span = joined_span s s.to back in
    record {
      some = All-append Full front (j.0 ∷ j.1) (all-front Full front back is.layered.some) (All-cons Full j.0 j.1 (joined-full s s.to back is.full) (joined-rest Full s s.to back (some-back front back ps s is)));
      ordered = pairs-append IsBefore front (j.0 ∷ j.1) (pairs-front IsBefore front back is.layered.ordered)
          (joined-apart s s.to back (some-back front back ps s is) (up-back front back ps s is) (inl (omega arith)))
          (crossed front back ps s is);
      full = All-append (λ (p : RangePart). p.span.from ≤ p.span.to) ps (gaps s.from s.to item back) is.layered.full (gaps-are (λ (p : RangePart). p.span.from ≤ p.span.to) s.from s.to item back (λ a b h. omega arith));
      same = λ n. same-more n item front back ps s is;
      once = λ n. once-all n item front back ps s is;
    }

-- ---- the item that counts

is-found : (n : ℕ) (ps : List RangePart) → is_some (item_in ps n) ≡ any_part n ps
is-found n [] = refl
is-found n (p ∷ ps) =
    elim (in_span p.span n) as (λ b. is_some (option_map (λ (q : RangePart). q.item) (cond b (Some p) (find (λ (q : RangePart). in_span q.span n) ps))) ≡ (b || any_part n ps)) [
      | true ↦ refl
      | false ↦ is-found n ps
    ]

map-or : {A B : Type 0} (f : A → B) (a b : Option A) → option_map f (option_or a b) ≡ option_or (option_map f a) (option_map f b)
map-or f None b = refl
map-or f (Some x) b = refl

pub item-append : (n : ℕ) (ps qs : List RangePart) → item_in (ps ++ qs) n ≡ option_or (item_in ps n) (item_in qs n)
item-append n ps qs =
    ap (option_map (λ (p : RangePart). p.item)) (find-append (λ (p : RangePart). in_span p.span n) ps qs)
    ∙ map-or (λ (p : RangePart). p.item) (find (λ (p : RangePart). in_span p.span n) ps) (find (λ (p : RangePart). in_span p.span n) qs)

one-item : (n item : ℕ) (ps : List RangePart) → All (λ p. p.item ≡ item) ps → item_in ps n ≡ cond (any_part n ps) (Some item) None
one-item n item [] all = refl
one-item n item (p ∷ ps) all =
    let here : p.item ≡ item = All-head (λ (q : RangePart). q.item ≡ item) p ps all in
    elim (in_span p.span n) as (λ b. option_map (λ (q : RangePart). q.item) (cond b (Some p) (find (λ (q : RangePart). in_span q.span n) ps)) ≡ cond (b || any_part n ps) (Some item) None) [
      | true ↦ ap Some here
      | false ↦ one-item n item ps (All-tail (λ (q : RangePart). q.item ≡ item) p ps all)
    ]

or-else : {A : Type 0} (o a b : Option A) → (is_some o ≡ false → a ≡ b) → option_or o a ≡ option_or o b
or-else None a b same = same refl
or-else (Some x) a b same = refl

unmet-step : (x y b : Bool) → b ≡ false → (x && (y && not b)) ≡ (x && y)
unmet-step true true b e = ap not e
unmet-step true false b e = refl
unmet-step false y b e = refl

pub first-more : (n item : ℕ) (front back : List Span) (ps : List RangePart) (s : Span) → IsBetween front back ps s → item_in (parts_more ps back s item) n ≡ option_or (item_in ps n) (cond (in_span s n) (Some item) None)
first-more n item front back ps s is =
    item-append n ps (gaps s.from s.to item back)
    ∙ or-else (item_in ps n) (item_in (gaps s.from s.to item back) n) (cond (in_span s n) (Some item) None) (λ none.
    let both = or_parts (any_span n front) (any_span n back) (sym (both-have n front back ps s is) ∙ sym (is-found n ps) ∙ none) in
    one-item n item (gaps s.from s.to item back) (gaps-are (λ (p : RangePart). p.item ≡ item) s.from s.to item back (λ a b h. refl))
    ∙ ap (λ b. cond b (Some item) None) (more-have n item front back ps s is ∙ unmet-step (nat_le s.from n) (nat_le n s.to) (any_span n back) both.1))

-- ---- whether an earlier range has a number of it

pub range-any : (q : ℕ → Bool) (a k n : ℕ) → a ≤ n → n < a + k → q n ≡ true → list_any q (range_with_len a k) ≡ true
range-any q a k n low high is =
    let lt : n - a < k = omega arith in
    let e : a + (n - a) ≡ n = omega arith in
    list_any_at q (range_with_len a k) (n - a) 0 (subst (λ l. n - a < l) (sym (length-range_with_len a k)) lt)
    (ap q (get_or-range_with_len a k (n - a) 0 lt ∙ e) ∙ is)

pub range-none : (q : ℕ → Bool) (a k : ℕ) → ((n : ℕ) → a ≤ n → n < a + k → q n ≡ false) → list_any q (range_with_len a k) ≡ false
range-none q a k none = list_any_none q (range_with_len a k) (λ i d lt.
    let in' : i < k = subst (λ l. i < l) (length-range_with_len a k) lt in
    ap q (get_or-range_with_len a k i d in') ∙ none (a + i) (omega arith) (omega arith))

met-back : (back : List Span) (s : Span) (q : ℕ → Bool) → s.from ≤ s.to → All (λ z. z.from ≤ z.to) back → AllPairs IsBefore back → All (λ z. s.from ≤ z.to) back → ((n : ℕ) → s.from ≤ n → q n ≡ any_span n back) → list_any q (numbers_of s) ≡ meets s.to back
met-back [] s q full some ordered above is = range-none q s.from (s.to + 1 - s.from) (λ n low high. is n low)
met-back (z ∷ zs) s q full some ordered above is =
    let here : z.from ≤ z.to = All-head (λ (y : Span). y.from ≤ y.to) z zs some in
    let high : s.from ≤ z.to = All-head (λ (y : Span). s.from ≤ y.to) z zs above in
    elim (cases_lt s.to z.from) as (λ _. list_any q (numbers_of s) ≡ nat_le z.from s.to) [
      | inl far ↦
          range-none q s.from (s.to + 1 - s.from) (λ n low up.
          let lt : n < z.from = omega arith in
          is n low ∙ none-above n (z ∷ zs) (above-all n z zs lt some ordered))
          ∙ sym (lt-leb z.from s.to far)
      | inr le ↦
          let n : ℕ = max s.from z.from in
          let low : s.from ≤ n = omega arith in
          let lower : z.from ≤ n = omega arith in
          let up : n < s.from + (s.to + 1 - s.from) = omega arith in
          let upper : n ≤ z.to = omega arith in
          range-any q s.from (s.to + 1 - s.from) n low up (is n low ∙ or_left (in_span z n) (any_span n zs) (and_from (nat_le z.from n) (nat_le n z.to) (le-leb z.from n lower) (le-leb n z.to upper)))
          ∙ sym (le-leb z.from s.to le)
    ]

pub met-more : (front back : List Span) (ps : List RangePart) (s : Span) → IsBetween front back ps s → list_any (λ n. is_some (item_in ps n)) (numbers_of s) ≡ nat_lt (length (joined_span s s.to back).1) (length back)
met-more front back ps s is =
    met-back back s (λ n. is_some (item_in ps n)) is.full (some-back front back ps s is) (up-back front back ps s is) is.above (λ n low.
    is-found n ps ∙ both-have n front back ps s is ∙ ap (λ b. b || any_span n back) (below-front n front back ps s is low))
    ∙ joined-some s s.to back
