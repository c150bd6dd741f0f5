-- The numbers of parts in order that are sought.
use Rattle.std.proofs.Common.{◌≡◌, ◌<◌, ◌≤◌, ◌+◌, ℕ, Bool, true, false, cond, ◌&&◌, ◌||◌, List, [], ◌∷◌, ◌++◌, length, take, get_or, refl, sym, ap, ◌∙◌, arith}
use Rattle.std.specs.Prelude.{ℤ, Option, Some, None, find, nat_le, All, AllPairs, option_and_then}
use Rattle.std.specs.List.{list_any}
use Rattle.std.specs.Option.{option_map, option_map_or}
use Rattle.std.proofs.lemmas.Bool.Decides.{nat_tests}
use Rattle.std.proofs.lemmas.List.{get_or_default}
use Rattle.std.proofs.lemmas.List.Elements.{All-append, All-cons, All-nil, All-weaker}
use Rattle.std.proofs.lemmas.List.Folds.{list_any_more, list_any_none, list_any-append}
use Rattle.lin_parts.proofs.Pairs.{pairs-append, pairs-back, pairs-cons, pairs-first, pairs-none}
use Rattle.lin_values.specs.Coded.{item_by, item_for}
use Rattle.lin_values.specs.Layers.{in_span, item_in, AreInOrder, IsBefore, IsSomeSpan}
use Rattle.lin_values.specs.Raws.{sought_item, sought_part, sought_raw}
use Rattle.lin_values.specs.Warnings.{greatest_raw}
use Rattle.lin_values.specs.declared.codings.Item.{Item}
use Rattle.lin_values.specs.declared.codings.PlacedItem.{PlacedItem}
use Rattle.lin_values.specs.declared.layers.RangePart.{RangePart}
use Rattle.lin_values.specs.declared.layers.Span.{Span}

abbrev Before : RangePart → RangePart → Type 0
Before p q = IsBefore p.span q.span

-- a part has the number, within the bits, and its item passes
abbrev passes : Bool → (ℕ → Bool) → ℕ → RangePart → Bool
passes m g n p = m && (in_span p.span n && g p.item)

none-passes : (m : Bool) (g : ℕ → Bool) (n : ℕ) (p : RangePart) → in_span p.span n ≡ false → passes m g n p ≡ false
none-passes true g n p e = ap (λ b. b && g p.item) e
none-passes false g n p e = refl

behind-none : (m : Bool) (g : ℕ → Bool) (n : ℕ) (p : RangePart) (ps : List RangePart) → All (Before p) ps → in_span p.span n ≡ true → list_any (passes m g n) ps ≡ false
behind-none m g n p ps before e =
    list_any_none (passes m g n) ps (All-weaker (Before p) (λ q. passes m g n q ≡ false) (λ q h. none-passes m g n q (grind (arith, nat_tests))) ps before)

first-passes : (m b r : Bool) → r ≡ false → (m && (true && b)) || r ≡ m && b
first-passes true true r e = refl
first-passes true false r e = e
first-passes false b r e = e

later-passes : (m b r : Bool) → (m && (false && b)) || r ≡ r
later-passes true b r = refl
later-passes false b r = refl

nothing-passes : (m : Bool) → false ≡ m && false
nothing-passes true = refl
nothing-passes false = refl

abbrev picked : Bool → (ℕ → Bool) → Option RangePart → Bool
picked m g o = m && option_map_or g (option_map (λ (q : RangePart). q.item) o) false

any-picked : (m : Bool) (g : ℕ → Bool) (n : ℕ) (ps : List RangePart) → AllPairs Before ps → list_any (passes m g n) ps ≡ m && option_map_or g (item_in ps n) false
any-picked m g n [] pairs = nothing-passes m
any-picked m g n (p ∷ ps) pairs =
    elim (in_span p.span n) as (λ b. in_span p.span n ≡ b → (m && (b && g p.item)) || list_any (passes m g n) ps ≡ picked m g (cond b (Some p) (find (λ (q : RangePart). in_span q.span n) ps))) [
      | true ↦ λ e. first-passes m (g p.item) (list_any (passes m g n) ps) (behind-none m g n p ps (pairs-first Before p ps pairs) e)
      | false ↦ λ e. later-passes m (g p.item) (list_any (passes m g n) ps) ∙ any-picked m g n ps (pairs-back Before (p ∷ []) ps pairs)
    ] refl

item-sought : (f : Item → Bool) (h : ℕ → Option Item) (o : Option ℕ) → option_map_or (λ k. option_map_or f (h k) false) o false ≡ option_map_or f (option_and_then h o) false
item-sought f h None = refl
item-sought f h (Some k) = refl

pub all-sought : (items : List PlacedItem) (bits : ℕ) (text : Option (List ℕ)) (decimals : Option (ℤ × ℤ)) (unit : List ℕ) (ps : List RangePart) (n : ℕ)
    → AreInOrder ps → option_and_then (item_by items) (item_in ps n) ≡ item_for items n
    → list_any (λ p. sought_part items bits text decimals unit p n) ps ≡ sought_raw items bits text decimals unit n
all-sought items bits text decimals unit ps n ordered found =
    let f : Item → Bool = λ i. sought_item text decimals unit i n in
    any-picked (nat_le n (greatest_raw bits)) (λ k. option_map_or f (item_by items k) false) n ps ordered.1
    ∙ ap (λ b. nat_le n (greatest_raw bits) && b) (item-sought f (item_by items) (item_in ps n))
    ∙ ap (λ o. nat_le n (greatest_raw bits) && option_map_or f o false) found

-- ---- the steps of the loop over parts

abbrev pub AreAhead : List RangePart → ℕ → List Span → Type 0
AreAhead ps i spans = (j : ℕ) (d : RangePart) → i ≤ j → j < length ps → All (λ s. s.to < (get_or ps j d).span.from) spans

or-nothing : (a b : Bool) → b ≡ false → a ≡ (a || b)
or-nothing true b e = refl
or-nothing false b e = sym e

or-same : (a b x : Bool) → a ≡ b → x ≡ (b || false) → x ≡ (a || false)
or-same a b x e f = f ∙ ap (λ c. c || false) (sym e)

or-false : (a : Bool) → (a || false) ≡ a
or-false true = refl
or-false false = refl

pub more-found : (q : RangePart → Bool) (ps : List RangePart) (i n : ℕ) (d : RangePart) (xs : List Span) (s : Span) → i < length ps
    → list_any (λ z. in_span z n) xs ≡ list_any q (take i ps) → q (get_or ps i d) ≡ in_span s n
    → list_any (λ z. in_span z n) (xs ++ s ∷ []) ≡ list_any q (take (i + 1) ps)
more-found q ps i n d xs s lt e f =
    list_any-append (λ z. in_span z n) xs (s ∷ [])
    ∙ ap (λ b. list_any (λ z. in_span z n) xs || b) (or-false (in_span s n) ∙ sym f)
    ∙ ap (λ b. b || q (get_or ps i d)) e
    ∙ sym (list_any_more q ps i d lt)

pub same-found : (q : RangePart → Bool) (ps : List RangePart) (i n : ℕ) (d : RangePart) (xs : List Span) → i < length ps
    → list_any (λ z. in_span z n) xs ≡ list_any q (take i ps) → q (get_or ps i d) ≡ false
    → list_any (λ z. in_span z n) xs ≡ list_any q (take (i + 1) ps)
same-found q ps i n d xs lt e f =
    e ∙ or-nothing (list_any q (take i ps)) (q (get_or ps i d)) f ∙ sym (list_any_more q ps i d lt)

pub more-some : (xs : List Span) (s : Span) → All IsSomeSpan xs → IsSomeSpan s → All IsSomeSpan (xs ++ s ∷ [])
more-some xs s all here = All-append IsSomeSpan xs (s ∷ []) all (All-cons IsSomeSpan s [] here (All-nil IsSomeSpan))

pub more-apart : (ps : List RangePart) (i : ℕ) (d : RangePart) (xs : List Span) (s : Span) → i < length ps
    → AllPairs IsBefore xs → AreAhead ps i xs → (get_or ps i d).span.from ≤ s.from → AllPairs IsBefore (xs ++ s ∷ [])
more-apart ps i d xs s lt apart ahead le =
    let here : ℕ → Type 0 = λ k. k < (get_or ps i d).span.from in
    pairs-append IsBefore xs (s ∷ []) apart (pairs-cons IsBefore s [] (All-nil (IsBefore s)) (pairs-none IsBefore))
    (All-weaker (λ (z : Span). z.to < (get_or ps i d).span.from) (λ z. All (IsBefore z) (s ∷ [])) (λ z h. All-cons (IsBefore z) s [] (omega arith) (All-nil (IsBefore z))) xs (ahead i d (omega arith) lt))

pub more-ahead : (ps : List RangePart) (i : ℕ) (e : RangePart) (xs : List Span) (s : Span) → i < length ps → AreInOrder ps
    → AreAhead ps i xs → s.to ≤ (get_or ps i e).span.to → AreAhead ps (i + 1) (xs ++ s ∷ [])
more-ahead ps i e xs s lt ordered ahead le j d up in' =
    let Low : Span → Type 0 = λ z. z.to < (get_or ps j d).span.from in
    let same : get_or ps i d ≡ get_or ps i e = get_or_default ps i d e lt in
    let before : (get_or ps i d).span.to < (get_or ps j d).span.from = ordered.1 i j d (omega arith) in' in
    let ends : (get_or ps i d).span.to ≡ (get_or ps i e).span.to = ap (λ (p : RangePart). p.span.to) same in
    All-append Low xs (s ∷ []) (ahead j d (omega arith) in') (All-cons Low s [] (omega arith) (All-nil Low))

pub same-ahead : (ps : List RangePart) (i : ℕ) (xs : List Span) → AreAhead ps i xs → AreAhead ps (i + 1) xs
same-ahead ps i xs ahead j d up in' = ahead j d (omega arith) in'
