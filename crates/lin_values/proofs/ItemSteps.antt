-- What is told of items, one after the other, and which of them count.
use Rattle.std.proofs.Common.{◌≡◌, ◌<◌, ◌≤◌, ◌+◌, ◌-◌, ℕ, Bool, true, false, cond, ◌&&◌, ◌||◌, ◌==◌, List, [], ◌∷◌, ◌++◌, length, take, get_or, refl, sym, ap, ◌∙◌, inl, inr, arith, append_assoc, append-nil}
use Rattle.std.specs.Prelude.{Option, Some, None, is_some, nat_le, nat_lt, max}
use Rattle.std.specs.List.{list_any, position_from}
use Rattle.std.specs.Option.{option_or}
use Rattle.std.proofs.lemmas.Bool.{cases_Bool, and_from, le-leb, leb-true}
use Rattle.std.proofs.lemmas.Bool.Decides.{nat_tests}
use Rattle.std.proofs.lemmas.List.{take_more}
use Rattle.lin_cluster.proofs.NamesFound.{numbered_more}
use Rattle.lin_cluster.specs.FindingsNames.{at_place, when}
use Rattle.lin_cluster.specs.declared.finding.Finding.{Finding}
use Rattle.lin_cluster.specs.declared.finding.FindingKind.TheVariants as finding
use Rattle.lin_values.proofs.Layered.{range-any, range-none}
use Rattle.lin_values.specs.Coded.{all_items, has_value, in_range}
use Rattle.lin_values.specs.Value.{fits}
use Rattle.lin_values.specs.ItemNumbers.{range_at, range_told, item_with_value, value_told}
use Rattle.lin_values.specs.Layers.{item_in, numbers_of}
use Rattle.lin_values.specs.Warnings.{meets_range, range_warning, range_warnings, told_by, value_warning, value_warnings}
use Rattle.lin_values.specs.declared.codings.Item.{Item}
use Rattle.lin_values.specs.declared.codings.Item.TheVariants.{Logical, Physical, Bcd, Ascii}
use Rattle.lin_values.specs.declared.codings.PlacedItem.{PlacedItem}
use Rattle.lin_values.specs.declared.layers.RangePart.{RangePart}

pub told-more : {X : Type 0} (tell : List X → X → List Finding) (before xs : List X) (x : X) → told_by tell before (xs ++ x ∷ []) ≡ told_by tell before xs ++ tell (before ++ xs) x
told-more tell before [] x = append-nil (tell before x) ∙ ap (λ b. tell b x) (sym (append-nil before))
told-more tell before (y ∷ ys) x =
    ap (λ fs. tell before y ++ fs) (told-more tell (before ++ y ∷ []) ys x ∙ ap (λ b. told_by tell (before ++ y ∷ []) ys ++ tell b x) (append_assoc before (y ∷ []) ys))
    ∙ sym (append_assoc (tell before y) (told_by tell (before ++ y ∷ []) ys) (tell (before ++ y ∷ ys) x))

-- one item more is told of
pub told-step : {X : Type 0} (tell : List X → X → List Finding) (xs : List X) (i : ℕ) (x : X) (first old now told : List Finding) → i < length xs → x ≡ get_or xs i x → old ≡ first ++ told_by tell [] (take i xs) → now ≡ old ++ told → told ≡ tell (take i xs) x → now ≡ first ++ told_by tell [] (take (i + 1) xs)
told-step tell xs i x first old now told lt is so here same =
    here ∙ (λ j. so j ++ same j) ∙ append_assoc first (told_by tell [] (take i xs)) (tell (take i xs) x)
    ∙ ap (λ fs. first ++ fs) (sym (told-more tell [] (take i xs) x) ∙ ap (λ y. told_by tell [] (take i xs ++ y ∷ [])) is ∙ ap (told_by tell []) (sym (take_more xs i x lt)))

pub some-from : {X : Type 0} (p : X → Bool) (k : ℕ) (xs : List X) → is_some (position_from p k xs) ≡ list_any p xs
some-from p k [] = refl
some-from p k (x ∷ xs) =
    elim (p x) as (λ b. is_some (cond b (Some k) (position_from p (k + 1) xs)) ≡ (b || list_any p xs)) [
      | true ↦ refl
      | false ↦ some-from p (k + 1) xs
    ]

pub any-of : (p : Item → Bool) (ps : List PlacedItem) → list_any (λ (q : PlacedItem). p q.item) ps ≡ list_any p (all_items ps)
any-of p [] = refl
any-of p (x ∷ xs) = ap (λ b. p x.item || b) (any-of p xs)

-- ---- values

value-same : (ls : List RangePart) (before : List PlacedItem) (p : PlacedItem) (i : Item) → ((raw : ℕ) → item_in ls raw ≡ item_with_value before raw) → value_told ls p i ≡ value_warning before p i
value-same ls before p (Logical v text) same =
    ap (λ b. when b (at_place finding.LogicalTwice p.place))
    (ap is_some (same v) ∙ some-from (λ (q : PlacedItem). has_value v q.item) 0 before ∙ any-of (has_value v) before)
value-same ls before p (Physical from to scale offset unit) same = refl
value-same ls before p Bcd same = refl
value-same ls before p Ascii same = refl

pub value-step : (ps : List PlacedItem) (i : ℕ) (p : PlacedItem) (ls : List RangePart) (first old now : List Finding) → i < length ps → p ≡ get_or ps i p → ((raw : ℕ) → item_in ls raw ≡ item_with_value (take i ps) raw) → old ≡ first ++ value_warnings (take i ps) → now ≡ old ++ value_told ls p p.item → now ≡ first ++ value_warnings (take (i + 1) ps)
value-step ps i p ls first old now lt is same so here =
    told-step (λ before q. value_warning before q q.item) ps i p first old now (value_told ls p p.item) lt is so here (value-same ls (take i ps) p p.item same)

pub value-number : (ps : List PlacedItem) (i : ℕ) (p : PlacedItem) (ls ls' : List RangePart) → i < length ps → p ≡ get_or ps i p → ((raw : ℕ) → item_in ls raw ≡ item_with_value (take i ps) raw) → ((raw : ℕ) → item_in ls' raw ≡ option_or (item_in ls raw) (cond (has_value raw p.item) (Some i) None)) → (raw : ℕ) → item_in ls' raw ≡ item_with_value (take (i + 1) ps) raw
value-number ps i p ls ls' lt is so here raw =
    numbered_more (λ (q : PlacedItem). has_value raw q.item) ps i p (has_value raw p.item) (item_in ls raw) (item_in ls' raw) lt is refl (so raw) (here raw)

-- ---- ranges

regroup : (a b c d : Bool) → ((a || b) || (c || d)) ≡ ((a || c) || (b || d))
regroup true b c d = refl
regroup false true true d = refl
regroup false true false d = refl
regroup false false c d = refl

any-either : (p q : ℕ → Bool) (ns : List ℕ) → list_any (λ n. p n || q n) ns ≡ (list_any p ns || list_any q ns)
any-either p q [] = refl
any-either p q (n ∷ ns) = ap (λ b. (p n || q n) || b) (any-either p q ns) ∙ regroup (p n) (q n) (list_any p ns) (list_any q ns)

none-any : (ns : List ℕ) → list_any (λ n. false) ns ≡ false
none-any [] = refl
none-any (n ∷ ns) = none-any ns

ranges-meet : (from to min' max' : ℕ) → from ≤ to → list_any (λ n. nat_le min' n && nat_le n max') (numbers_of (record { from = from; to = to })) ≡ (nat_le min' max' && (nat_le from max' && nat_le min' to))
ranges-meet from to min' max' full =
    elim (cases_Bool (nat_le min' max' && (nat_le from max' && nat_le min' to))) as (λ _. list_any (λ n. nat_le min' n && nat_le n max') (numbers_of (record { from = from; to = to })) ≡ (nat_le min' max' && (nat_le from max' && nat_le min' to))) [
      | inl met ↦
          let a : min' ≤ max' = grind (arith, nat_tests) in
          let b : from ≤ max' = grind (arith, nat_tests) in
          let d : min' ≤ to = grind (arith, nat_tests) in
          let n : ℕ = max from min' in
          let low : from ≤ n = omega arith in
          let up : n < from + (to + 1 - from) = omega arith in
          let least : min' ≤ n = omega arith in
          let most : n ≤ max' = omega arith in
          range-any (λ m. nat_le min' m && nat_le m max') from (to + 1 - from) n low up (and_from (nat_le min' n) (nat_le n max') (le-leb min' n least) (le-leb n max' most))
          ∙ sym met
      | inr unmet ↦ range-none (λ m. nat_le min' m && nat_le m max') from (to + 1 - from) (λ n low up. let high : n ≤ to = omega arith in grind (arith, nat_tests)) ∙ sym unmet
    ]

any-if : (b : Bool) (p : ℕ → Bool) (ns : List ℕ) → list_any (λ n. b && p n) ns ≡ (b && list_any p ns)
any-if true p ns = refl
any-if false p ns = none-any ns

meets-one : (from to : ℕ) (i : Item) → from ≤ to → list_any (λ n. in_range n i) (numbers_of (record { from = from; to = to })) ≡ meets_range from to i
meets-one from to (Logical v text) full = none-any (numbers_of (record { from = from; to = to }))
meets-one from to (Physical min' max' scale offset unit) full =
    any-if (fits max' scale offset) (λ n. nat_le min' n && nat_le n max') (numbers_of (record { from = from; to = to }))
    ∙ ap (λ b. fits max' scale offset && b) (ranges-meet from to min' max' full)
meets-one from to Bcd full = none-any (numbers_of (record { from = from; to = to }))
meets-one from to Ascii full = none-any (numbers_of (record { from = from; to = to }))

meets-any : (from to : ℕ) (is : List Item) → from ≤ to → list_any (λ n. list_any (in_range n) is) (numbers_of (record { from = from; to = to })) ≡ list_any (meets_range from to) is
meets-any from to [] full = none-any (numbers_of (record { from = from; to = to }))
meets-any from to (i ∷ is) full =
    any-either (λ n. in_range n i) (λ n. list_any (in_range n) is) (numbers_of (record { from = from; to = to }))
    ∙ (λ j. meets-one from to i full j || meets-any from to is full j)

any-same : (p q : ℕ → Bool) (ns : List ℕ) → ((n : ℕ) → p n ≡ q n) → list_any p ns ≡ list_any q ns
any-same p q [] same = refl
any-same p q (n ∷ ns) same = λ j. same n j || any-same p q ns same j

and-same : (a b d : Bool) → (a ≡ true → b ≡ d) → (a && b) ≡ (a && d)
and-same true b d same = same refl
and-same false b d same = refl

range-same : (ls : List RangePart) (before : List PlacedItem) (p : PlacedItem) (i : Item) → ((raw : ℕ) → item_in ls raw ≡ range_at before raw) → range_told ls p i ≡ range_warning before p i
range-same ls before p (Logical v text) same = refl
range-same ls before p (Physical from to scale offset unit) same =
    let ends = when (nat_lt to from) (at_place finding.MinAboveMax p.place) in
    let over = λ (b : Bool). when (nat_le from to && b) (at_place finding.RangesOverlap p.place) in
    let flat = when (scale.digits == 0) (at_place finding.ZeroScale p.place) in
    let bad = at_place finding.BadEncoding p.place ∷ [] in
    ap (λ fs. cond (fits to scale offset) fs bad)
    (append_assoc ends (over (list_any (λ n. is_some (item_in ls n)) (numbers_of (record { from = from; to = to })))) flat
    ∙ ap (λ b. ends ++ (when b (at_place finding.RangesOverlap p.place) ++ flat)) (and-same (nat_le from to) (list_any (λ n. is_some (item_in ls n)) (numbers_of (record { from = from; to = to }))) (list_any (meets_range from to) (all_items before)) (λ le.
    any-same (λ n. is_some (item_in ls n)) (λ n. list_any (in_range n) (all_items before)) (numbers_of (record { from = from; to = to })) (λ n. ap is_some (same n) ∙ some-from (λ (q : PlacedItem). in_range n q.item) 0 before ∙ any-of (in_range n) before)
    ∙ meets-any from to (all_items before) (leb-true from to le))))
range-same ls before p Bcd same = refl
range-same ls before p Ascii same = refl

pub range-step : (ps : List PlacedItem) (i : ℕ) (p : PlacedItem) (ls : List RangePart) (first old now : List Finding) → i < length ps → p ≡ get_or ps i p → ((raw : ℕ) → item_in ls raw ≡ range_at (take i ps) raw) → old ≡ first ++ range_warnings (take i ps) → now ≡ old ++ range_told ls p p.item → now ≡ first ++ range_warnings (take (i + 1) ps)
range-step ps i p ls first old now lt is same so here =
    told-step (λ before q. range_warning before q q.item) ps i p first old now (range_told ls p p.item) lt is so here (range-same ls (take i ps) p p.item same)

pub range-number : (ps : List PlacedItem) (i : ℕ) (p : PlacedItem) (ls ls' : List RangePart) → i < length ps → p ≡ get_or ps i p → ((raw : ℕ) → item_in ls raw ≡ range_at (take i ps) raw) → ((raw : ℕ) → item_in ls' raw ≡ option_or (item_in ls raw) (cond (in_range raw p.item) (Some i) None)) → (raw : ℕ) → item_in ls' raw ≡ range_at (take (i + 1) ps) raw
range-number ps i p ls ls' lt is so here raw =
    numbered_more (λ (q : PlacedItem). in_range raw q.item) ps i p (in_range raw p.item) (item_in ls raw) (item_in ls' raw) lt is refl (so raw) (here raw)

or-assoc : {A : Type 0} (a b c : Option A) → option_or (option_or a b) c ≡ option_or a (option_or b c)
or-assoc None b c = refl
or-assoc (Some x) b c = refl

-- behind the values
pub range-behind : (ps : List PlacedItem) (i : ℕ) (p : PlacedItem) (values ls ls' : List RangePart) → i < length ps → p ≡ get_or ps i p → ((raw : ℕ) → item_in ls raw ≡ option_or (item_in values raw) (range_at (take i ps) raw)) → ((raw : ℕ) → item_in ls' raw ≡ option_or (item_in ls raw) (cond (in_range raw p.item) (Some i) None)) → (raw : ℕ) → item_in ls' raw ≡ option_or (item_in values raw) (range_at (take (i + 1) ps) raw)
range-behind ps i p values ls ls' lt is so here raw =
    here raw ∙ ap (λ o. option_or o (cond (in_range raw p.item) (Some i) None)) (so raw)
    ∙ or-assoc (item_in values raw) (range_at (take i ps) raw) (cond (in_range raw p.item) (Some i) None)
    ∙ ap (option_or (item_in values raw)) (numbered_more (λ (q : PlacedItem). in_range raw q.item) ps i p (in_range raw p.item) (range_at (take i ps) raw) (option_or (range_at (take i ps) raw) (cond (in_range raw p.item) (Some i) None)) lt is refl refl refl)
