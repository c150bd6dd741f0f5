-- The items of a type of encoding.
use Rattle.std.proofs.Common.{◌≡◌, ◌<◌, ◌+◌, ℕ, zero, suc, Bool, true, false, cond, ◌||◌, List, [], ◌∷◌, length, get_or, refl, sym, subst, ap, ◌∙◌, arith, add-one}
use Rattle.std.specs.Prelude.{Option, Some, None, find, is_some, option_and_then}
use Rattle.std.specs.List.{list_any, position_from}
use Rattle.std.specs.Option.{option_or}
use Rattle.lin_values.proofs.ItemSteps.{any-of, some-from}
use Rattle.lin_values.proofs.ItemTraits.{AreTraits}
use Rattle.lin_values.specs.Coded.{all_items, has_value, in_range, item_by, item_for, or_else, IsIndexed}
use Rattle.lin_values.specs.ItemNumbers.{range_at, item_with_value}
use Rattle.lin_values.specs.Layers.{item_in, AreInOrder}
use Rattle.lin_values.specs.declared.encoding.Traits.{Traits}
use Rattle.lin_values.specs.declared.codings.CodingType.{CodingType}
use Rattle.lin_values.specs.declared.codings.Item.{Item}
use Rattle.lin_values.specs.declared.codings.PlacedItem.{PlacedItem}
use Rattle.lin_values.specs.declared.layers.RangePart.{RangePart}

pub item-of : (ps : List PlacedItem) (i : ℕ) (p : PlacedItem) → i < length ps → p ≡ get_or ps i p → item_by ps i ≡ Some p.item
item-of [] i p lt is = absurd (omega arith)
item-of (x ∷ xs) zero p lt is = ap (λ (q : PlacedItem). Some q.item) (sym is)
item-of (x ∷ xs) (suc i) p lt is = item-of xs i p (omega arith) is

pub item-read : (lent ps : List PlacedItem) (i : ℕ) (p : PlacedItem) → lent ≡ ps → i < length lent → p ≡ get_or lent i p → Some p.item ≡ item_by ps i
item-read lent ps i p same lt is = sym (ap (λ qs. item_by qs i) (sym same) ∙ item-of lent i p lt is)

-- ---- the item with the number that counts

next-item : (x : PlacedItem) (xs ys : List PlacedItem) (p : PlacedItem → Bool) (k : ℕ) → option_and_then (item_by (x ∷ xs)) (position_from p (k + 1) ys) ≡ option_and_then (item_by xs) (position_from p k ys)
next-item x xs [] p k = refl
next-item x xs (y ∷ ys) p k =
    elim (p y) as (λ b. option_and_then (item_by (x ∷ xs)) (cond b (Some (k + 1)) (position_from p (k + 1 + 1) ys)) ≡ option_and_then (item_by xs) (cond b (Some k) (position_from p (k + 1) ys))) [
      | true ↦ ap (item_by (x ∷ xs)) (add-one k)
      | false ↦ next-item x xs ys p (k + 1)
    ]

item-with : (p : Item → Bool) (ps : List PlacedItem) → option_and_then (item_by ps) (position_from (λ (q : PlacedItem). p q.item) 0 ps) ≡ find p (all_items ps)
item-with p [] = refl
item-with p (x ∷ xs) =
    elim (p x.item) as (λ b. option_and_then (item_by (x ∷ xs)) (cond b (Some 0) (position_from (λ (q : PlacedItem). p q.item) 1 xs)) ≡ cond b (Some x.item) (find p (all_items xs))) [
      | true ↦ refl
      | false ↦ next-item x xs xs (λ (q : PlacedItem). p q.item) 0 ∙ item-with p xs
    ]

some-found : (p : Item → Bool) (is : List Item) → is_some (find p is) ≡ list_any p is
some-found p [] = refl
some-found p (i ∷ is) =
    elim (p i) as (λ b. is_some (cond b (Some i) (find p is)) ≡ (b || list_any p is)) [
      | true ↦ refl
      | false ↦ some-found p is
    ]

either : {A : Type 0} (f : ℕ → Option A) (a b : Option ℕ) (x y : Option A) → option_and_then f a ≡ x → option_and_then f b ≡ y → is_some a ≡ is_some x → option_and_then f (option_or a b) ≡ or_else x y
either f None b None y one other same = other
either f None b (Some u) y one other same = absurd (cc)
either f (Some k) b None y one other same = absurd (cc)
either f (Some k) b (Some u) y one other same = one

item-counts : (ps : List PlacedItem) (raw : ℕ) (found : Option ℕ) → found ≡ option_or (item_with_value ps raw) (range_at ps raw) → option_and_then (item_by ps) found ≡ item_for ps raw
item-counts ps raw found is =
    ap (option_and_then (item_by ps)) is
    ∙ either (item_by ps) (item_with_value ps raw) (range_at ps raw) (find (has_value raw) (all_items ps)) (find (in_range raw) (all_items ps))
    (item-with (has_value raw) ps) (item-with (in_range raw) ps)
    (some-from (λ (q : PlacedItem). has_value raw q.item) 0 ps ∙ any-of (has_value raw) ps ∙ sym (some-found (has_value raw) (all_items ps)))

pub indexed : (t : CodingType) (traits : Traits) (lent : List PlacedItem) (values all parts sorted : List RangePart) → lent ≡ t.items → AreTraits traits lent → ((raw : ℕ) → item_in values raw ≡ item_with_value lent raw) → ((raw : ℕ) → item_in all raw ≡ option_or (item_in values raw) (range_at lent raw)) → ((n : ℕ) → item_in sorted n ≡ item_in all n) → AreInOrder sorted → parts ≡ sorted → IsIndexed t traits parts
indexed t traits lent values all parts sorted same are first both moved ordered is =
    let found : (raw : ℕ) → item_in parts raw ≡ option_or (item_with_value t.items raw) (range_at t.items raw) = λ raw.
    ap (λ ps. item_in ps raw) is ∙ moved raw ∙ both raw ∙ ap (λ o. option_or o (range_at lent raw)) (first raw)
    ∙ ap (λ ps. option_or (item_with_value ps raw) (range_at ps raw)) same in
    let of-all : AreTraits traits t.items = subst (AreTraits traits) same are in
    record {
      numeric = of-all.numeric;
      range = of-all.range;
      greatest = of-all.greatest;
      first = of-all.first;
      second = of-all.second;
      ordered = subst AreInOrder (sym is) ordered;
      found = λ raw small. item-counts t.items raw (item_in parts raw) (found raw);
    }
