-- The numbers that two spans have, and those of a part that are sought.
use Rattle.std.proofs.Common.{◌≡◌, ℕ, ap, sym, ◌∙◌, arith, refl, Bool, true, false, nat_le, min, max, ◌&&◌, List, Option, Some, None, if◌then◌else◌}
use Rattle.std.specs.Prelude.{ℤ}
use Rattle.std.specs.Option.{option_map_or}
use Rattle.std.proofs.lemmas.Grind.{common_steps}
use Rattle.lin_values.specs.Coded.{item_by}
use Rattle.lin_values.specs.Layers.{common_span, in_span}
use Rattle.lin_values.specs.Raws.{in_option_span, sought_item, sought_part}
use Rattle.lin_values.specs.Warnings.{greatest_raw}
use Rattle.lin_values.specs.declared.codings.Item.{Item}
use Rattle.lin_values.specs.declared.codings.PlacedItem.{PlacedItem}
use Rattle.lin_values.specs.declared.layers.RangePart.{RangePart}
use Rattle.lin_values.specs.declared.layers.Span.{Span}

inside-both : (p q r s n : ℕ) → nat_le (max p q) n && nat_le n (min r s) ≡ (nat_le p n && nat_le n r) && (nat_le q n && nat_le n s)
inside-both p q r s n = grind (arith, common_steps)

inside-none : (p q r s n : ℕ) → nat_le (max p q) (min r s) ≡ false → false ≡ (nat_le p n && nat_le n r) && (nat_le q n && nat_le n s)
inside-none p q r s n e = grind (arith, common_steps)

by-test : (a b : Span) (n : ℕ) (t : Bool) → nat_le (max a.from b.from) (min a.to b.to) ≡ t → in_option_span (if t then Some (record { from = max a.from b.from; to = min a.to b.to }) else None) n ≡ in_span a n && in_span b n
by-test a b n true e = inside-both a.from b.from a.to b.to n
by-test a b n false e = inside-none a.from b.from a.to b.to n e

pub common-is : (a b : Span) (n : ℕ) → in_option_span (common_span a b) n ≡ in_span a n && in_span b n
common-is a b n = by-test a b n (nat_le (max a.from b.from) (min a.to b.to)) refl

turned-true : (m a b z : Bool) → z ≡ true → m && (b && a) ≡ (a && b) && (z && m)
turned-true true true true true e = refl
turned-true true true false true e = refl
turned-true true false true true e = refl
turned-true true false false true e = refl
turned-true false true true true e = refl
turned-true false true false true e = refl
turned-true false false true true e = refl
turned-true false false false true e = refl
turned-true m a b false e = cc

turned-false : (m a b : Bool) → a && b ≡ false → m && (b && a) ≡ false
turned-false true true true e = e
turned-false true true false e = refl
turned-false true false true e = refl
turned-false true false false e = refl
turned-false false a b e = refl

from-nothing : (n : ℕ) → nat_le 0 n ≡ true
from-nothing n = grind (arith, common_steps)

pub part-found : (s p t : Span) (n most : ℕ) → common_span s p ≡ Some t → nat_le n most && (in_span p n && in_span s n) ≡ in_option_span (common_span t (record { from = 0; to = most })) n
part-found s p t n most e =
    let both : in_span t n ≡ in_span s n && in_span p n = ap (λ o. in_option_span o n) (sym e) ∙ common-is s p n in
    turned-true (nat_le n most) (in_span s n) (in_span p n) (nat_le 0 n) (from-nothing n)
    ∙ ap (λ x. x && (nat_le 0 n && nat_le n most)) (sym both)
    ∙ sym (common-is t (record { from = 0; to = most }) n)

pub part-empty : (s p : Span) (n most : ℕ) → common_span s p ≡ None → nat_le n most && (in_span p n && in_span s n) ≡ false
part-empty s p n most e = turned-false (nat_le n most) (in_span s n) (in_span p n) (sym (common-is s p n) ∙ ap (λ o. in_option_span o n) e)

pub part-sought : (ps : List PlacedItem) (bits : ℕ) (text : Option (List ℕ)) (decimals : Option (ℤ × ℤ)) (unit : List ℕ) (part : RangePart) (n : ℕ) (item : Item) (b : Bool)
    → item_by ps part.item ≡ Some item → sought_item text decimals unit item n ≡ b
    → sought_part ps bits text decimals unit part n ≡ nat_le n (greatest_raw bits) && (in_span part.span n && b)
part-sought ps bits text decimals unit part n item b e f =
    ap (λ o. nat_le n (greatest_raw bits) && (in_span part.span n && option_map_or (λ i. sought_item text decimals unit i n) o false)) e
    ∙ ap (λ x. nat_le n (greatest_raw bits) && (in_span part.span n && x)) f
