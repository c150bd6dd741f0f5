-- The raw values of a span of a range, as the two next to a decimal are added.
use Rattle.std.proofs.Common.{◌≡◌, ℕ, ◌≤◌, ◌⊎◌, inl, inr, ap, sym, ◌∙◌, true, subst}
use Rattle.std.specs.Prelude.{ℤ, Option, Some}
use lib.IntN.{pos, ◌+ℤ◌, ◌*ℤ◌, ◌-ℤ◌}
use Rattle.lin_values.specs.Layers.{in_span}
use Rattle.lin_values.specs.Nearest.{range_value, with_raw, IsExtended, IsLeast, IsAtLeastAsNear}
use Rattle.lin_values.specs.Value.{scaled_value}
use Rattle.lin_values.specs.declared.encoding.Range.{Range}
use Rattle.lin_values.specs.declared.layers.Span.{Span}
use Rattle.lin_values.proofs.LeastRaw.{both-added, IsAsNear}

moved : (scale scale' distance distance' : ℤ) (c n : ℕ) → scale' ≡ scale → distance' ≡ distance → IsAtLeastAsNear scale' distance' c n → IsAtLeastAsNear scale distance c n
moved scale scale' distance distance' c n e f h =
    subst (λ (z : ℤ). IsAtLeastAsNear scale z c n) f (subst (λ (z : ℤ). IsAtLeastAsNear z distance' c n) e h)

pub range-added : (side : ℤ → ℤ → Option ℕ)
    → ((scale x o : ℤ) (c n d : ℕ) → IsAtLeastAsNear scale (x -ℤ o) c n → side x (pos n *ℤ scale +ℤ o) ≡ Some d → IsAsNear (λ k. side x (pos k *ℤ scale +ℤ o)) c n d)
    → (r : Range) (s : Span) (x x' scale' distance' : ℤ) (a c : ℕ) (old mid new : Option (ℕ × ℕ)) (f g : ℕ → Option ℕ)
    → x' ≡ x → scale' ≡ scaled_value r.scale → distance' ≡ x -ℤ scaled_value r.offset
    → in_span s a ≡ true → in_span s c ≡ true → a ≤ c
    → ((n : ℕ) → in_span s n ≡ true → IsAtLeastAsNear scale' distance' a n ⊎ IsAtLeastAsNear scale' distance' c n)
    → mid ≡ with_raw (side x' (range_value r a)) a old → new ≡ with_raw (side x' (range_value r c)) c mid
    → IsExtended s (λ n. side x (range_value r n)) f g → IsLeast f old → IsLeast g new
range-added side reach r s x x' scale' distance' a c old mid new f g ex es ed ia ic ac next em en ext l =
    let h = λ (n : ℕ). side x (range_value r n) in
    let m : mid ≡ with_raw (h a) a old = em ∙ ap (λ z. with_raw (side z (range_value r a)) a old) ex in
    let n : new ≡ with_raw (h c) c (with_raw (h a) a old)
    = en ∙ ap (λ z. with_raw (side z (range_value r c)) c mid) ex ∙ ap (λ b. with_raw (h c) c b) m in
    subst (λ (b : Option (ℕ × ℕ)). IsLeast g b) (sym n)
    (both-added s h f g a c old ia ic ac
    (λ k d i j. elim (next k i) [
      | inl w ↦ inl (reach (scaled_value r.scale) x (scaled_value r.offset) a k d (moved (scaled_value r.scale) scale' (x -ℤ scaled_value r.offset) distance' a k es ed w) j)
      | inr w ↦ inr (reach (scaled_value r.scale) x (scaled_value r.offset) c k d (moved (scaled_value r.scale) scale' (x -ℤ scaled_value r.offset) distance' c k es ed w) j)
    ])
    ext l)
