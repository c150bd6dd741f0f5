use Rattle.std.proofs.Common.{◌≡◌, ◌∙◌, ℕ, ◌&&◌, Bool, true, false, List, [], ◌∷◌, Option, refl, ap, arith, length}
use Rattle.std.specs.List.{list_all, zip}
use Rattle.std.specs.Cmp.Lexicographic.{pointwise}
use Rattle.lin_bench.specs.Rules.{same_byte}
use Rattle.lin_bench.proofs.answers.same_bytes.Goals as goal

and-false : (b : Bool) → (b && false) ≡ false
and-false true = refl
and-false false = refl

abbrev same-pair : Option ℕ × Option ℕ → Bool
same-pair x = same_byte x.0 x.1

as-pairs : (xs ys : List (Option ℕ)) → length xs ≡ length ys → list_all same-pair (zip xs ys) ≡ pointwise same_byte xs ys
as-pairs [] [] h = refl
as-pairs [] (y ∷ ys) h = absurd (omega arith)
as-pairs (x ∷ xs) [] h = absurd (omega arith)
as-pairs (x ∷ xs) (y ∷ ys) h = ap (λ b. same_byte x y && b) (as-pairs xs ys (omega arith))

other-length : (xs ys : List (Option ℕ)) → (length xs ≡ length ys → ⊥) → pointwise same_byte xs ys ≡ false
other-length [] [] h = absurd (h refl)
other-length [] (y ∷ ys) h = refl
other-length (x ∷ xs) [] h = refl
other-length (x ∷ xs) (y ∷ ys) h = rw (other-length xs ys (λ e. h (omega arith))) (and-false (same_byte x y))

pub returns-then-xs-ys : goal.returns-then-xs-ys
returns-then-xs-ys c = c.same_pairs.ensures ∙ as-pairs c.args.xs.now c.args.ys.now c.if-xs-ys.true
