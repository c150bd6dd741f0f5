use Rattle.std.proofs.Common.{◌≡◌, ◌∙◌, ℕ, ◌&&◌, Bool, List, [], ◌∷◌, eqb, refl, ap, arith, length}
use Rattle.std.specs.List.{list_all, zip}
use Rattle.std.specs.Str.{bytes_eq}
use Rattle.lin_ldf.proofs.parser.is_word.Goals as goal

abbrev same-pair : ℕ × ℕ → Bool
same-pair pair = eqb pair.0 pair.1

as-pairs : (xs ys : List ℕ) → length xs ≡ length ys → list_all same-pair (zip xs ys) ≡ bytes_eq xs ys
as-pairs [] [] h = refl
as-pairs [] (y ∷ ys) h = absurd (omega arith)
as-pairs (x ∷ xs) [] h = absurd (omega arith)
as-pairs (x ∷ xs) (y ∷ ys) h = ap (λ b. eqb x y && b) (as-pairs xs ys (omega arith))

pub returns-then-text-word : goal.returns-then-text-word
returns-then-text-word c = c.same_pairs.ensures ∙ as-pairs c.args.text.now c.args.word.now c.if-text-word.true
