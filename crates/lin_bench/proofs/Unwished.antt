-- Fields that ask for no value in words.
use Rattle.std.proofs.Common.{◌≡◌, ◌∙◌, ◌&&◌, ℕ, List, Bool, true, false, cond, refl, ap, Some, None}
use Rattle.std.specs.Prelude.{codes}
use Rattle.std.specs.Str.{bytes_eq}
use Rattle.lin_bench.specs.Words.{is_expect, is_test, is_write, wish_of}
use Rattle.lin_bench.specs.declared.words.Wish.TheVariants.{Write, Nearest, Expect}

pub and-none : (a b : Bool) → b ≡ false → a && b ≡ false
and-none true b e = e
and-none false b e = refl

unwished-by : (before : List (List ℕ)) (mark : List ℕ) (t : Bool) → is_test before ≡ t → is_write before ≡ false → is_expect before ≡ false → wish_of before mark ≡ None
unwished-by before mark true h w e = rw h refl
unwished-by before mark false h w e =
    rw h
    (ap (λ b. cond b (cond (bytes_eq mark (codes "=")) (Some Expect) None) (cond (is_write before) (Some (cond (bytes_eq mark (codes "~")) Nearest Write)) None)) e
    ∙ ap (λ b. cond b (Some (cond (bytes_eq mark (codes "~")) Nearest Write)) None) w)

pub unwished : (before : List (List ℕ)) (mark : List ℕ) → is_write before ≡ false → is_expect before ≡ false → wish_of before mark ≡ None
unwished before mark w e = unwished-by before mark (is_test before) refl w e
