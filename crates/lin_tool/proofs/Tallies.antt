-- A play in numbers.
use Rattle.std.proofs.Common.{◌≡◌, ◌∙◌, ◌+◌, ℕ, suc, [], ◌∷◌, ap, arith}
use Rattle.std.specs.Prelude.{sum_by}
use Rattle.std.proofs.lemmas.List.Sums.{sum_by-append, sum_by-cons}
use Rattle.lin_frame.specs.Words.{numbers}

-- a sum over one number more
pub sum-number : (f : ℕ → ℕ) (n : ℕ) → sum_by f (numbers (n + 1)) ≡ sum_by f (numbers n) + f n
sum-number f n =
    let next : n + 1 ≡ suc n = omega arith in
    ap (λ k. sum_by f (numbers k)) next ∙ sum_by-append f (numbers n) (n ∷ []) ∙ ap (λ s. sum_by f (numbers n) + s) (sum_by-cons f n [])
    ∙ omega arith
