-- Characters up to zeros at the end.
use Rattle.std.proofs.Common.{ℕ, ◌≤◌, ◌==◌, arith, true, false, List, [], ◌∷◌, length, reverse, if◌then◌else◌}
use Rattle.std.proofs.lemmas.List.{length-reverse}
use Rattle.lin_values.specs.Meaning.{without_front_zeros}

fewer : (bs : List ℕ) → length (without_front_zeros bs) ≤ length bs
fewer [] = omega arith
fewer (b ∷ bs) = elim (b == 0) as (λ z. length (if z then without_front_zeros bs else b ∷ bs) ≤ length (b ∷ bs)) [ true ↦ omega (arith, fewer bs) | false ↦ omega arith ]

pub fewer_at-end : (bs : List ℕ) → length (reverse (without_front_zeros (reverse bs))) ≤ length bs
fewer_at-end bs = omega (arith, length-reverse {A = ℕ}, fewer (reverse bs))
