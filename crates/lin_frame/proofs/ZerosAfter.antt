-- Few bytes, with zeros after them.
use Rattle.std.proofs.Common.{◌≡◌, ◌<◌, ◌≤◌, ◌++◌, ℕ, zero, suc, Bool, true, false, List, [], ◌∷◌, length, replicate, take, refl, sym, ◌∙◌, ap, arith, get_or, get_or-take}
use Rattle.std.specs.Prelude.{slice_index, nat_lt}
use Rattle.std.proofs.lemmas.Bool.Decides.{nat_tests}
use Rattle.std.proofs.lemmas.List.{get_or_past, length-take, take-append-le}
use Rattle.lin_frame.specs.Short.{with_zeros, IsFilledWithZeros}

zero-read : (n k : ℕ) → slice_index (replicate n 0) k ≡ 0
zero-read zero k = refl
zero-read (suc n) zero = refl
zero-read (suc n) (suc k) = zero-read n k

zeros-read : (xs : List ℕ) (n k : ℕ) → slice_index (xs ++ replicate n 0) k ≡ slice_index xs k
zeros-read [] n k = zero-read n k
zeros-read (x ∷ xs) n zero = refl
zeros-read (x ∷ xs) n (suc k) = zeros-read xs n k

take-read : (xs : List ℕ) (n m k : ℕ) (b : Bool) → nat_lt k m ≡ b → slice_index (take m (xs ++ replicate n 0)) k ≡ slice_index (take m xs) k
take-read xs n m k true t =
    let l : k < m = grind (arith, nat_tests, t)
    in get_or-take m (xs ++ replicate n 0) k 0 l ∙ zeros-read xs n k ∙ sym (get_or-take m xs k 0 l)
take-read xs n m k false t =
    let far : m ≤ k = grind (arith, nat_tests, t)
    in let few = length-take m (xs ++ replicate n 0)
    in let own = length-take m xs
    in get_or_past (take m (xs ++ replicate n 0)) k 0 (omega arith) ∙ sym (get_or_past (take m xs) k 0 (omega arith))

-- the first bytes of the place are those that are meant
pub first-read : (size len m k : ℕ) (bytes : List ℕ) → IsFilledWithZeros size len bytes → slice_index (take m bytes) k ≡ slice_index (take m (take len bytes)) k
first-read size len m k bytes s =
    ap (λ xs. slice_index (take m xs) k) (sym s.zeros_after) ∙ take-read (take len bytes) _ m k (nat_lt k m) refl

pub first-whole : (size len m : ℕ) (bytes : List ℕ) → IsFilledWithZeros size len bytes → m ≤ length (take len bytes) → take m bytes ≡ take m (take len bytes)
first-whole size len m bytes s l = ap (λ xs. take m xs) (sym s.zeros_after) ∙ take-append-le m (take len bytes) _ l
