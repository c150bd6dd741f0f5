-- The two digits of each byte.
use Rattle.std.proofs.Common.{ap, refl, ◌∙◌, ◌++◌, take, drop, length, add-one, ◌≡◌, ℕ, zero, suc, ◌+◌, ◌-◌, ◌*◌, ◌/◌, ◌%◌, ◌<◌, Bool, true, ◌&&◌, T, eqb, List, [], ◌∷◌, get_or, slice_index, ◌≤◌, inl, inr, arith, eq-zero-or-pos, eqb→eq}
use Rattle.std.proofs.Math.Seq.{take-suc}
use Rattle.std.proofs.lemmas.Grind.{common_steps}
use Rattle.hex.specs.Hex.{encode_upper, encode_with, upper_digits}
use lib.Ieee.Fits.{and_l, and_r}
use Rattle.lin_text.specs.declared.buffered.TheConstants.{PAIRS}

abbrev are_pairs : ℕ → Bool
are_pairs zero = true
are_pairs (suc p) = (eqb (get_or PAIRS (2 * p) 0) (slice_index upper_digits (p / 16)) && eqb (get_or PAIRS (2 * p + 1) 0) (slice_index upper_digits (p % 16))) && are_pairs p

below : (n p : ℕ) → T (are_pairs n) → p < n → (get_or PAIRS (2 * p) 0 ≡ slice_index upper_digits (p / 16)) × (get_or PAIRS (2 * p + 1) 0 ≡ slice_index upper_digits (p % 16))
below zero p t h = absurd (omega arith)
below (suc n) p t h =
    elim (eq-zero-or-pos (n - p)) [
      | inl z ↦ let e : p ≡ n = omega arith in let a = and_l _ (are_pairs n) t in rw e (eqb→eq _ _ (and_l _ _ a), eqb→eq _ _ (and_r _ _ a))
      | inr g ↦ below n p (and_r _ (are_pairs n) t) (omega arith)
    ]

pub pairs-at : (p : ℕ) → p < 256 → (get_or PAIRS (2 * p) 0 ≡ slice_index upper_digits (p / 16)) × (get_or PAIRS (2 * p + 1) 0 ≡ slice_index upper_digits (p % 16))
pairs-at p h = below 256 p tt h

encode-append : (t xs ys : List ℕ) → encode_with t (xs ++ ys) ≡ encode_with t xs ++ encode_with t ys
unfolding encode_with
encode-append t [] ys = refl
encode-append t (x ∷ xs) ys = rw (encode-append t xs ys)

-- four bytes, and those behind them
behind-four : (a b c d : ℕ) (xs : List ℕ) → xs ≡ take (length (a ∷ b ∷ c ∷ d ∷ xs) - 4) (drop 4 (a ∷ b ∷ c ∷ d ∷ xs))
behind-four a b c d xs = grind (arith, common_steps)

pub encode-four : (xs : List ℕ) → 4 ≤ length xs
    → encode_upper xs ≡ encode_upper (get_or xs 0 0 ∷ get_or xs 1 0 ∷ get_or xs 2 0 ∷ get_or xs 3 0 ∷ []) ++ encode_upper (take (length xs - 4) (drop 4 xs))
unfolding encode_with
encode-four [] h = absurd (omega arith)
encode-four (a ∷ []) h = absurd (omega arith)
encode-four (a ∷ b ∷ []) h = absurd (omega arith)
encode-four (a ∷ b ∷ c ∷ []) h = absurd (omega arith)
encode-four (a ∷ b ∷ c ∷ d ∷ xs) h = ap (λ l. encode_upper (a ∷ b ∷ c ∷ d ∷ l)) (behind-four a b c d xs)

-- one byte more
pub encode-next : (xs : List ℕ) (i : ℕ) → i < length xs
    → encode_upper (take (i + 1) xs) ≡ encode_upper (take i xs) ++ encode_upper (get_or xs i 0 ∷ [])
encode-next xs i h =
    let next : take (i + 1) xs ≡ take i xs ++ (get_or xs i 0 ∷ []) = rw (add-one) (take-suc xs i 0 h) in
    ap encode_upper next ∙ encode-append upper_digits (take i xs) (get_or xs i 0 ∷ [])
