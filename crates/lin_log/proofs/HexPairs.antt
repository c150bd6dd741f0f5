-- The table of hexadecimal digits is held against each digit's value at all 256 bytes, by computing.
use Rattle.std.proofs.Common.{◌≡◌, ◌+◌, ◌*◌, ◌<◌, ℕ, zero, suc, Bool, true, ◌&&◌, T, eqb, eqb→eq, eq-zero-or-pos, get_or, inl, inr, refl, sym, arith, ◌-◌}
use Rattle.std.specs.Prelude.{Option, Some, None, Result, Ok, Err}
use Rattle.std.specs.Option.{unwrap_or}
use Rattle.std.specs.Result.{result_ok}
use Rattle.std.proofs.lemmas.Grind.{common_steps}
use Rattle.hex.specs.Hex.{◌>>=◌, digit_or_error, hex_digit_value, pair_value}
use Rattle.hex.specs.declared.error.FromHexError.{FromHexError}
use lib.Ieee.Fits.{and_l, and_r}
use Rattle.lin_log.specs.declared.digits.TheConstants.{DIGITS}

abbrev are_digits : ℕ → Bool
are_digits zero = true
are_digits (suc c) = eqb (get_or DIGITS c 0) (unwrap_or (hex_digit_value c) 255) && are_digits c

below : (n c : ℕ) → T (are_digits n) → c < n → get_or DIGITS c 0 ≡ unwrap_or (hex_digit_value c) 255
below zero c t h = absurd (omega arith)
below (suc n) c t h =
    elim (eq-zero-or-pos (n - c)) [
      | inl z ↦ let e : c ≡ n = omega arith in rw e (eqb→eq _ _ (and_l _ (are_digits n) t))
      | inr g ↦ below n c (and_r _ (are_digits n) t) (omega arith)
    ]

pub digit-at : (c : ℕ) → c < 256 → get_or DIGITS c 0 ≡ unwrap_or (hex_digit_value c) 255
digit-at c h = below 256 c tt h

-- the byte of two digits with these values, if they are such
abbrev pair_of : ℕ → ℕ → ℕ → Option ℕ → Option ℕ → Result ℕ FromHexError
pair_of c d i p q = do
  h ← digit_or_error c i p
  l ← digit_or_error d (i + 1) q
  Ok (h * 16 + l)

two-of : (c d i : ℕ) (p q : Option ℕ) → unwrap_or p 255 < 16 → unwrap_or q 255 < 16
    → Some (unwrap_or p 255 * 16 + unwrap_or q 255) ≡ result_ok (pair_of c d i p q)
two-of c d i (Some v) (Some w) h k = refl
two-of c d i (Some v) None h k = absurd (omega arith)
two-of c d i None q h k = absurd (omega arith)

-- both are digits
pub pair-is : (c d i x y : ℕ) → x ≡ unwrap_or (hex_digit_value c) 255 → y ≡ unwrap_or (hex_digit_value d) 255
    → x < 16 → y < 16 → Some (x * 16 + y) ≡ result_ok (pair_value c d i)
pair-is c d i x y a b h k = rw (a, b) (two-of c d i (hex_digit_value c) (hex_digit_value d) (rw a at h) (rw b at k))

digit-small : (c v : ℕ) → hex_digit_value c ≡ Some v → v < 16
digit-small c v e = grind (arith, common_steps)

none-of : (c d i : ℕ) (p q : Option ℕ) → ((v : ℕ) → p ≡ Some v → v < 16) → ((v : ℕ) → q ≡ Some v → v < 16)
    → (unwrap_or p 255 < 16 → unwrap_or q 255 < 16 → ⊥) → None ≡ result_ok (pair_of c d i p q)
none-of c d i (Some v) (Some w) a b never = absurd (never (a v refl) (b w refl))
none-of c d i (Some v) None a b never = refl
none-of c d i None q a b never = refl

-- one of them is no digit
pub pair-none : (c d i x y : ℕ) → x ≡ unwrap_or (hex_digit_value c) 255 → y ≡ unwrap_or (hex_digit_value d) 255
    → (x < 16 → y < 16 → ⊥) → None ≡ result_ok (pair_value c d i)
pair-none c d i x y a b never =
    none-of c d i (hex_digit_value c) (hex_digit_value d) (digit-small c) (digit-small d) (λ h k. never (rw (sym a) at h) (rw (sym b) at k))

-- a result without its error
pub ok-then : {A E : Type 0} (r : Result A E) (a : A) → Some a ≡ result_ok r → r ≡ Ok a
ok-then (Ok x) a e = cc
ok-then (Err x) a e = absurd (cc)

pub err-then : {A E : Type 0} (r : Result A E) → None ≡ result_ok r → (e : E) × (r ≡ Err e)
err-then (Ok x) e = absurd (cc)
err-then (Err x) e = (x, refl)
