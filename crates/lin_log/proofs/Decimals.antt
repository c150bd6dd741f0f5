-- Numbers and bytes that are written are read again.
use Rattle.std.proofs.Common.{◌≡◌, ℕ, List, [], ◌∷◌, ◌++◌, refl, ap, ◌∙◌, length, ◌+◌, ◌-◌, ◌*◌, ◌/◌, ◌%◌, ◌^◌, ◌<◌, ◌≤◌, ◌==◌, arith, Bool, true, false, Option, Some, None, Ok, nat_le, ◌&&◌, codes, if◌then◌else◌}
use Rattle.std.specs.Str.{bytes_eq}
use Rattle.std.specs.Fmt.{decimal}
use Rattle.std.proofs.lemmas.Fmt.{decimal_by_steps, length-decimal-le}
use Rattle.std.proofs.lemmas.Grind.{common_steps}
use Rattle.hex.specs.Hex.{encode_upper, encode_with, decode_of, IsBytes}
use Rattle.hex.proofs.HexLemmas.{decode_of-encode_upper}
use Rattle.lin_log.specs.Said.{hex_bytes, is_digit, number, number_after}
use Rattle.lin_log.specs.Words.{hex_word}
use Rattle.lin_log.proofs.Items.{digits-decimal}

guarded : (b : Bool) (x y : Option ℕ) (k l : ℕ) → (x ≡ Some k → y ≡ Some l) → (if b then x else None) ≡ Some k → (if b then y else None) ≡ Some l
guarded true x y k l f e = f e
guarded false x y k l f e = cc e

number_after-push : (m : ℕ) (ds : List ℕ) (k c : ℕ) → is_digit c ≡ true → number_after m ds ≡ Some k
    → number_after m (ds ++ c ∷ []) ≡ Some (k * 10 + (c - 48))
number_after-push m [] k c h e = let f : m ≡ k = cc in rw (h, f) refl
number_after-push m (d ∷ ds) k c h e =
    guarded (nat_le 48 d && nat_le d 57) (number_after (m * 10 + (d - 48)) ds) (number_after (m * 10 + (d - 48)) (ds ++ c ∷ [])) k (k * 10 + (c - 48))
    (λ f. number_after-push (m * 10 + (d - 48)) ds k c h f) e

digit-of : (n : ℕ) → is_digit (48 + n % 10) ≡ true
digit-of n = grind (arith, common_steps)

one-digit : (k : ℕ) → k < 10 → number_after 0 ((48 + k) ∷ []) ≡ Some k
one-digit k small =
    let d : is_digit (48 + k) ≡ true = grind (arith, common_steps) in
    rw d (ap Some (omega arith))

pub after-decimal : (n : ℕ) → n < 2 ^ 64 → number_after 0 (decimal n) ≡ Some n
after-decimal n h =
    decimal_by_steps (λ k ds. number_after 0 ds ≡ Some k) (λ k small. one-digit k small) (λ k ds big ih. number_after-push 0 ds (k / 10) (48 + k % 10) (digit-of k) ih ∙ ap Some (omega arith)) n h

pub number-decimal : (most n : ℕ) → n ≤ most → n < 2 ^ 32 → number most (decimal n) ≡ Some n
number-decimal most n le small =
    let some = (digits-decimal n (omega arith)).some in
    let short : length (decimal n) ≤ 10 = length-decimal-le 10 n (omega arith) (omega arith) (omega arith) in
    let e = after-decimal n (omega arith) in
    let a : nat_le 1 (length (decimal n)) ≡ true = grind (arith, common_steps) in
    let b : nat_le (length (decimal n)) 10 ≡ true = grind (arith, common_steps) in
    let d : nat_le n most ≡ true = grind (arith, common_steps) in
    rw (a, b, e, d) refl

and-false : (b : Bool) → (b && false) ≡ false
and-false true = refl
and-false false = refl

hex-of_text : (w bs : List ℕ) → bytes_eq w (codes "-") ≡ false → (length w == 0) ≡ false → decode_of w ≡ Ok bs → hex_bytes w ≡ Some bs
hex-of_text w bs n l e = rw (n, l, e) refl

hex-not_dash : (b : ℕ) (bs : List ℕ) → (bytes_eq (encode_upper (b ∷ bs)) (codes "-") ≡ false) × ((length (encode_upper (b ∷ bs)) == 0) ≡ false) × (0 < length (encode_upper (b ∷ bs)))
unfolding encode_with
hex-not_dash b bs = (and-false _, grind (arith, common_steps), omega arith)

pub hex-again : (bs : List ℕ) → IsBytes bs → hex_bytes (hex_word bs) ≡ Some bs
hex-again [] h = refl
hex-again (b ∷ bs) h =
    let p = hex-not_dash b bs in
    hex-of_text (encode_upper (b ∷ bs)) (b ∷ bs) p.0 p.1 (decode_of-encode_upper (b ∷ bs) h)
