-- Hexadecimal digits hold no tab and begin no comment.
use Rattle.std.proofs.Common.{◌≡◌, ◌+◌, ◌*◌, ◌-◌, ◌==◌, ◌%◌, ◌&&◌, ◌||◌, ℕ, List, [], ◌∷◌, Bool, true, false, not, nat_le, refl, arith, Option, Some, None, Result, Ok, Err, length, slice_index, if◌then◌else◌}
use Rattle.std.specs.List.{list_all}
use Rattle.std.specs.Result.{result_ok}
use Rattle.std.proofs.lemmas.Bool.{and_parts}
use Rattle.std.proofs.lemmas.Grind.{common_steps}
use Rattle.hex.specs.Hex.{◌>>=◌, decode_of, decode_pairs, digit_or_error, hex_digit_value, pair_value, value_at}
use Rattle.hex.specs.declared.error.FromHexError.{FromHexError}
use Rattle.hex.specs.declared.error.FromHexError.TheVariants.{OddLength}
use Rattle.lin_log.proofs.Items.{both}

abbrev pub no_tab : ℕ → Bool
no_tab b = not (b == 9)

abbrev pub no_tabs : List ℕ → Bool
no_tabs = list_all no_tab

abbrev pub is_field : List ℕ → Bool
is_field f = no_tabs f && not (slice_index f 0 == 35)

hex-then : {A B : Type 0} (o : Result A FromHexError) (k : A → Result B FromHexError) (b : B) → (o >>= k) ≡ Ok b → (a : A) × (o ≡ Ok a) × (k a ≡ Ok b)
hex-then (Ok a) k b e = (a, refl, e)
hex-then (Err x) k b e = absurd (cc)

found-digit : (c i : ℕ) (o : Option ℕ) (v : ℕ) → digit_or_error c i o ≡ Ok v → o ≡ Some v
found-digit c i (Some w) v e = cc
found-digit c i None v e = absurd (cc)

digit-tests : (t u w : Bool) (x y z v : ℕ) → (if t then Some x else if u then Some y else if w then Some z else None) ≡ Some v → (t || (u || w)) ≡ true
digit-tests true u w x y z v e = refl
digit-tests false true w x y z v e = refl
digit-tests false false true x y z v e = refl
digit-tests false false false x y z v e = absurd (cc)

hex-digit : (c v : ℕ) → hex_digit_value c ≡ Some v → (no_tab c ≡ true) × (not (c == 35) ≡ true)
hex-digit c v e =
    let t = digit-tests (nat_le 65 c && nat_le c 70) (nat_le 97 c && nat_le c 102) (nat_le 48 c && nat_le c 57) (c - 55) (c - 87) (c - 48) v e in
    (grind (arith, common_steps), grind (arith, common_steps))

pairs-whole : (i : ℕ) (f bs : List ℕ) → decode_pairs i f ≡ Ok bs → is_field f ≡ true
unfolding decode_pairs
pairs-whole i [] bs e = refl
pairs-whole i (b ∷ []) bs e = absurd (cc)
pairs-whole i (b ∷ c ∷ f) bs e =
    let p = hex-then (pair_value b c i) (λ byte. decode_pairs (i + 2) f >>= (λ bytes. Ok (byte ∷ bytes))) bs e in
    let more = hex-then (decode_pairs (i + 2) f) (λ bytes. Ok (p.0 ∷ bytes)) bs p.2 in
    let q = hex-then (value_at b i) (λ high. value_at c (i + 1) >>= (λ low. Ok (high * 16 + low))) p.0 p.1 in
    let r = hex-then (value_at c (i + 1)) (λ low. Ok (q.0 * 16 + low)) p.0 q.2 in
    let high = hex-digit b q.0 (found-digit b i (hex_digit_value b) q.0 q.1) in
    let low = hex-digit c r.0 (found-digit c (i + 1) (hex_digit_value c) r.0 r.1) in
    let rest = and_parts (no_tabs f) (not (slice_index f 0 == 35)) (pairs-whole (i + 2) f more.0 more.1) in
    both (no_tabs (b ∷ c ∷ f)) (not (b == 35)) (both (no_tab b) (no_tabs (c ∷ f)) high.0 (both (no_tab c) (no_tabs f) low.0 rest.0)) high.1

ok-of : {A E : Type 0} (r : Result A E) (a : A) → result_ok r ≡ Some a → r ≡ Ok a
ok-of (Ok x) a e = cc
ok-of (Err x) a e = absurd (cc)

decoded-by : (odd : Bool) (f bs : List ℕ) → result_ok (if odd then Err OddLength else decode_pairs 0 f) ≡ Some bs → decode_pairs 0 f ≡ Ok bs
decoded-by true f bs e = absurd (cc)
decoded-by false f bs e = ok-of (decode_pairs 0 f) bs e

-- digits that spell bytes
pub digits-of_bytes : (f bs : List ℕ) → result_ok (decode_of f) ≡ Some bs → is_field f ≡ true
digits-of_bytes f bs e = pairs-whole 0 f bs (decoded-by (length f % 2 == 1) f bs e)
