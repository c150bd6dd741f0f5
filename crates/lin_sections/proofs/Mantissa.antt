-- The units of a number, digit by digit and as a quotient.
use Rattle.std.proofs.Common.{◌≡◌, ℕ, suc, ◌+◌, ◌-◌, ◌*◌, ◌/◌, ◌%◌, ◌^◌, ◌<◌, ◌≤◌, ◌==◌, ◌&&◌, ap, sym, ◌∙◌, refl, arith, inl, inr, List, [], ◌∷◌, ◌++◌, length, length-append, fold, Bool, true, false, Option, Some, None, nat_lt, nat_le, ◌⊎◌}
use Rattle.std.specs.Prelude.{IfSome, option_and_then, if◌then◌else◌}
use Rattle.std.specs.Char.{is_ascii_digit}
use Rattle.std.specs.List.{list_all}
use Rattle.std.proofs.Math.Nat.{mul-le-mul_right, mul-lt-mul_of_pos_right, mul-pos, one-le-pow}
use Rattle.std.proofs.lemmas.Bool.{cases_Bool}
use Rattle.std.proofs.lemmas.Grind.{common_steps}
use Rattle.std.proofs.lemmas.Nat.{pow-add, mod-mul-add, div-mul-add, le-div}
use Rattle.lin_sections.specs.Real.{HasRoom, digits_value, digit_units, digits_units, whole_quotient, scaled_units, mantissa_units}
use Rattle.lin_values.proofs.Powers.{ten-next, ten-below}
use Rattle.lin_sections.proofs.Rooms.{room-kept, room-taken, room-below, room-first}

-- ---- the value of digits

nothing-before : (d : ℕ) → 10 * 0 + d ≡ d
nothing-before d = omega arith

add-nothing : (n : ℕ) → n ≡ n + 0
add-nothing n = omega arith

no-value : (b : Bool) (o : Option ℕ) → (if b && false then o else None) ≡ None
no-value true o = refl
no-value false o = refl

-- a digit in front counts most
regroup : (n d t v w : ℕ) → w ≡ d * t + v → (10 * n + d) * t + v ≡ n * (10 * t) + w
regroup n d t v w e = omega (arith, e)

value-from : (ds : List ℕ) (n : ℕ) → fold (λ n c. 10 * n + (c - 48)) n ds ≡ n * 10 ^ length ds + digits_value ds
value-from [] n = omega arith
value-from (c ∷ cs) n =
    let tens : 10 ^ length (c ∷ cs) ≡ 10 * 10 ^ length cs = ten-next (length cs) in
    let e : fold (λ n c. 10 * n + (c - 48)) (10 * 0 + (c - 48)) cs ≡ (c - 48) * 10 ^ length cs + digits_value cs =
    value-from cs (10 * 0 + (c - 48)) ∙ ap (λ d. d * 10 ^ length cs + digits_value cs) (nothing-before (c - 48))
    in
    value-from cs (10 * n + (c - 48))
    ∙ regroup n (c - 48) (10 ^ length cs) (digits_value cs) (digits_value (c ∷ cs)) e
    ∙ ap (λ t. n * t + digits_value (c ∷ cs)) (sym tens)

value-cons : (c : ℕ) (cs : List ℕ) → digits_value (c ∷ cs) ≡ (c - 48) * 10 ^ length cs + digits_value cs
value-cons c cs = value-from cs (10 * 0 + (c - 48)) ∙ ap (λ d. d * 10 ^ length cs + digits_value cs) (nothing-before (c - 48))

digit-below : (c : ℕ) → is_ascii_digit c ≡ true → c - 48 < 10
digit-below c e = grind (arith, common_steps)

first-of : (c : ℕ) (cs : List ℕ) → list_all is_ascii_digit (c ∷ cs) ≡ true → is_ascii_digit c ≡ true
first-of c cs e = grind (arith, common_steps)

rest-of : (c : ℕ) (cs : List ℕ) → list_all is_ascii_digit (c ∷ cs) ≡ true → list_all is_ascii_digit cs ≡ true
rest-of c cs e = grind (arith, common_steps)

value-below : (ds : List ℕ) → list_all is_ascii_digit ds ≡ true → digits_value ds < 10 ^ length ds
value-below [] e = omega arith
value-below (c ∷ cs) e =
    let d : c - 48 < 10 = digit-below c (first-of c cs e) in
    let more = value-below cs (rest-of c cs e) in
    let tens : 10 ^ length (c ∷ cs) ≡ 10 * 10 ^ length cs = ten-next (length cs) in
    omega (arith, more, tens, value-cons c cs, mul-le-mul_right {m = c - 48} {n = 9} (10 ^ length cs) (omega arith))

-- ---- whole quotients

exact : (n u e : ℕ) → 0 < e → u < 10 ^ 33 → n ≡ u * e → whole_quotient n e ≡ Some u
exact n u e p h same =
    let r : n % e ≡ 0 = rw (same ∙ add-nothing (u * e)) (mod-mul-add u e 0 p) in
    let q : n / e ≡ u = rw (same ∙ add-nothing (u * e)) (div-mul-add u e 0 p) in
    let small : nat_lt u (10 ^ 33) ≡ true = grind (arith, common_steps) in
    rw (r, q, small) refl

-- a remainder
broken : (n u e r : ℕ) → 0 < r → r < e → n ≡ u * e + r → whole_quotient n e ≡ None
broken n u e r p h same =
    let m : n % e ≡ r = rw same (mod-mul-add u e r h) in
    let t : (r == 0) ≡ false = grind (arith, common_steps) in
    rw (m, t) refl

too-large : (n e : ℕ) → 0 < e → 10 ^ 33 * e ≤ n → whole_quotient n e ≡ None
too-large n e p h =
    let q : 10 ^ 33 ≤ n / e = le-div (10 ^ 33) n e p h in
    let t : nat_lt (n / e) (10 ^ 33) ≡ false = grind (arith, common_steps) in
    rw t (no-value (n % e == 0) (Some (n / e)))

-- ---- one digit

step-zero : (c : ℕ) (cs : List ℕ) (u left down : ℕ) → is_ascii_digit c ≡ true → (c == 48) ≡ true → digits_units u left down (c ∷ cs) ≡ digits_units u (left - 1) down cs
step-zero c cs u left down d z = rw (d, z) refl

step-taken : (c : ℕ) (cs : List ℕ) (u left down : ℕ) → is_ascii_digit c ≡ true → (c == 48) ≡ false → (nat_lt down left && nat_le (left - down) 33) ≡ true
    → digits_units u left down (c ∷ cs) ≡ digits_units (u + (c - 48) * 10 ^ (left - down - 1)) (left - 1) down cs
step-taken c cs u left down d z t = rw (d, z, t) refl

step-refused : (c : ℕ) (cs : List ℕ) (u left down : ℕ) → is_ascii_digit c ≡ true → (c == 48) ≡ false → (nat_lt down left && nat_le (left - down) 33) ≡ false
    → digits_units u left down (c ∷ cs) ≡ None
step-refused c cs u left down d z t = rw (d, z, t) refl

-- ---- all digits

zero-total : (c : ℕ) (cs : List ℕ) (u a e : ℕ) → (c == 48) ≡ true → u * e + digits_value cs * 10 ^ a ≡ u * e + digits_value (c ∷ cs) * 10 ^ a
zero-total c cs u a e z =
    let d : c - 48 ≡ 0 = grind (arith, common_steps) in
    let v : digits_value (c ∷ cs) ≡ digits_value cs = value-cons c cs ∙ rw d (omega arith) in
    ap (λ w. u * e + w * 10 ^ a) (sym v)

taken : (u d p k v w a e : ℕ) → w ≡ d * 10 ^ k + v → 10 ^ p * e ≡ 10 ^ k * 10 ^ a → (u + d * 10 ^ p) * e + v * 10 ^ a ≡ u * e + w * 10 ^ a
taken u d p k v w a e same tens = rw same (omega (arith, ap (λ t. d * t) tens))

taken-total : (c : ℕ) (cs : List ℕ) (u left down a f : ℕ) → left ≡ (a + suc (length cs)) - f → down < left
    → (u + (c - 48) * 10 ^ (left - down - 1)) * 10 ^ (f + down) + digits_value cs * 10 ^ a ≡ u * 10 ^ (f + down) + digits_value (c ∷ cs) * 10 ^ a
taken-total c cs u left down a f e l =
    let p = left - down - 1 in
    let k = length cs in
    let whole : p + (f + down) ≡ k + a = omega arith in
    let tens : 10 ^ p * 10 ^ (f + down) ≡ 10 ^ k * 10 ^ a = sym (pow-add 10 p (f + down)) ∙ ap (λ i. 10 ^ i) whole ∙ pow-add 10 k a in
    taken u (c - 48) p k (digits_value cs) (digits_value (c ∷ cs)) a (10 ^ (f + down)) (value-cons c cs) tens

positive : (c : ℕ) → is_ascii_digit c ≡ true → (c == 48) ≡ false → 0 < c - 48
positive c d z = grind (arith, common_steps)

value-some : (c : ℕ) (cs : List ℕ) → 0 < c - 48 → 10 ^ length cs ≤ digits_value (c ∷ cs)
value-some c cs h = omega (arith, value-cons c cs, mul-le-mul_right {m = 1} {n = c - 48} (10 ^ length cs) h)

low : (c : ℕ) (cs : List ℕ) (u left down a f : ℕ) → list_all is_ascii_digit (c ∷ cs) ≡ true → 0 < c - 48 → left ≡ (a + suc (length cs)) - f → left ≤ down
    → whole_quotient (u * 10 ^ (f + down) + digits_value (c ∷ cs) * 10 ^ a) (10 ^ (f + down)) ≡ None
low c cs u left down a f all d e l =
    let v = digits_value (c ∷ cs) in
    let k = suc (length cs) in
    let below : v < 10 ^ k = value-below (c ∷ cs) all in
    let some : 0 < v = omega (arith, value-some c cs d, one-le-pow (length cs) 10 (omega arith)) in
    let ten : 0 < 10 ^ a = one-le-pow a 10 (omega arith) in
    let r : v * 10 ^ a < 10 ^ (k + a) = rw (pow-add 10 k a) (mul-lt-mul_of_pos_right below ten) in
    let most : 10 ^ (k + a) ≤ 10 ^ (f + down) = ten-below (k + a) (f + down) (omega arith) in
    broken (u * 10 ^ (f + down) + v * 10 ^ a) u (10 ^ (f + down)) (v * 10 ^ a) (mul-pos some ten) (omega (arith, r, most)) refl

high : (c : ℕ) (cs : List ℕ) (left down a f : ℕ) → 0 < c - 48 → left ≡ (a + suc (length cs)) - f → 33 < left - down
    → whole_quotient (0 * 10 ^ (f + down) + digits_value (c ∷ cs) * 10 ^ a) (10 ^ (f + down)) ≡ None
high c cs left down a f d e l =
    let v = digits_value (c ∷ cs) in
    let k = length cs in
    let few : 33 + (f + down) ≤ k + a = omega arith in
    let some : 10 ^ k * 10 ^ a ≤ v * 10 ^ a = mul-le-mul_right (10 ^ a) (value-some c cs d) in
    let most : 10 ^ 33 * 10 ^ (f + down) ≤ 10 ^ k * 10 ^ a = rw (sym (pow-add 10 33 (f + down)), sym (pow-add 10 k a)) (ten-below (33 + (f + down)) (k + a) few) in
    too-large (0 * 10 ^ (f + down) + v * 10 ^ a) (10 ^ (f + down)) (one-le-pow (f + down) 10 (omega arith)) (omega (arith, some, most))

near : (down left : ℕ) → (nat_lt down left && nat_le (left - down) 33) ≡ true → (down < left) × (left - down ≤ 33)
near down left t = (grind (arith, common_steps), grind (arith, common_steps))

far : (down left : ℕ) → (nat_lt down left && nat_le (left - down) 33) ≡ false → (left ≤ down) ⊎ (33 < left - down)
far down left t = grind (arith, common_steps)

pub digits-are : (ds : List ℕ) (u left down a f : ℕ) → list_all is_ascii_digit ds ≡ true → left ≡ (a + length ds) - f → HasRoom u left down
    → digits_units u left down ds ≡ whole_quotient (u * 10 ^ (f + down) + digits_value ds * 10 ^ a) (10 ^ (f + down))
digits-are [] u left down a f all e room =
    sym (exact (u * 10 ^ (f + down) + 0 * 10 ^ a) u (10 ^ (f + down)) (one-le-pow (f + down) 10 (omega arith)) (room-below u left down room) (omega arith))
digits-are (c ∷ cs) u left down a f all e room =
    let digit = first-of c cs all in
    let more = rest-of c cs all in
    let next : left - 1 ≡ (a + length cs) - f = omega arith in
    let den = 10 ^ (f + down) in
    elim (cases_Bool (c == 48)) [
      | inl z ↦ step-zero c cs u left down digit z
          ∙ digits-are cs u (left - 1) down a f more next (room-kept u left down room)
          ∙ ap (λ n. whole_quotient n den) (zero-total c cs u a den z)
      | inr z ↦ elim (cases_Bool (nat_lt down left && nat_le (left - down) 33)) [
        | inl t ↦ (let h = near down left t in
            step-taken c cs u left down digit z t
            ∙ digits-are cs (u + (c - 48) * 10 ^ (left - down - 1)) (left - 1) down a f more next (room-taken u (c - 48) left down (digit-below c digit) h.0 h.1 room)
            ∙ ap (λ n. whole_quotient n den) (taken-total c cs u left down a f e h.0))
        | inr t ↦ step-refused c cs u left down digit z t ∙ sym (elim (far down left t) [
          | inl h ↦ low c cs u left down a f all (positive c digit z) e h
          | inr h ↦ (let none : u ≡ 0 = room.0 h in rw none (high c cs left down a f (positive c digit z) e h))
        ])
      ]
    ]

-- ---- one behind the other, and other bytes

after-one : (o : Option ℕ) (cs ys : List ℕ) (left down : ℕ)
    → ((n : ℕ) → digits_units n (left - 1) down (cs ++ ys) ≡ option_and_then (λ n. digits_units n (left - 1 - length cs) down ys) (digits_units n (left - 1) down cs))
    → option_and_then (λ n. digits_units n (left - 1) down (cs ++ ys)) o
    ≡ option_and_then (λ n. digits_units n (left - suc (length cs)) down ys) (option_and_then (λ n. digits_units n (left - 1) down cs) o)
after-one None cs ys left down ih = refl
after-one (Some n) cs ys left down ih =
    let e : left - suc (length cs) ≡ left - 1 - length cs = omega arith in
    rw e (ih n)

pub digits-append : (xs ys : List ℕ) (u left down : ℕ)
    → digits_units u left down (xs ++ ys) ≡ option_and_then (λ n. digits_units n (left - length xs) down ys) (digits_units u left down xs)
digits-append [] ys u left down = let e : left - 0 ≡ left = omega arith in rw e refl
digits-append (c ∷ cs) ys u left down =
    elim (cases_Bool (is_ascii_digit c)) [
      | inl d ↦ rw d (after-one (digit_units u left down c) cs ys left down (λ n. digits-append cs ys n (left - 1) down))
      | inr d ↦ rw d refl
    ]

none-after : (o : Option ℕ) (cs : List ℕ) (left down : ℕ) → ((n : ℕ) → digits_units n (left - 1) down cs ≡ None) → option_and_then (λ n. digits_units n (left - 1) down cs) o ≡ None
none-after None cs left down h = refl
none-after (Some n) cs left down h = h n

and-rest : (a b : Bool) → (a && b) ≡ false → a ≡ true → b ≡ false
and-rest a b e t = grind (arith, common_steps)

pub other-bytes : (ds : List ℕ) (u left down : ℕ) → list_all is_ascii_digit ds ≡ false → digits_units u left down ds ≡ None
other-bytes [] u left down e = absurd (cc)
other-bytes (c ∷ cs) u left down e =
    elim (cases_Bool (is_ascii_digit c)) [
      | inl d ↦ rw d (none-after (digit_units u left down c) cs left down (λ n. other-bytes cs n (left - 1) down (and-rest (is_ascii_digit c) (list_all is_ascii_digit cs) e d)))
      | inr d ↦ rw d refl
    ]

-- ---- a whole part and a fraction

all-digits : (ws fs : List ℕ) (up down : ℕ) → 0 < length (ws ++ fs) → list_all is_ascii_digit (ws ++ fs) ≡ true
    → digits_units 0 (24 + length ws + up) down (ws ++ fs) ≡ mantissa_units ws fs up down
all-digits ws fs up down some t =
    let left : 24 + length ws + up ≡ (24 + up + length (ws ++ fs)) - length fs = omega (arith, length-append ws fs) in
    let den = 10 ^ (length fs + down) in
    let h : nat_lt 0 (length (ws ++ fs)) ≡ true = grind (arith, common_steps) in
    let num : 0 * den + digits_value (ws ++ fs) * 10 ^ (24 + up) ≡ digits_value (ws ++ fs) * 10 ^ (24 + up) = omega arith in
    rw (h, t) (digits-are (ws ++ fs) 0 (24 + length ws + up) down (24 + up) (length fs) t left (room-first (24 + length ws + up) down) ∙ ap (λ n. whole_quotient n den) num)

pub mantissa-is : (ws fs : List ℕ) (up down : ℕ) → 0 < length (ws ++ fs)
    → digits_units 0 (24 + length ws + up) down (ws ++ fs) ≡ mantissa_units ws fs up down
mantissa-is ws fs up down some =
    elim (cases_Bool (list_all is_ascii_digit (ws ++ fs))) [
      | inl t ↦ all-digits ws fs up down some t
      | inr t ↦ other-bytes (ws ++ fs) 0 (24 + length ws + up) down t ∙ sym (rw t (no-value (nat_lt 0 (length (ws ++ fs))) (scaled_units (ws ++ fs) (length fs) up down)))
    ]

-- the fraction after the whole part
pub fraction-after : (ws fs : List ℕ) (up down : ℕ) (o : Option ℕ) → 0 < length (ws ++ fs) → o ≡ digits_units 0 (24 + length ws + up) down ws
    → option_and_then (λ n. digits_units n (24 + up) down fs) o ≡ mantissa_units ws fs up down
fraction-after ws fs up down o some e =
    let left : 24 + length ws + up - length ws ≡ 24 + up = omega arith in
    rw e (rw (sym left) (sym (digits-append ws fs 0 (24 + length ws + up) down)) ∙ mantissa-is ws fs up down some)

pub below-all : (o : Option ℕ) (left down : ℕ) → IfSome o (λ n. HasRoom n left down) → IfSome o (λ n. n < 10 ^ 33)
below-all None left down h = h
below-all (Some n) left down h = room-below n left down h
