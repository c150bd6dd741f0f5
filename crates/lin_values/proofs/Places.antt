-- One digit more of a text.
use Rattle.std.proofs.Common.{◌≡◌, ℕ, zero, suc, ◌+◌, ◌-◌, ◌*◌, ◌^◌, ◌<◌, ◌≤◌, ap, sym, ◌∙◌, arith, refl, Some, None, true, false, List, [], ◌∷◌, nat_lt, length, drop, get_or, drop-cons, subst, if◌then◌else◌}
use Rattle.std.specs.Char.{is_ascii_digit}
use Rattle.std.proofs.Math.Nat.{mul-le-mul_right}
use Rattle.std.proofs.lemmas.Grind.{common_steps}
use Rattle.lin_values.specs.Read.{places_after, whole_after, unsigned_number}
use Rattle.lin_values.proofs.Powers.{ten-more}

pub place-fits : (n d left : ℕ) → 0 < left → d < 10 → n + 10 ^ left ≤ 10 ^ 38 → n + d * 10 ^ (left - 1) + 10 ^ (left - 1) ≤ 10 ^ 38
place-fits n d left h s l =
    let e : left ≡ (left - 1) + 1 = omega arith in
    omega (arith, ap (λ k. 10 ^ k) e ∙ ten-more (left - 1), mul-le-mul_right {m = d} {n = 9} (10 ^ (left - 1)) (omega arith))

pub place-step : (n left c : ℕ) (cs : List ℕ) → 0 < left → is_ascii_digit c ≡ true → places_after n left (c ∷ cs) ≡ places_after (n + (c - 48) * 10 ^ (left - 1)) (left - 1) cs
place-step n zero c cs h e = absurd (omega arith)
place-step n (suc k) c cs h e = let p : suc k - 1 ≡ k = omega arith in rw (p, e) refl

-- a whole part of 10 digits or more, not counting zeros in front, is no decimal
pub too-big : (cs : List ℕ) (n : ℕ) → 10 ^ 14 ≤ n → whole_after n cs ≡ None
too-big [] n h = let e : nat_lt n (10 ^ 14) ≡ false = grind (arith, common_steps) in rw e refl
too-big (c ∷ cs) n h =
    let e : nat_lt n (10 ^ 14) ≡ false = grind (arith, common_steps) in
    let more = too-big cs (n * 10 + (c - 48)) (omega arith) in
    grind (arith, common_steps, e, more)

pub after-big : (cs : List ℕ) (i n : ℕ) → i < length cs → is_ascii_digit (get_or cs i 0) ≡ true → 10 ^ 14 ≤ n * 10 + (get_or cs i 0 - 48) → whole_after n (drop i cs) ≡ None
after-big cs i n h e big = rw (drop-cons cs i 0 h, e) (too-big (drop (suc i) cs) (n * 10 + (get_or cs i 0 - 48)) big)

pub unsigned-is : (cs : List ℕ) (u : ℕ) → 0 < length cs → is_ascii_digit (get_or cs 0 0) ≡ true → whole_after 0 cs ≡ Some u → unsigned_number cs ≡ Some u
unsigned-is [] u h d e = absurd (omega arith)
unsigned-is (c ∷ cs) u h d e = subst (λ b. (if b then whole_after 0 (c ∷ cs) else None) ≡ Some u) (sym d) e
