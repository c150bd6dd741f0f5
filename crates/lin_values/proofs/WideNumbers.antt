-- The number of the bytes of a wide signal, from the last on.
use Rattle.std.proofs.Common.{◌≡◌, ℕ, ◌+◌, ◌-◌, ◌*◌, ◌^◌, ◌<◌, ◌≤◌, List, drop, length, get_or, ap, sym, ◌∙◌, arith}
use Rattle.std.proofs.Math.Nat.{pow-le-pow_right}
use Rattle.std.proofs.lemmas.List.{at_drop_all, at_drop_more}
use Rattle.std.proofs.lemmas.Nat.{pow-add}
use Rattle.lin_values.specs.Meaning.{wide_number}

pub none-yet : (bs : List ℕ) → 0 ≡ wide_number (drop (length bs - 0) bs)
none-yet bs = sym (at_drop_all wide_number bs (length bs - 0) (omega arith))

pub one-more : (bs : List ℕ) (place b n : ℕ) → place < length bs → b ≡ get_or bs (length bs - 1 - place) b → n ≡ wide_number (drop (length bs - place) bs) → 256 * n + b ≡ wide_number (drop (length bs - (place + 1)) bs)
one-more bs place b n lt is so =
    let here : length bs - 1 - place ≡ length bs - (place + 1) = omega arith in
    let next : length bs - (place + 1) + 1 ≡ length bs - place = omega arith in
    let more : wide_number (drop (length bs - (place + 1)) bs) ≡ get_or bs (length bs - (place + 1)) b + 256 * wide_number (drop (length bs - (place + 1) + 1) bs) = at_drop_more wide_number bs (length bs - (place + 1)) b (omega arith) in
    let first : get_or bs (length bs - (place + 1)) b ≡ b = ap (λ i. get_or bs i b) (sym here) ∙ sym is in
    let rest : wide_number (drop (length bs - (place + 1) + 1) bs) ≡ n = ap (λ i. wide_number (drop i bs)) next ∙ sym so in
    omega (arith, more, first, rest)

pub all-read : (bs : List ℕ) (place n : ℕ) → length bs ≤ place → n ≡ wide_number (drop (length bs - place) bs) → n ≡ wide_number bs
all-read bs place n le so = so ∙ ap (λ i. wide_number (drop i bs)) (let z : length bs - place ≡ 0 = omega arith in z)

pub place-more : (n b place : ℕ) → n < 256 ^ place → b < 256 → 256 * n + b < 256 ^ (place + 1)
place-more n b place h small = omega (arith, pow-add 256 place 1)

pub fits-more : (n b place : ℕ) → n < 256 ^ place → b < 256 → place < 8 → 256 * n + b < 2 ^ 64
fits-more n b place h small few =
    let le : place + 1 ≤ 8 = omega arith in
    let most : 256 ^ (place + 1) ≤ 256 ^ 8 = pow-le-pow_right (omega arith) le in
    omega (arith, place-more n b place h small, most)
