use Rattle.std.proofs.Common.{arith, ◌≡◌, ℕ, ◌*◌, ◌<◌, ◌≤◌, ◌/◌, ◌^◌, true, nat_eq, nat_lt}
use Rattle.std.proofs.lemmas.Bool.Decides.{nat_tests}
use Rattle.std.proofs.lemmas.Nat.{pow_pos, div_below, le-div}
use Rattle.std.proofs.Math.Nat.{pow-le-pow_right}
use Rattle.lin_frame.proofs.layout.has_at_most.Goals as goal

wide_size : (x s : ℕ) → x < 2 ^ 16 → 16 ≤ s → nat_lt x (2 ^ s) ≡ true
wide_size x s h g = let p : 2 ^ 16 ≤ 2 ^ s = pow-le-pow_right {n = 2} (omega arith) {i = 16} {j = s} g in grind (arith, nat_tests)

narrow_size : (x s : ℕ) → nat_eq (x / 2 ^ s) 0 ≡ nat_lt x (2 ^ s)
narrow_size x s =
    let pos = pow_pos s in
    let below : x < 1 * 2 ^ s → x / 2 ^ s < 1 = div_below x (2 ^ s) 1 pos in
    let above : 1 * 2 ^ s ≤ x → 1 ≤ x / 2 ^ s = le-div 1 x (2 ^ s) pos in
    grind (arith, nat_tests)

pub returns-then-bits-ge16 : goal.returns-then-bits-ge16
returns-then-bits-ge16 c =
    let wide = wide_size c.args.number c.args.bits in
    grind (arith, nat_tests, wide)

pub returns-else-bits-ge16 : goal.returns-else-bits-ge16
returns-else-bits-ge16 c = narrow_size c.args.number c.args.bits
