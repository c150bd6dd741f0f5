use Rattle.std.proofs.Common.{◌≡◌, ◌&&◌, ◌+◌, ◌-◌, ◌*◌, ◌%◌, ◌^◌, ◌<◌, ◌≤◌, ℕ, if◌then◌else◌, nat_le, nat_lt, min, max, ap, ◌∙◌, arith, bit_and, bit_or}
use Rattle.std.specs.Int.{w64, bit_not}
use Rattle.std.proofs.lemmas.Bool.Decides.{nat_tests}
use Rattle.std.proofs.lemmas.Nat.{pow_pos, mod_below}
use Rattle.std.proofs.lemmas.Nat.Bits.{bit_at_and, bit_at_or, bit_at_not, bit_at_ones, bit_at_ones_above, bit_at-lt}
use Rattle.lin_frame.specs.Frame.{bit}
use Rattle.lin_frame.proofs.Numbers.{bit-mod_low, bit-shl_low, bit-shl_high}
use Rattle.lin_frame.proofs.bits.put_bits.Goals as goal

-- a mask of `size` ones from `offset` on
abbrev mask : ℕ → ℕ → ℕ
mask offset size = (2 ^ size - 1) * 2 ^ offset % 2 ^ 64

mask_below : (offset size b : ℕ) → b < 64 → b < offset → bit (mask offset size) b ≡ 0
mask_below offset size b h l = bit-mod_low ((2 ^ size - 1) * 2 ^ offset) 64 b h ∙ bit-shl_low (2 ^ size - 1) offset b l

mask_inside : (offset size b : ℕ) → b < 64 → offset ≤ b → b < offset + size → bit (mask offset size) b ≡ 1
mask_inside offset size b h l u =
    bit-mod_low ((2 ^ size - 1) * 2 ^ offset) 64 b h ∙ bit-shl_high (2 ^ size - 1) offset b l ∙ bit_at_ones size (b - offset) (omega arith)

mask_above : (offset size b : ℕ) → b < 64 → offset + size ≤ b → bit (mask offset size) b ≡ 0
mask_above offset size b h u =
    bit-mod_low ((2 ^ size - 1) * 2 ^ offset) 64 b h ∙ bit-shl_high (2 ^ size - 1) offset b (omega arith) ∙ bit_at_ones_above size (b - offset) (omega arith)

-- the word where the mask is 0, the value where it is 1
mixed : (word value m b : ℕ) → b < 64 → m < 2 ^ 64 → bit (bit_or (bit_and word (bit_not w64 m)) (bit_and value m)) b ≡ max (min (bit word b) (1 - bit m b)) (min (bit value b) (bit m b))
mixed word value m b h l =
    bit_at_or (bit_and word (bit_not w64 m)) (bit_and value m) b
    ∙ ap (λ x. max x (bit (bit_and value m) b)) (bit_at_and word (bit_not w64 m) b ∙ ap (λ x. min (bit word b) x) (bit_at_not w64 m b l h))
    ∙ ap (λ x. max (min (bit word b) (1 - bit m b)) x) (bit_at_and value m b)

put : (word offset size value b : ℕ) → b < 64 → bit (bit_or (bit_and word (bit_not w64 (mask offset size))) (bit_and (value * 2 ^ offset % 2 ^ 64) (mask offset size))) b ≡ (if nat_le offset b && nat_lt b (offset + size) then bit value (b - offset) else bit word b)
put word offset size value b h =
    let all = mixed word (value * 2 ^ offset % 2 ^ 64) (mask offset size) b h (mod_below ((2 ^ size - 1) * 2 ^ offset) (2 ^ 64) (pow_pos 64)) in
    let below = mask_below offset size b h in
    let inside = mask_inside offset size b h in
    let above = mask_above offset size b h in
    let low = bit-mod_low (value * 2 ^ offset) 64 b h in
    let shifted = bit-shl_high value offset b in
    let small = bit_at-lt word b in
    let small_value = bit_at-lt value (b - offset) in
    grind (arith, nat_tests, all, below, inside, above, low, shifted, small, small_value)

pub returns : goal.returns
returns c = λ b h.
    ap (λ m. bit (bit_or (bit_and c.args.word (bit_not w64 (m * 2 ^ c.args.offset % 2 ^ 64))) (bit_and (c.args.value * 2 ^ c.args.offset % 2 ^ 64) (m * 2 ^ c.args.offset % 2 ^ 64))) b) c.low_ones.ensures
    ∙ put c.args.word c.args.offset c.args.size c.args.value b h
