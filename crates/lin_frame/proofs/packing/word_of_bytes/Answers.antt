use Rattle.std.proofs.Common.{◌≡◌, ℕ, ◌+◌, ◌-◌, ◌*◌, ◌/◌, ◌%◌, ◌^◌, ◌<◌, ◌≤◌, inl, inr, List, get_or, take, bit_or, ap, sym, ◌∙◌, arith}
use Rattle.std.proofs.lemmas.Bool.{cases_order}
use Rattle.std.proofs.lemmas.List.{get_or-take, get_or_past, length-take}
use Rattle.std.proofs.Math.Nat.{div-add-mod}
use Rattle.std.proofs.lemmas.Nat.{mod_below}
use Rattle.std.proofs.lemmas.Nat.Bits.{bit_at-zero, bit_at_or, bit_at_above}
use Rattle.lin_frame.specs.Frame.{bit}
use Rattle.lin_frame.specs.Bits.{data_bit}
use Rattle.lin_frame.proofs.Numbers.{bit-mod_low, bit-shl_low, bit-shl_high}
use Rattle.lin_frame.proofs.packing.word_of_bytes.Goals as goal

before : (bytes : List ℕ) (n b : ℕ) → b / 8 < n → data_bit (take n bytes) b ≡ data_bit bytes b
before bytes n b h = ap (λ x. bit x (b % 8)) (get_or-take n bytes (b / 8) 0 h)

after : (bytes : List ℕ) (n b : ℕ) → n ≤ b / 8 → data_bit (take n bytes) b ≡ 0
after bytes n b h =
    ap (λ x. bit x (b % 8)) (get_or_past (take n bytes) (b / 8) 0 (omega (arith, length-take n bytes))) ∙ bit_at-zero (b % 8)

byte_more : (bytes : List ℕ) (word byte n b : ℕ) → b < 64 → byte < 2 ^ 8 → byte ≡ get_or bytes n 0 → bit word b ≡ data_bit (take n bytes) b → bit (bit_or word (byte * 2 ^ (8 * n) % 2 ^ 64)) b ≡ data_bit (take (n + 1) bytes) b
byte_more bytes word byte n b h s e w =
    let both = bit_at_or word (byte * 2 ^ (8 * n) % 2 ^ 64) b in
    let low = bit-mod_low (byte * 2 ^ (8 * n)) 64 b h in
    let whole = div-add-mod b 8 in
    let rest = mod_below b 8 (omega arith) in
    let lt : b / 8 < n → bit (bit_or word (byte * 2 ^ (8 * n) % 2 ^ 64)) b ≡ data_bit (take (n + 1) bytes) b = λ l.
    let none = bit-shl_low byte (8 * n) b (omega arith) in
    let old = before bytes n b l in
    let new = before bytes (n + 1) b (omega arith) in
    omega (arith, both, low, none, old, new, w) in
    let eq : b / 8 ≡ n → bit (bit_or word (byte * 2 ^ (8 * n) % 2 ^ 64)) b ≡ data_bit (take (n + 1) bytes) b = λ l.
    let here = bit-shl_high byte (8 * n) b (omega arith) in
    let place : bit byte (b - 8 * n) ≡ bit byte (b % 8) = ap (λ k. bit byte k) (omega arith) in
    let item : bit byte (b % 8) ≡ data_bit bytes b = ap (λ x. bit x (b % 8)) (e ∙ ap (λ k. get_or bytes k 0) (sym l)) in
    let old = after bytes n b (omega arith) in
    let new = before bytes (n + 1) b (omega arith) in
    omega (arith, both, low, here, place, item, old, new, w) in
    let gt : n < b / 8 → bit (bit_or word (byte * 2 ^ (8 * n) % 2 ^ 64)) b ≡ data_bit (take (n + 1) bytes) b = λ l.
    let here = bit-shl_high byte (8 * n) b (omega arith) in
    let none = bit_at_above byte 8 (b - 8 * n) s (omega arith) in
    let old = after bytes n b (omega arith) in
    let new = after bytes (n + 1) b (omega arith) in
    omega (arith, both, low, here, none, old, new, w) in
    elim (cases_order (b / 8) n) [ inl l ↦ eq l | inr m ↦ elim m [ inl l ↦ lt l | inr l ↦ gt l ] ]

pub loop-index-preserved : goal.loop-index-preserved
loop-index-preserved c = λ b h.
    let s : c.from.result < 2 ^ 8 = omega (arith, c.from.ensures, c.type_inv.bytes c.loop-index.index) in
    byte_more c.args.bytes.now c.loop-index.word c.from.result c.loop-index.index b h s c.from.ensures (c.loop-index.invariant b h)
