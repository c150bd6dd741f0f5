-- Values that are read from their places.
use Rattle.std.proofs.Common.{◌≡◌, ℕ, ◌+◌, ◌*◌, ◌/◌, ◌%◌, ◌^◌, ◌<◌, ◌≤◌, true, false, not, ◌&&◌, nat_eq, nat_lt, nat_le, List, length, get_or, take, map, inl, inr, refl, sym, ap, ◌∙◌, arith}
use Rattle.std.proofs.lemmas.Bool.{and_parts, and_from, cond-true, cond-false, leb-true, ltb-true, eqb-true, eq-eqb, lt-ltb, not-true, not_from_false, cases_lt}
use Rattle.std.specs.Int.{w64, byte_at, to_le_bytes, from_le_bytes}
use Rattle.std.proofs.lemmas.List.{get_or-take, get_or_past, length-take, length-take-le}
use Rattle.std.proofs.lemmas.Nat.{mod_below, pow_pos}
use Rattle.std.proofs.lemmas.List.FromFn.{fill_by_all}
use Rattle.std.proofs.Math.Nat.{mod-eq_of_lt}
use Rattle.lin_frame.specs.Words.{numbers}
use Rattle.lin_frame.specs.Frame.{bit}
use Rattle.lin_frame.specs.Bits.{byte_of_bits, data_bit, fits_place, has_good_size, lies_in, number_of_bits, unpacked_value, value_bit}
use Rattle.lin_frame.specs.declared.layout.Place.{Place}
use Rattle.lin_frame.specs.declared.value.Value.{Value}
use Rattle.lin_frame.specs.declared.value.Value.TheVariants.{Scalar, Bytes}
use Rattle.lin_frame.proofs.Numbers.{bit-mod_low, bit-shr, byte_at-shift, data_bit-from_le_bytes, data_bit-to_le_bytes, get_or-bytes_low_first, number_of_bits-bit, number_of_bits-same, numbers-range}

-- a value's bytes are bytes
abbrev pub HasBytes : Value → Type 0
HasBytes (Scalar x) = Unit {0}
HasBytes (Bytes xs) = (k : ℕ) → get_or xs k 0 < 256

-- the value whose bits stand in the place is the one that is read there
pub unpacked_from_bits : (p : Place) (v : Value) (bytes : List ℕ) → fits_place p v ≡ true → HasBytes v → ((j : ℕ) → j < p.size → data_bit bytes (p.offset + j) ≡ value_bit v j) → unpacked_value p bytes ≡ v
unpacked_from_bits p (Scalar x) bytes f u h =
    let parts = and_parts (not p.array) (nat_lt x (2 ^ p.size)) f in
    let at = λ (j : ℕ). data_bit bytes (p.offset + j) in
    let low = ltb-true x (2 ^ p.size) parts.1 in
    cond-false p.array (Bytes (map (byte_of_bits at) (numbers (p.size / 8)))) (Scalar (number_of_bits p.size at)) (not-true p.array parts.0)
    ∙ ap Scalar (number_of_bits-same p.size at (bit x) h ∙ number_of_bits-bit p.size x ∙ mod-eq_of_lt low)
unpacked_from_bits p (Bytes xs) bytes f u h =
    let parts = and_parts p.array (nat_eq (8 * length xs) p.size) f in
    let at = λ (j : ℕ). data_bit bytes (p.offset + j) in
    let long = eqb-true (8 * length xs) p.size parts.1 in
    let item : (k : ℕ) → k < p.size / 8 → get_or xs k 0 ≡ byte_of_bits at k = λ k l.
    let same : (j : ℕ) → j < 8 → at (8 * k + j) ≡ bit (get_or xs k 0) j = λ j m.
    let by : (8 * k + j) / 8 ≡ k = omega arith in
    let rest : (8 * k + j) % 8 ≡ j = omega arith in
    h (8 * k + j) (omega arith)
    ∙ ap (λ i. bit (get_or xs i 0) ((8 * k + j) % 8)) by
    ∙ ap (λ i. bit (get_or xs k 0) i) rest in
    sym (number_of_bits-same 8 (λ j. at (8 * k + j)) (bit (get_or xs k 0)) same ∙ number_of_bits-bit 8 (get_or xs k 0) ∙ mod-eq_of_lt (u k)) in
    cond-true p.array (Bytes (map (byte_of_bits at) (numbers (p.size / 8)))) (Scalar (number_of_bits p.size at)) parts.0
    ∙ ap Bytes (ap (λ ks. map (byte_of_bits at) ks) (numbers-range (p.size / 8)) ∙ sym (fill_by_all (byte_of_bits at) xs (p.size / 8) 0 (omega arith) item))

-- a place that lies in eight bytes
pub place_parts : (first end : ℕ) (p : Place) → lies_in first end p ≡ true → (has_good_size p ≡ true) × (first ≤ p.offset) × (p.offset + p.size ≤ end)
place_parts first end p h =
    let parts = and_parts (has_good_size p && nat_le first p.offset) (nat_le (p.offset + p.size) end) h in
    let low = and_parts (has_good_size p) (nat_le first p.offset) parts.0 in
    (low.0, leb-true first p.offset low.1, leb-true (p.offset + p.size) end parts.1)

-- an array lies in whole bytes
pub array_parts : (p : Place) → has_good_size p ≡ true → p.array ≡ true → (p.offset % 8 ≡ 0) × (p.size % 8 ≡ 0) × (p.size ≤ 64)
array_parts p h a =
    let good = sym (cond-true p.array (nat_eq (p.offset % 8) 0 && nat_eq (p.size % 8) 0 && nat_le 8 p.size && nat_le p.size 64) (nat_le 1 p.size && nat_le p.size 16) a) ∙ h in
    let last = and_parts (nat_eq (p.offset % 8) 0 && nat_eq (p.size % 8) 0 && nat_le 8 p.size) (nat_le p.size 64) good in
    let third = and_parts (nat_eq (p.offset % 8) 0 && nat_eq (p.size % 8) 0) (nat_le 8 p.size) last.0 in
    let first = and_parts (nat_eq (p.offset % 8) 0) (nat_eq (p.size % 8) 0) third.0 in
    (eqb-true (p.offset % 8) 0 first.0, eqb-true (p.size % 8) 0 first.1, leb-true p.size 64 last.1)

-- the bits of a place in the number that eight bytes spell
place_bits : (p : Place) (bytes : List ℕ) (w j : ℕ) → p.offset + p.size ≤ 64 → length bytes ≡ 8 → ((i : ℕ) → get_or bytes i 0 < 256) → w ≡ from_le_bytes w64 bytes → j < p.size → data_bit bytes (p.offset + j) ≡ bit (w / 2 ^ p.offset % 2 ^ p.size) j
place_bits p bytes w j inside long small e h =
    data_bit-from_le_bytes bytes w (p.offset + j) long small e (omega arith)
    ∙ sym (bit-mod_low (w / 2 ^ p.offset) p.size j h ∙ bit-shr w p.offset j)

pub scalar_read : (p : Place) (bytes : List ℕ) (w : ℕ) → lies_in 0 64 p ≡ true → p.array ≡ false → length bytes ≡ 8 → ((i : ℕ) → get_or bytes i 0 < 256) → w ≡ from_le_bytes w64 bytes → unpacked_value p bytes ≡ Scalar (w / 2 ^ p.offset % 2 ^ p.size)
scalar_read p bytes w inside a long small e =
    let x = w / 2 ^ p.offset % 2 ^ p.size in
    let below = lt-ltb x (2 ^ p.size) (mod_below (w / 2 ^ p.offset) (2 ^ p.size) (pow_pos p.size)) in
    unpacked_from_bits p (Scalar x) bytes
    (and_from (not p.array) (nat_lt x (2 ^ p.size)) (not_from_false p.array a) below)
    tt
    (λ j h. place_bits p bytes w j (place_parts 0 64 p inside).2 long small e h)

byte_at-below : (k n : ℕ) → byte_at k n < 256
byte_at-below k n = omega (arith, byte_at-shift k n, mod_below (n / 2 ^ (8 * k)) (2 ^ 8) (pow_pos 8))

few_bytes : (n x k : ℕ) → n ≤ 8 → get_or (take n (to_le_bytes w64 x)) k 0 < 256
few_bytes n x k l =
    let inside : k < n → get_or (take n (to_le_bytes w64 x)) k 0 < 256 = λ h.
    let e = get_or-take n (to_le_bytes w64 x) k 0 h ∙ get_or-bytes_low_first 0 8 x k (omega arith) in
    omega (arith, e, byte_at-below (0 + k) x) in
    let past : n ≤ k → get_or (take n (to_le_bytes w64 x)) k 0 < 256 = λ h.
    omega (arith, get_or_past (take n (to_le_bytes w64 x)) k 0 (omega (arith, length-take n (to_le_bytes w64 x)))) in
    elim (cases_lt k n) [ inl h ↦ inside h | inr h ↦ past h ]

pub array_read : (p : Place) (bytes : List ℕ) (w : ℕ) → lies_in 0 64 p ≡ true → p.array ≡ true → length bytes ≡ 8 → ((i : ℕ) → get_or bytes i 0 < 256) → w ≡ from_le_bytes w64 bytes → unpacked_value p bytes ≡ Bytes (take (p.size / 8) (to_le_bytes w64 (w / 2 ^ p.offset % 2 ^ p.size)))
array_read p bytes w inside a long small e =
    let x = w / 2 ^ p.offset % 2 ^ p.size in
    let n = p.size / 8 in
    let parts = place_parts 0 64 p inside in
    let whole = array_parts p parts.0 a in
    let few : n ≤ 8 = omega (arith, whole.2) in
    let eight : length (to_le_bytes w64 x) ≡ 8 = refl in
    let count = length-take-le n (to_le_bytes w64 x) (omega (arith, few, eight)) in
    unpacked_from_bits p (Bytes (take n (to_le_bytes w64 x))) bytes
    (and_from p.array (nat_eq (8 * length (take n (to_le_bytes w64 x))) p.size) a (eq-eqb (8 * length (take n (to_le_bytes w64 x))) p.size (omega (arith, count, whole.1))))
    (λ k. few_bytes n x k few)
    (λ j h.
    place_bits p bytes w j parts.2 long small e h
    ∙ sym (ap (λ y. bit y (j % 8)) (get_or-take n (to_le_bytes w64 x) (j / 8) 0 (omega (arith, whole.1))) ∙ data_bit-to_le_bytes x j (omega (arith, whole.2))))
