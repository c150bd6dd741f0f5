-- Bits of numbers that are shifted, masked or cut into bytes.
use Rattle.std.proofs.Common.{◌≡◌, ℕ, zero, suc, ◌+◌, ◌-◌, ◌*◌, ◌/◌, ◌%◌, ◌^◌, ◌<◌, ◌≤◌, List, [], ◌∷◌, ◌++◌, length, get_or, take, drop, replicate, map, sum, refl, sym, ap, ◌∙◌, arith, add_comm}
use Rattle.std.specs.List.{range_with_len}
use Rattle.std.specs.Int.{w64, byte_at, bytes_low_first, to_le_bytes, from_le_bytes}
use Rattle.std.proofs.lemmas.Nat.{shr-shr, shr_split, pow-add, pow_pos, mod-pow-add, mod_below, le_bytes_8}
use Rattle.std.proofs.lemmas.Nat.Bits.{bit_at-zero, bit_at_cat_low, bit_at_cat_high, bit_at_above}
use Rattle.std.proofs.lemmas.Grind.{fold-append, pow_more}
use Rattle.std.proofs.lemmas.List.{map-append, get_or-take, get_or-drop, get_or-replicate, length-take-le, length-drop, length-replicate, ext_get_or}
use Rattle.std.proofs.lemmas.List.FromFn.{fill_by_all}
use Rattle.std.proofs.Math.Nat.{div-add-mod}
use Rattle.lin_frame.specs.Words.{numbers}
use Rattle.lin_frame.specs.Frame.{bit}
use Rattle.lin_frame.specs.Bits.{number_of_bits, byte_of_bits, data_bit}

-- the low k bits stay under a remainder by 2 ^ k
pub bit-mod_low : (n k b : ℕ) → b < k → bit (n % 2 ^ k) b ≡ bit n b
bit-mod_low n k b h = sym (bit_at_cat_low (n / 2 ^ k) k (n % 2 ^ k) b h) ∙ ap (λ x. bit x b) (shr_split n k)

pub bit-mod_high : (n k b : ℕ) → k ≤ b → bit (n % 2 ^ k) b ≡ 0
bit-mod_high n k b h = bit_at_above (n % 2 ^ k) k b (mod_below n (2 ^ k) (pow_pos k)) h

-- bits of a number that is shifted left
pub bit-shl_low : (n k b : ℕ) → b < k → bit (n * 2 ^ k) b ≡ 0
bit-shl_low n k b h =
    let e : n * 2 ^ k ≡ n * 2 ^ k + 0 = omega arith in
    ap (λ x. bit x b) e ∙ bit_at_cat_low n k 0 b h ∙ bit_at-zero b

pub bit-shl_high : (n k b : ℕ) → k ≤ b → bit (n * 2 ^ k) b ≡ bit n (b - k)
bit-shl_high n k b h =
    let e : n * 2 ^ k ≡ n * 2 ^ k + 0 = omega arith in
    ap (λ x. bit x b) e ∙ bit_at_cat_high n k 0 b (pow_pos k) h

-- and of one that is shifted right
pub bit-shr : (n k b : ℕ) → bit (n / 2 ^ k) b ≡ bit n (k + b)
bit-shr n k b = ap (λ x. x % 2) (shr-shr n k b)

-- a number of one bit more
pub number_of_bits-more : (n : ℕ) (f : ℕ → ℕ) → number_of_bits (suc n) f ≡ number_of_bits n f + f n * 2 ^ n
number_of_bits-more n f =
    ap sum (map-append (λ j. f j * 2 ^ j) (numbers n) (n ∷ []))
    ∙ fold-append ◌+◌ 0 (map (λ j. f j * 2 ^ j) (numbers n)) (f n * 2 ^ n ∷ [])

-- n bits of a number, as a number
pub number_of_bits-bit : (n x : ℕ) → number_of_bits n (bit x) ≡ x % 2 ^ n
number_of_bits-bit zero x = omega arith
number_of_bits-bit (suc n) x =
    let more = number_of_bits-more n (bit x) in
    let rest = number_of_bits-bit n x in
    let split : x % 2 ^ (1 + n) ≡ (x / 2 ^ n % 2 ^ 1) * 2 ^ n + x % 2 ^ n = mod-pow-add x 1 n in
    let same : 2 ^ (1 + n) ≡ 2 ^ suc n = ap (λ k. 2 ^ k) (omega arith) in
    more ∙ ap (λ k. k + bit x n * 2 ^ n) rest ∙ add_comm (x % 2 ^ n) (bit x n * 2 ^ n) ∙ sym split ∙ ap (λ k. x % k) same

pub number_of_bits-same : (n : ℕ) (f g : ℕ → ℕ) → ((j : ℕ) → j < n → f j ≡ g j) → number_of_bits n f ≡ number_of_bits n g
number_of_bits-same zero f g h = refl
number_of_bits-same (suc n) f g h =
    let rest = number_of_bits-same n f g (λ j l. h j (omega arith)) in
    let last = h n (omega arith) in
    number_of_bits-more n f
    ∙ ap (λ k. k + f n * 2 ^ n) rest
    ∙ ap (λ k. number_of_bits n g + k * 2 ^ n) last
    ∙ sym (number_of_bits-more n g)

pow_of_256 : (k : ℕ) → 256 ^ k ≡ 2 ^ (8 * k)
pow_of_256 zero = refl
pow_of_256 (suc k) =
    let rest = pow_of_256 k in
    let bytes : 256 ^ (k + 1) ≡ 256 ^ k * 256 = pow_more 256 k in
    let bits : 2 ^ (8 * k + 8) ≡ 2 ^ (8 * k) * 2 ^ 8 = pow-add 2 (8 * k) 8 in
    let left : 256 ^ suc k ≡ 256 ^ (k + 1) = ap (λ i. 256 ^ i) (omega arith) in
    let right : 2 ^ (8 * k + 8) ≡ 2 ^ (8 * suc k) = ap (λ i. 2 ^ i) (omega arith) in
    left ∙ bytes ∙ ap (λ i. i * 256) rest ∙ sym bits ∙ right

-- byte k of a number
pub byte_at-shift : (k n : ℕ) → byte_at k n ≡ n / 2 ^ (8 * k) % 2 ^ 8
byte_at-shift zero n = omega arith
byte_at-shift (suc k) n = ap (λ i. n / i % 256) (pow_of_256 (suc k))

pub byte_of_bits-byte_at : (k n : ℕ) → byte_of_bits (bit n) k ≡ byte_at k n
byte_of_bits-byte_at k n =
    number_of_bits-same 8 (λ j. bit n (8 * k + j)) (bit (n / 2 ^ (8 * k))) (λ j l. sym (bit-shr n (8 * k) j))
    ∙ number_of_bits-bit 8 (n / 2 ^ (8 * k))
    ∙ sym (byte_at-shift k n)

pub get_or-bytes_low_first : (i k n j : ℕ) → j < k → get_or (bytes_low_first i k n) j 0 ≡ byte_at (i + j) n
get_or-bytes_low_first i zero n j h = absurd (omega arith)
get_or-bytes_low_first i (suc k) n zero h = ap (λ m. byte_at m n) (omega arith)
get_or-bytes_low_first i (suc k) n (suc j) h =
    get_or-bytes_low_first (suc i) k n j (omega arith) ∙ ap (λ m. byte_at m n) (omega arith)

-- bit b of the bytes of a number is its bit b
pub data_bit-to_le_bytes : (n b : ℕ) → b < 64 → data_bit (to_le_bytes w64 n) b ≡ bit n b
data_bit-to_le_bytes n b h =
    let whole = div-add-mod b 8 in
    let low = mod_below b 8 (omega arith) in
    ap (λ x. bit x (b % 8)) (get_or-bytes_low_first 0 8 n (b / 8) (omega arith) ∙ ap (λ m. byte_at m n) (omega arith) ∙ byte_at-shift (b / 8) n)
    ∙ bit-mod_low (n / 2 ^ (8 * (b / 8))) 8 (b % 8) low
    ∙ bit-shr n (8 * (b / 8)) (b % 8)
    ∙ ap (λ m. bit n m) whole

-- the numbers below n, as std has them
range-more : (a n : ℕ) → range_with_len a (suc n) ≡ range_with_len a n ++ (a + n) ∷ []
range-more a zero = ap (λ x. x ∷ []) (omega arith)
range-more a (suc n) =
    ap (λ xs. a ∷ xs) (range-more (a + 1) n ∙ ap (λ x. range_with_len (a + 1) n ++ x ∷ []) (omega arith))

pub numbers-range : (n : ℕ) → numbers n ≡ range_with_len 0 n
numbers-range zero = refl
numbers-range (suc n) =
    ap (λ xs. xs ++ n ∷ []) (numbers-range n)
    ∙ sym (range-more 0 n ∙ ap (λ x. range_with_len 0 n ++ x ∷ []) (omega arith))

-- ---- lists of bytes
pub byte_of_bits-same : (k : ℕ) (f g : ℕ → ℕ) → ((b : ℕ) → b < 8 * k + 8 → f b ≡ g b) → byte_of_bits f k ≡ byte_of_bits g k
byte_of_bits-same k f g h =
    number_of_bits-same 8 (λ j. f (8 * k + j)) (λ j. g (8 * k + j)) (λ j l. h (8 * k + j) (omega arith))

-- the bytes of a number's bits are its lowest bytes
pub bytes_of_bits : (n w : ℕ) (at : ℕ → ℕ) → n ≤ 8 → ((b : ℕ) → b < 8 * n → at b ≡ bit w b) → map (byte_of_bits at) (numbers n) ≡ take n (to_le_bytes w64 w)
bytes_of_bits n w at l h =
    let whole : length (to_le_bytes w64 w) ≡ 8 = refl in
    let long : length (take n (to_le_bytes w64 w)) ≡ n = length-take-le n (to_le_bytes w64 w) (omega (arith, whole)) in
    let item : (k : ℕ) → k < n → get_or (take n (to_le_bytes w64 w)) k 0 ≡ byte_of_bits at k = λ k m.
    get_or-take n (to_le_bytes w64 w) k 0 m
    ∙ get_or-bytes_low_first 0 8 w k (omega arith)
    ∙ ap (λ i. byte_at i w) (omega arith)
    ∙ sym (byte_of_bits-byte_at k w)
    ∙ byte_of_bits-same k (bit w) at (λ b o. sym (h b (omega arith))) in
    ap (λ xs. map (byte_of_bits at) xs) (numbers-range n)
    ∙ sym (fill_by_all (byte_of_bits at) (take n (to_le_bytes w64 w)) n 0 long item)

-- where all bits from 8 n on are 1, the bytes from n on are 0xFF
pub ones_after : (n w : ℕ) → n ≤ 8 → ((b : ℕ) → 8 * n ≤ b → b < 64 → bit w b ≡ 1) → drop n (to_le_bytes w64 w) ≡ replicate (8 - n) 0xFF
ones_after n w l h =
    let whole : length (to_le_bytes w64 w) ≡ 8 = refl in
    let ones : List ℕ = replicate (8 - n) 255 in
    let filled : length ones ≡ 8 - n = length-replicate {A = ℕ} (8 - n) 255 in
    let long : length (drop n (to_le_bytes w64 w)) ≡ length ones =
    length-drop n (to_le_bytes w64 w) ∙ ap (λ k. k - n) whole ∙ sym filled in
    let item : (k : ℕ) → k < 8 - n → get_or (drop n (to_le_bytes w64 w)) k 0 ≡ 255 = λ k m.
    get_or-drop n (to_le_bytes w64 w) k 0
    ∙ get_or-bytes_low_first 0 8 w (n + k) (omega arith)
    ∙ ap (λ i. byte_at i w) (omega arith)
    ∙ sym (byte_of_bits-byte_at (n + k) w)
    ∙ number_of_bits-same 8 (λ j. bit w (8 * (n + k) + j)) (λ j. 1) (λ j o. h (8 * (n + k) + j) (omega arith) (omega arith)) in
    ext_get_or 0 (drop n (to_le_bytes w64 w)) ones long (λ k m.
    let o : k < 8 - n = omega (arith, long, filled) in
    item k o ∙ sym (get_or-replicate (8 - n) k 255 0 o))

-- bit b of eight bytes is that of the number that they spell
pub data_bit-from_le_bytes : (bytes : List ℕ) (w b : ℕ) → length bytes ≡ 8 → ((i : ℕ) → get_or bytes i 0 < 256) → w ≡ from_le_bytes w64 bytes → b < 64 → data_bit bytes b ≡ bit w b
data_bit-from_le_bytes bytes w b long small e h =
    ap (λ xs. data_bit xs b) (sym (le_bytes_8 bytes w long small e)) ∙ data_bit-to_le_bytes w b h
