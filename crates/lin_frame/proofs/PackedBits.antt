-- The bits of packed data bytes, and what is read from them.
use Rattle.std.proofs.Common.{◌≡◌, ℕ, zero, suc, ◌+◌, ◌-◌, ◌*◌, ◌/◌, ◌%◌, ◌^◌, ◌<◌, ◌≤◌, inl, inr, Bool, true, false, not, ◌&&◌, ◌||◌, nat_lt, nat_le, if◌then◌else◌, List, [], ◌∷◌, ◌++◌, length, get_or, map, Option, Some, None, refl, sym, ap, ◌∙◌, arith}
use Rattle.std.specs.List.{list_all, list_any, find, zip, range_with_len}
use Rattle.std.proofs.lemmas.Bool.{and_parts, and_from, cases_Bool, cases_lt, cond-true, cond-false, false≢true, ltb-true, leb-true, lt-ltb, le-leb, not_from_true, and_left, and_right, false_from_ne_true}
use Rattle.std.proofs.lemmas.List.{append-nil, get_or_append_left, get_or_past}
use Rattle.std.proofs.lemmas.List.FromFn.{get_or-map-range_with_len, length-map-range_with_len}
use Rattle.std.proofs.lemmas.Nat.{mod_below, mul-le}
use Rattle.std.proofs.lemmas.Grind.{pow_more}
use Rattle.std.proofs.lemmas.Nat.Bits.{bit_at-lt, bit_at_cat_low, bit_at_cat_high, bit_at_lowest}
use Rattle.std.proofs.Math.Nat.{div-add-mod, mod-eq_of_lt}
use Rattle.std.specs.Option.{option_map_or}
use Rattle.lin_frame.specs.Words.{numbers}
use Rattle.lin_frame.specs.Frame.{bit}
use Rattle.lin_frame.specs.Bits.{all_apart, all_fit, are_apart, byte_of_bits, covers, data_bit, first_bit, fits_place, frame_bit, is_good_layout, has_bytes, has_good_size, lies_in, number_of_bits, packed_bytes, placed_bit, unpacked_value, value_bit}
use Rattle.lin_frame.specs.declared.layout.Layout.{Layout}
use Rattle.lin_frame.specs.declared.layout.Place.{Place}
use Rattle.lin_frame.specs.declared.value.Value.{Value}
use Rattle.lin_frame.specs.declared.value.Value.TheVariants.{Scalar, Bytes}
use Rattle.lin_frame.proofs.Numbers.{number_of_bits-more, numbers-range}
use Rattle.lin_frame.proofs.PlacedBits.{bit_over, bit_over-first, empty_bit, frame_bit-over, good-parts, list_all-at, outside, outside-apart, outside-lies_in}
use Rattle.lin_frame.proofs.PlacedValues.{HasBytes, array_parts, place_parts, unpacked_from_bits}

-- ---- bits that are summed up
number_of_bits-below : (n : ℕ) (f : ℕ → ℕ) → ((j : ℕ) → f j < 2) → number_of_bits n f < 2 ^ n
number_of_bits-below zero f h = omega arith
number_of_bits-below (suc n) f h =
    let rest = number_of_bits-below n f h in
    let more = number_of_bits-more n f in
    let twice : 2 ^ (n + 1) ≡ 2 ^ n * 2 = pow_more 2 n in
    let same : 2 ^ suc n ≡ 2 ^ (n + 1) = ap (λ k. 2 ^ k) (omega arith) in
    let last : f n * 2 ^ n ≤ 1 * 2 ^ n = mul-le (f n) (2 ^ n) 1 (2 ^ n) (omega (arith, h n)) (omega arith) in
    omega (arith, rest, more, twice, same, last)

pub bit-number_of_bits : (n : ℕ) (f : ℕ → ℕ) (j : ℕ) → ((j : ℕ) → f j < 2) → j < n → bit (number_of_bits n f) j ≡ f j
bit-number_of_bits zero f j h l = absurd (omega arith)
bit-number_of_bits (suc n) f j h l =
    let turned : number_of_bits (suc n) f ≡ f n * 2 ^ n + number_of_bits n f = omega (arith, number_of_bits-more n f) in
    let low : j < n → bit (number_of_bits (suc n) f) j ≡ f j = λ m.
    ap (λ x. bit x j) turned ∙ bit_at_cat_low (f n) n (number_of_bits n f) j m ∙ bit-number_of_bits n f j h m in
    let top : n ≤ j → bit (number_of_bits (suc n) f) j ≡ f j = λ m.
    let e : j ≡ n = omega arith in
    ap (λ x. bit x j) turned
    ∙ bit_at_cat_high (f n) n (number_of_bits n f) j (number_of_bits-below n f h) m
    ∙ ap (λ k. bit (f n) k) {y = 0} (omega arith)
    ∙ bit_at_lowest (f n)
    ∙ mod-eq_of_lt (h n)
    ∙ ap f (sym e) in
    elim (cases_lt j n) [ inl m ↦ low m | inr m ↦ top m ]

pub bit-byte_of_bits : (f : ℕ → ℕ) (b : ℕ) → ((j : ℕ) → f j < 2) → bit (byte_of_bits f (b / 8)) (b % 8) ≡ f b
bit-byte_of_bits f b h =
    bit-number_of_bits 8 (λ j. f (8 * (b / 8) + j)) (b % 8) (λ j. h (8 * (b / 8) + j)) (mod_below b 8 (omega arith))
    ∙ ap f (div-add-mod b 8)

-- bit b of bytes that are made of bits, whatever stands after them
pub data_bit-bytes : (n : ℕ) (f : ℕ → ℕ) (after : List ℕ) (b : ℕ) → ((j : ℕ) → f j < 2) → b < 8 * n → data_bit (map (byte_of_bits f) (numbers n) ++ after) b ≡ f b
data_bit-bytes n f after b h l =
    let long = length-map-range_with_len (byte_of_bits f) 0 n in
    ap (λ ks. data_bit (map (byte_of_bits f) ks ++ after) b) (numbers-range n)
    ∙ ap (λ x. bit x (b % 8))
    (get_or_append_left (map (byte_of_bits f) (range_with_len 0 n)) after 0 (b / 8) (omega (arith, long))
    ∙ get_or-map-range_with_len (byte_of_bits f) 0 n (b / 8) (b / 8) 0 (omega arith) (omega arith))
    ∙ bit-byte_of_bits f b h

value_bit-below : (v : Value) (j : ℕ) → value_bit v j < 2
value_bit-below (Scalar x) j = bit_at-lt x j
value_bit-below (Bytes xs) j = bit_at-lt (get_or xs (j / 8) 0) (j % 8)

found-below : (s : Option (Place × Value)) (b : ℕ) → option_map_or (λ s. value_bit s.1 (b - s.0.offset)) s 1 < 2
found-below None b = omega arith
found-below (Some s) b = value_bit-below s.1 (b - s.0.offset)

own-below : (t : Bool) (x y : ℕ) → x < 2 → y < 2 → (if t then x else y) < 2
own-below true x y h g = h
own-below false x y h g = g

chosen-below : (pid : Option ℕ) (placed b : ℕ) → placed < 2 → option_map_or (λ own. if nat_lt b 8 then bit own b else placed) pid placed < 2
chosen-below None placed b h = h
chosen-below (Some own) placed b h = own-below (nat_lt b 8) (bit own b) placed (bit_at-lt own b) h

pub frame_bit-below : (layout : Layout) (values : List Value) (b : ℕ) → frame_bit layout values b < 2
frame_bit-below layout values b =
    chosen-below layout.pid (placed_bit layout.places values b) b (found-below (find (λ (s : Place × Value). covers s.0 b) (zip layout.places values)) b)

-- the bits of a frame's data bytes
pub data_bit-packed : (layout : Layout) (values : List Value) (after : List ℕ) (b : ℕ) → b < 8 * layout.len → data_bit (packed_bytes layout values ++ after) b ≡ frame_bit layout values b
data_bit-packed layout values after b l =
    data_bit-bytes layout.len (frame_bit layout values) after b (frame_bit-below layout values) l

-- ---- values that were packed
has-bytes : (v : Value) → has_bytes v ≡ true → HasBytes v
has-bytes (Scalar x) h = tt
has-bytes (Bytes xs) h = λ k.
    let inside : k < length xs → get_or xs k 0 < 256 = λ l. ltb-true (get_or xs k 0) 256 (list_all-at (λ x. nat_lt x 256) xs h k 0 l) in
    let past : length xs ≤ k → get_or xs k 0 < 256 = λ l. omega (arith, get_or_past xs k 0 l) in
    elim (cases_lt k (length xs)) [ inl l ↦ inside l | inr l ↦ past l ]

covers-at : (p : Place) (j : ℕ) → j < p.size → covers p (p.offset + j) ≡ true
covers-at p j h = and_from (nat_le p.offset (p.offset + j)) (nat_lt (p.offset + j) (p.offset + p.size)) (le-leb p.offset (p.offset + j) (omega arith)) (lt-ltb (p.offset + j) (p.offset + p.size) (omega arith))

outside-first : (p : Place) (ps : List Place) (b : ℕ) → covers p b ≡ true → outside (p ∷ ps) b ≡ false
outside-first p ps b c = and_left (not (covers p b)) (outside ps b) (not_from_true (covers p b) c)

outside-rest : (p : Place) (ps : List Place) (b : ℕ) → outside ps b ≡ false → outside (p ∷ ps) b ≡ false
outside-rest p ps b c = and_right (not (covers p b)) (outside ps b) c

apart-rest : (p : Place) (ps : List Place) (b : ℕ) → list_all (are_apart p) ps ≡ true → outside ps b ≡ false → covers p b ≡ false
apart-rest p ps b h o =
    false_from_ne_true (covers p b) (λ c. false≢true (sym o ∙ outside-apart p ps b h c))

pub unpacked_all : (ps : List Place) (vs : List Value) (bytes : List ℕ) → all_fit ps vs ≡ true → list_all has_bytes vs ≡ true → all_apart ps ≡ true → ((b : ℕ) → outside ps b ≡ false → data_bit bytes b ≡ bit_over ps vs 1 b) → map (λ p. unpacked_value p bytes) ps ≡ vs
unpacked_all [] [] bytes f u a h = refl
unpacked_all [] (v ∷ vs) bytes f u a h = absurd (false≢true f)
unpacked_all (p ∷ ps) [] bytes f u a h = absurd (false≢true f)
unpacked_all (p ∷ ps) (v ∷ vs) bytes f u a h =
    let fit = and_parts (fits_place p v) (all_fit ps vs) f in
    let ok = and_parts (has_bytes v) (list_all has_bytes vs) u in
    let apart = and_parts (list_all (are_apart p) ps) (all_apart ps) a in
    let bits : (j : ℕ) → j < p.size → data_bit bytes (p.offset + j) ≡ value_bit v j = λ j l.
    let c = covers-at p j l in
    h (p.offset + j) (outside-first p ps (p.offset + j) c)
    ∙ bit_over-first p v ps vs 1 (p.offset + j)
    ∙ cond-true (covers p (p.offset + j)) (value_bit v (p.offset + j - p.offset)) (bit_over ps vs 1 (p.offset + j)) c
    ∙ ap (λ k. value_bit v k) (omega arith) in
    let rest : (b : ℕ) → outside ps b ≡ false → data_bit bytes b ≡ bit_over ps vs 1 b = λ b o.
    h b (outside-rest p ps b o)
    ∙ bit_over-first p v ps vs 1 b
    ∙ cond-false (covers p b) (value_bit v (b - p.offset)) (bit_over ps vs 1 b) (apart-rest p ps b apart.0 o) in
    ap (λ x. x ∷ map (λ q. unpacked_value q bytes) ps) (unpacked_from_bits p v bytes fit.0 (has-bytes v ok.0) bits)
    ∙ ap (λ xs. v ∷ xs) (unpacked_all ps vs bytes fit.1 ok.1 apart.1 rest)

and-not_false : (t u : Bool) → t ≡ false → (not t && u) ≡ u
and-not_false true u e = absurd (false≢true (sym e))
and-not_false false u e = refl

-- what no place covers doesn't matter where one does
bit_over-covered : (ps : List Place) (vs : List Value) (x y b : ℕ) → all_fit ps vs ≡ true → outside ps b ≡ false → bit_over ps vs x b ≡ bit_over ps vs y b
bit_over-covered [] vs x y b f o = absurd (false≢true (sym o))
bit_over-covered (p ∷ ps) [] x y b f o = absurd (false≢true f)
bit_over-covered (p ∷ ps) (v ∷ vs) x y b f o =
    let fit = and_parts (fits_place p v) (all_fit ps vs) f in
    let here : covers p b ≡ true → bit_over (p ∷ ps) (v ∷ vs) x b ≡ bit_over (p ∷ ps) (v ∷ vs) y b = λ c.
    bit_over-first p v ps vs x b
    ∙ cond-true (covers p b) (value_bit v (b - p.offset)) (bit_over ps vs x b) c
    ∙ sym (bit_over-first p v ps vs y b ∙ cond-true (covers p b) (value_bit v (b - p.offset)) (bit_over ps vs y b) c) in
    let later : covers p b ≡ false → bit_over (p ∷ ps) (v ∷ vs) x b ≡ bit_over (p ∷ ps) (v ∷ vs) y b = λ c.
    let rest : outside ps b ≡ false = sym (and-not_false (covers p b) (outside ps b) c) ∙ o in
    bit_over-first p v ps vs x b
    ∙ cond-false (covers p b) (value_bit v (b - p.offset)) (bit_over ps vs x b) c
    ∙ bit_over-covered ps vs x y b fit.1 rest
    ∙ sym (bit_over-first p v ps vs y b ∙ cond-false (covers p b) (value_bit v (b - p.offset)) (bit_over ps vs y b) c) in
    elim (cases_Bool (covers p b)) [ inl c ↦ here c | inr c ↦ later c ]

pub unpacking_undoes_packing : (layout : Layout) (values : List Value) (after : List ℕ) → is_good_layout layout ≡ true → all_fit layout.places values ≡ true → list_all has_bytes values ≡ true → map (λ p. unpacked_value p (packed_bytes layout values ++ after)) layout.places ≡ values
unpacking_undoes_packing layout values after g f u =
    let parts = good-parts layout g in
    let inside : (b : ℕ) → outside layout.places b ≡ false → b < 8 * layout.len = λ b o.
    let past : 8 * layout.len ≤ b → b < 8 * layout.len = λ l.
    absurd (false≢true (sym o ∙ outside-lies_in (first_bit layout) (8 * layout.len) layout.places b parts.2 (inr l))) in
    elim (cases_lt b (8 * layout.len)) [ inl l ↦ l | inr l ↦ past l ] in
    unpacked_all layout.places values (packed_bytes layout values ++ after) f u parts.3 (λ b o.
    data_bit-packed layout values after b (inside b o)
    ∙ sym (frame_bit-over layout values b g)
    ∙ bit_over-covered layout.places values (empty_bit layout.pid b) 1 b f o)

-- ---- values that are unpacked
value_bit-unpacked : (p : Place) (bytes : List ℕ) (j : ℕ) → has_good_size p ≡ true → j < p.size → value_bit (unpacked_value p bytes) j ≡ data_bit bytes (p.offset + j)
value_bit-unpacked p bytes j g l =
    let at : ℕ → ℕ = λ j. data_bit bytes (p.offset + j) in
    let below : (j : ℕ) → at j < 2 = λ j. bit_at-lt (get_or bytes ((p.offset + j) / 8) 0) ((p.offset + j) % 8) in
    let many = Bytes (map (byte_of_bits at) (numbers (p.size / 8))) in
    let one = Scalar (number_of_bits p.size at) in
    let scalar : p.array ≡ false → value_bit (unpacked_value p bytes) j ≡ data_bit bytes (p.offset + j) = λ a.
    ap (λ v. value_bit v j) (cond-false p.array many one a) ∙ bit-number_of_bits p.size at j below l in
    let array : p.array ≡ true → value_bit (unpacked_value p bytes) j ≡ data_bit bytes (p.offset + j) = λ a.
    ap (λ v. value_bit v j) (cond-true p.array many one a)
    ∙ ap (λ xs. data_bit xs j) (sym (append-nil (map (byte_of_bits at) (numbers (p.size / 8)))))
    ∙ data_bit-bytes (p.size / 8) at [] j below (omega (arith, (array_parts p g a).1)) in
    elim (cases_Bool p.array) [ inl a ↦ array a | inr a ↦ scalar a ]

one_more : (t u : Bool) (here there under rest : ℕ) → (t ≡ true → here ≡ there) → rest ≡ (if u then there else under) → (if t then here else rest) ≡ (if t || u then there else under)
one_more true u here there under rest h e = h refl
one_more false u here there under rest h e = e

repacked : (first end : ℕ) (ps : List Place) (bytes : List ℕ) (under b : ℕ) → list_all (lies_in first end) ps ≡ true → bit_over ps (map (λ p. unpacked_value p bytes) ps) under b ≡ (if list_any (λ p. covers p b) ps then data_bit bytes b else under)
repacked first end [] bytes under b h = refl
repacked first end (p ∷ ps) bytes under b h =
    let parts = and_parts (lies_in first end p) (list_all (lies_in first end) ps) h in
    let here : covers p b ≡ true → value_bit (unpacked_value p bytes) (b - p.offset) ≡ data_bit bytes b = λ c.
    let covered = and_parts (nat_le p.offset b) (nat_lt b (p.offset + p.size)) c in
    let low = leb-true p.offset b covered.0 in
    let high = ltb-true b (p.offset + p.size) covered.1 in
    value_bit-unpacked p bytes (b - p.offset) (place_parts first end p parts.0).0 (omega arith)
    ∙ ap (λ k. data_bit bytes k) (omega arith) in
    bit_over-first p (unpacked_value p bytes) ps (map (λ q. unpacked_value q bytes) ps) under b
    ∙ one_more (covers p b) (list_any (λ q. covers q b) ps) (value_bit (unpacked_value p bytes) (b - p.offset)) (data_bit bytes b) under (bit_over ps (map (λ q. unpacked_value q bytes) ps) under b) here (repacked first end ps bytes under b parts.1)

bit_over-nothing : (ps : List Place) (under b : ℕ) → bit_over ps [] under b ≡ under
bit_over-nothing [] under b = refl
bit_over-nothing (p ∷ ps) under b = refl

pub packing_undoes_unpacking : (layout : Layout) (bytes : List ℕ) (b : ℕ) → is_good_layout layout ≡ true → b < 8 * layout.len → data_bit (packed_bytes layout (map (λ p. unpacked_value p bytes) layout.places)) b ≡ (if list_any (λ p. covers p b) layout.places then data_bit bytes b else frame_bit layout [] b)
packing_undoes_unpacking layout bytes b g l =
    let values = map (λ p. unpacked_value p bytes) layout.places in
    ap (λ xs. data_bit xs b) (sym (append-nil (packed_bytes layout values)))
    ∙ data_bit-packed layout values [] b l
    ∙ sym (frame_bit-over layout values b g)
    ∙ repacked (first_bit layout) (8 * layout.len) layout.places bytes (empty_bit layout.pid b) b (good-parts layout g).2
    ∙ ap (λ x. if list_any (λ p. covers p b) layout.places then data_bit bytes b else x) (sym (bit_over-nothing layout.places (empty_bit layout.pid b) b) ∙ frame_bit-over layout [] b g)
