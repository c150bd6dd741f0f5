-- Places that share no bit, and the bits that they give a frame.
use Rattle.std.proofs.Common.{◌≡◌, ℕ, zero, suc, ◌+◌, ◌-◌, ◌*◌, ◌<◌, ◌≤◌, ◌⊎◌, inl, inr, Bool, true, false, not, ◌&&◌, nat_lt, nat_le, cond, if◌then◌else◌, List, [], ◌∷◌, length, get_or, drop, Option, Some, None, refl, sym, ap, ◌∙◌, arith}
use Rattle.std.specs.List.{list_all, find, zip}
use Rattle.std.proofs.lemmas.Bool.{and_parts, and_from, cases_Bool, cond-true, cond-false, leb-true, ltb-true, le-ltb, not-true}
use Rattle.std.proofs.lemmas.Bool.Decides.{nat_tests}
use Rattle.std.specs.Option.{option_map_or}
use Rattle.lin_frame.specs.Frame.{bit}
use Rattle.lin_frame.specs.Bits.{are_apart, all_apart, lies_in, has_good_size, is_good_layout, first_bit, covers, value_bit, frame_bit}
use Rattle.lin_frame.specs.declared.layout.Layout.{Layout}
use Rattle.lin_frame.specs.declared.layout.Place.{Place}
use Rattle.lin_frame.specs.declared.value.Value.{Value}

-- a test that all pass, at one of them
pub list_all-at : {X : Type 0} (p : X → Bool) (xs : List X) → list_all p xs ≡ true → (i : ℕ) (d : X) → i < length xs → p (get_or xs i d) ≡ true
list_all-at p [] h i d l = absurd (omega arith)
list_all-at p (x ∷ xs) h zero d l = (and_parts (p x) (list_all p xs) h).0
list_all-at p (x ∷ xs) h (suc i) d l = list_all-at p xs (and_parts (p x) (list_all p xs) h).1 i d (omega arith)

-- what a good layout says
pub good-parts : (layout : Layout) → is_good_layout layout ≡ true → (1 ≤ layout.len) × (layout.len ≤ 8) × (list_all (lies_in (first_bit layout) (8 * layout.len)) layout.places ≡ true) × (all_apart layout.places ≡ true)
good-parts layout h =
    let last = and_parts (nat_le 1 layout.len && nat_le layout.len 8 && list_all (lies_in (first_bit layout) (8 * layout.len)) layout.places) (all_apart layout.places) h in
    let third = and_parts (nat_le 1 layout.len && nat_le layout.len 8) (list_all (lies_in (first_bit layout) (8 * layout.len)) layout.places) last.0 in
    let first = and_parts (nat_le 1 layout.len) (nat_le layout.len 8) third.0 in
    (leb-true 1 layout.len first.0, leb-true layout.len 8 first.1, third.1, last.1)

-- none of the places covers bit b
abbrev pub outside : List Place → ℕ → Bool
outside ps b = list_all (λ p. not (covers p b)) ps

pub covers-apart : (p q : Place) (b : ℕ) → are_apart p q ≡ true → covers p b ≡ true → not (covers q b) ≡ true
covers-apart p q b h c = grind (arith, nat_tests)

pub outside-apart : (p : Place) (ps : List Place) (b : ℕ) → list_all (are_apart p) ps ≡ true → covers p b ≡ true → outside ps b ≡ true
outside-apart p [] b h c = refl
outside-apart p (q ∷ ps) b h c =
    let parts = and_parts (are_apart p q) (list_all (are_apart p) ps) h in
    and_from (not (covers q b)) (outside ps b) (covers-apart p q b parts.0 c) (outside-apart p ps b parts.1 c)

outside-place : (first end : ℕ) (p : Place) (b : ℕ) → lies_in first end p ≡ true → (b < first) ⊎ (end ≤ b) → not (covers p b) ≡ true
outside-place first end p b h c =
    let parts = and_parts (has_good_size p && nat_le first p.offset) (nat_le (p.offset + p.size) end) h in
    let low = (and_parts (has_good_size p) (nat_le first p.offset) parts.0).1 in
    let from = leb-true first p.offset low in
    let to = leb-true (p.offset + p.size) end parts.1 in
    grind (arith, nat_tests, from, to, c)

pub outside-lies_in : (first end : ℕ) (ps : List Place) (b : ℕ) → list_all (lies_in first end) ps ≡ true → (b < first) ⊎ (end ≤ b) → outside ps b ≡ true
outside-lies_in first end [] b h c = refl
outside-lies_in first end (p ∷ ps) b h c =
    let parts = and_parts (lies_in first end p) (list_all (lies_in first end) ps) h in
    and_from (not (covers p b)) (outside ps b) (outside-place first end p b parts.0 c) (outside-lies_in first end ps b parts.1 c)

pub all_apart-drop : (n : ℕ) (ps : List Place) → all_apart ps ≡ true → all_apart (drop n ps) ≡ true
all_apart-drop zero ps h = h
all_apart-drop (suc n) [] h = refl
all_apart-drop (suc n) (p ∷ ps) h = all_apart-drop n ps (and_parts (list_all (are_apart p) ps) (all_apart ps) h).1

-- bit b of values in places over a bit that was there before
abbrev pub bit_over : List Place → List Value → ℕ → ℕ → ℕ
bit_over places values under b = option_map_or (λ s. value_bit s.1 (b - s.0.offset)) (find (λ s. covers s.0 b) (zip places values)) under

pub bit_over-first : (p : Place) (v : Value) (ps : List Place) (vs : List Value) (under b : ℕ) → bit_over (p ∷ ps) (v ∷ vs) under b ≡ (if covers p b then value_bit v (b - p.offset) else bit_over ps vs under b)
bit_over-first p v ps vs under b =
    let on : (t : Bool) → option_map_or (λ s. value_bit s.1 (b - s.0.offset)) (cond t (Some (p, v)) (find (λ (s : Place × Value). covers s.0 b) (zip ps vs))) under ≡ (if t then value_bit v (b - p.offset) else bit_over ps vs under b) = λ t. elim t as (λ t. option_map_or (λ s. value_bit s.1 (b - s.0.offset)) (cond t (Some (p, v)) (find (λ (s : Place × Value). covers s.0 b) (zip ps vs))) under ≡ (if t then value_bit v (b - p.offset) else bit_over ps vs under b)) [ true ↦ refl | false ↦ refl ] in
    on (covers p b)

-- a bit that none of the places covers stays as it is
pub bit_over-outside : (ps : List Place) (vs : List Value) (under b : ℕ) → outside ps b ≡ true → bit_over ps vs under b ≡ under
bit_over-outside [] vs under b h = refl
bit_over-outside (p ∷ ps) [] under b h = refl
bit_over-outside (p ∷ ps) (v ∷ vs) under b h =
    let parts = and_parts (not (covers p b)) (outside ps b) h in
    bit_over-first p v ps vs under b
    ∙ cond-false (covers p b) (value_bit v (b - p.offset)) (bit_over ps vs under b) (not-true (covers p b) parts.0)
    ∙ bit_over-outside ps vs under b parts.1

-- one value more in its place, and the others over it, where they don't touch the place
pub bit_over-put : (p : Place) (v : Value) (ps : List Place) (vs : List Value) (under after b : ℕ) → list_all (are_apart p) ps ≡ true → after ≡ (if covers p b then value_bit v (b - p.offset) else under) → bit_over ps vs after b ≡ bit_over (p ∷ ps) (v ∷ vs) under b
bit_over-put p v ps vs under after b h e =
    let first = bit_over-first p v ps vs under b in
    let covered : covers p b ≡ true → bit_over ps vs after b ≡ after = λ c. bit_over-outside ps vs after b (outside-apart p ps b h c) in
    let when_true : covers p b ≡ true → bit_over ps vs after b ≡ bit_over (p ∷ ps) (v ∷ vs) under b = λ c.
    covered c ∙ e ∙ cond-true (covers p b) (value_bit v (b - p.offset)) under c
    ∙ sym (first ∙ cond-true (covers p b) (value_bit v (b - p.offset)) (bit_over ps vs under b) c) in
    let when_false : covers p b ≡ false → bit_over ps vs after b ≡ bit_over (p ∷ ps) (v ∷ vs) under b = λ c.
    ap (λ x. bit_over ps vs x b) (e ∙ cond-false (covers p b) (value_bit v (b - p.offset)) under c)
    ∙ sym (first ∙ cond-false (covers p b) (value_bit v (b - p.offset)) (bit_over ps vs under b) c) in
    elim (cases_Bool (covers p b)) [ inl c ↦ when_true c | inr c ↦ when_false c ]

-- bit b of a frame without signals
abbrev pub empty_bit : Option ℕ → ℕ → ℕ
empty_bit pid b = option_map_or (λ own. if nat_lt b 8 then bit own b else 1) pid 1

over_own : (t : Bool) (x b : ℕ) (ps : List Place) (vs : List Value) → (t ≡ true → bit_over ps vs x b ≡ x) → bit_over ps vs (if t then x else 1) b ≡ (if t then x else bit_over ps vs 1 b)
over_own true x b ps vs h = h refl
over_own false x b ps vs h = refl

over_empty : (pid : Option ℕ) (end : ℕ) (ps : List Place) (vs : List Value) (b : ℕ) → list_all (lies_in (option_map_or (λ own. 8) pid 0) end) ps ≡ true → bit_over ps vs (empty_bit pid b) b ≡ option_map_or (λ own. if nat_lt b 8 then bit own b else bit_over ps vs 1 b) pid (bit_over ps vs 1 b)
over_empty None end ps vs b h = refl
over_empty (Some own) end ps vs b h =
    over_own (nat_lt b 8) (bit own b) b ps vs (λ e. bit_over-outside ps vs (bit own b) b (outside-lies_in 8 end ps b h (inl (ltb-true b 8 e))))

-- the frame's bits are those of its signals over those of a frame without signals
pub frame_bit-over : (layout : Layout) (vs : List Value) (b : ℕ) → is_good_layout layout ≡ true → bit_over layout.places vs (empty_bit layout.pid b) b ≡ frame_bit layout vs b
frame_bit-over layout vs b h = over_empty layout.pid (8 * layout.len) layout.places vs b (good-parts layout h).2

empty_bit-after : (pid : Option ℕ) (b : ℕ) → 8 ≤ b → empty_bit pid b ≡ 1
empty_bit-after None b h = refl
empty_bit-after (Some own) b h = cond-false (nat_lt b 8) (bit own b) 1 (le-ltb b 8 h)

-- after the data bytes all bits are 1
pub frame_bit-after : (layout : Layout) (vs : List Value) (b : ℕ) → is_good_layout layout ≡ true → 8 * layout.len ≤ b → frame_bit layout vs b ≡ 1
frame_bit-after layout vs b h l =
    let parts = good-parts layout h in
    sym (frame_bit-over layout vs b h)
    ∙ bit_over-outside layout.places vs (empty_bit layout.pid b) b (outside-lies_in (first_bit layout) (8 * layout.len) layout.places b parts.2 (inr l))
    ∙ empty_bit-after layout.pid b (omega (arith, parts.0))
