-- The marks of a frame tell the places of its signals, and its free bits.
use Rattle.std.proofs.Common.{◌≡◌, ◌≢◌, ℕ, zero, suc, ◌+◌, ◌-◌, ◌*◌, min, ◌<◌, ◌≤◌, nat_le, ◌⊎◌, inl, inr, Bool, true, false, not, ◌&&◌, ◌||◌, nat_lt, cond, List, [], ◌∷◌, length, get_or, take, Option, Some, None, refl, sym, ap, ◌∙◌, arith}
use Rattle.std.specs.Prelude.{◌==◌, count_by, sum_by}
use Rattle.std.specs.List.{list_all, position, position_or_len}
use Rattle.std.specs.Option.{option_map_or}
use Rattle.std.proofs.lemmas.Bool.{and_parts, and_from, both_ways, cases_Bool, cases_eq, cases_lt, eq-eqb, false_from_ne_true, cases_order, cond-true, cond-false, le-ltb, leb-true, ltb-true, lt-ltb, ltb-false, not-true, not_from_false}
use Rattle.std.proofs.lemmas.Bool.Decides.{nat_tests}
use Rattle.std.proofs.lemmas.List.Quantifiers.{position-Some}
use Rattle.std.proofs.lemmas.List.Sums.{fails_before_first, sum_by_more, sum_by_push, sum_by-cons, sum_by-take-le}
use Rattle.lin_frame.specs.Bits.{all_apart, are_apart, covers, first_bit, has_good_size, is_good_layout, lies_in}
use Rattle.lin_frame.specs.Words.{numbers}
use Rattle.lin_frame.specs.declared.layout.Layout.{Layout}
use Rattle.lin_frame.specs.declared.layout.Place.{Place}
use Rattle.lin_frame.proofs.PlacedBits.{good-parts, list_all-at, outside, outside-apart, outside-lies_in}
use Rattle.lin_export.proofs.ListedLines.{no_place}
use Rattle.lin_export.specs.Marks.{bit_mark, signal_mark, TellsPlaces}

-- ---- marks

mark-dot : (k : ℕ) → (signal_mark k == 46) ≡ false
mark-dot k = grind (arith, nat_tests)

dot-mark : (k : ℕ) → (46 == signal_mark k) ≡ false
dot-mark k = grind (arith, nat_tests)

own-mark : (k : ℕ) → (61 == signal_mark k) ≡ false
own-mark k = grind (arith, nat_tests)

mark-other : (j k : ℕ) → j < 64 → k < 64 → j ≢ k → (signal_mark j == signal_mark k) ≡ false
mark-other j k h l n = grind (arith, nat_tests)

-- ---- the place that has a bit

-- whether a place has a bit
abbrev has : ℕ → Place → Bool
has b p = covers p b

outside-each : (ps : List Place) (b : ℕ) → ((k : ℕ) (d : Place) → k < length ps → covers (get_or ps k d) b ≡ false) → outside ps b ≡ true
outside-each [] b h = refl
outside-each (p ∷ ps) b h =
    and_from (not (covers p b)) (outside ps b) (not_from_false (covers p b) (h 0 p (omega arith)))
    (outside-each ps b (λ k d l. h (suc k) d (omega arith)))

-- either the first place that has the bit, or no place has it
pub record IsFirst (ps : List Place) (b i : ℕ) : Type 0 where
  pub there : i < length ps
  pub at : position (has b) ps ≡ Some i
  pub has_bit : (d : Place) → covers (get_or ps i d) b ≡ true

pub record IsOutside (ps : List Place) (b : ℕ) : Type 0 where
  pub at : position (has b) ps ≡ None
  pub none : outside ps b ≡ true

pub first-or-none : (ps : List Place) (b : ℕ) → ((i : ℕ) × IsFirst ps b i) ⊎ IsOutside ps b
first-or-none ps b =
    let i = position_or_len (has b) ps in
    let at : (nat_lt i (length ps) ≡ true) → position (has b) ps ≡ Some i = λ h. cond-true (nat_lt i (length ps)) (Some i) None h in
    elim (cases_Bool (nat_lt i (length ps))) as (λ t. ((j : ℕ) × IsFirst ps b j) ⊎ IsOutside ps b) [
      | inl h ↦ inl (
        i,
        record {
          there = ltb-true i (length ps) h;
          at = at h;
          has_bit = λ d. (position-Some (has b) ps i d (at h)).1;
        },
      )
      | inr h ↦ inr (record {
        at = cond-false (nat_lt i (length ps)) (Some i) None h;
        none = outside-each ps b (λ k d l. fails_before_first (has b) ps k d (let m = ltb-false i (length ps) h in omega arith));
      })
    ]

-- no bit is in two places
apart-at : (ps : List Place) (b i j : ℕ) (d : Place) → all_apart ps ≡ true → i < j → j < length ps
    → covers (get_or ps i d) b ≡ true → not (covers (get_or ps j d) b) ≡ true
apart-at [] b i j d a l m h = absurd (omega arith)
apart-at (p ∷ ps) b i zero d a l m h = absurd (omega arith)
apart-at (p ∷ ps) b zero (suc j) d a l m h =
    list_all-at (λ q. not (covers q b)) ps (outside-apart p ps b (and_parts (list_all (are_apart p) ps) (all_apart ps) a).0 h) j d (omega arith)
apart-at (p ∷ ps) b (suc i) (suc j) d a l m h =
    apart-at ps b i j d (and_parts (list_all (are_apart p) ps) (all_apart ps) a).1 (omega arith) (omega arith) h

same-place : (ps : List Place) (b i j : ℕ) (d : Place) → all_apart ps ≡ true → i < length ps → j < length ps
    → covers (get_or ps i d) b ≡ true → covers (get_or ps j d) b ≡ true → i ≡ j
same-place ps b i j d a l m h k =
    elim (cases_order i j) [
      | inl e ↦ e
      | inr o ↦ elim o [
        | inl s ↦ absurd (both_ways (covers (get_or ps j d) b) (not-true (covers (get_or ps j d) b) (apart-at ps b i j d a s m h)) k)
        | inr s ↦ absurd (both_ways (covers (get_or ps i d) b) (not-true (covers (get_or ps i d) b) (apart-at ps b j i d a s l k)) h)
      ]
    ]

-- ---- how many bits

-- 1 for true
abbrev one : Bool → ℕ
one t = cond t 1 0

count-next : (f : ℕ → Bool) (n : ℕ) → count_by f (numbers (suc n)) ≡ count_by f (numbers n) + one (f n)
count-next f n = sum_by_push (λ b. one (f b)) (numbers n) n

-- bits that are in one of two sets
count-both : (h f g : ℕ → Bool) (n : ℕ) → ((b : ℕ) → b < n → one (h b) ≡ one (f b) + one (g b))
    → count_by h (numbers n) ≡ count_by f (numbers n) + count_by g (numbers n)
count-both h f g zero e = refl
count-both h f g (suc n) e =
    let before = count-both h f g n (λ b l. e b (omega arith)) in
    let last = e n (omega arith) in
    let x = count-next h n in
    let y = count-next f n in
    let z = count-next g n in
    omega arith

count-all : (n : ℕ) → count_by (λ b. true) (numbers n) ≡ n
count-all zero = refl
count-all (suc n) = let before = count-all n in let last = count-next (λ b. true) n in omega arith

count-none : (n : ℕ) → count_by (λ b. false) (numbers n) ≡ 0
count-none zero = refl
count-none (suc n) = let before = count-none n in let last = count-next (λ b. false) n in omega arith

count-below : (first n : ℕ) → count_by (λ b. nat_lt b first) (numbers n) ≡ min n first
count-below first zero = omega arith
count-below first (suc n) =
    let before = count-below first n in
    let last = count-next (λ b. nat_lt b first) n in
    elim (cases_lt n first) [
      | inl h ↦ let t = ap one (lt-ltb n first h) in omega arith
      | inr h ↦ let t = ap one (le-ltb n first h) in omega arith
    ]

-- the bits of a place: those below its end, without those below its first one
count-place : (p : Place) (n : ℕ) → count_by (λ b. nat_lt b p.offset) (numbers n) + count_by (covers p) (numbers n) ≡ count_by (λ b. nat_lt b (p.offset + p.size)) (numbers n)
count-place p n =
    sym (count-both (λ b. nat_lt b (p.offset + p.size)) (λ b. nat_lt b p.offset) (covers p) n (λ b l. grind (arith, nat_tests)))

-- the bits that some place has
abbrev inside : List Place → ℕ → Bool
inside ps b = not (outside ps b)

inside-one : (p : Place) (ps : List Place) (b : ℕ) → list_all (are_apart p) ps ≡ true → one (inside (p ∷ ps) b) ≡ one (covers p b) + one (inside ps b)
inside-one p ps b a =
    elim (cases_Bool (covers p b)) [
      | inl h ↦ let t = outside-apart p ps b a h in rw (h, t) refl
      | inr h ↦ rw h (omega arith)
    ]

count-inside : (first end n : ℕ) (ps : List Place) → list_all (lies_in first end) ps ≡ true → all_apart ps ≡ true → end ≤ n
    → count_by (inside ps) (numbers n) ≡ sum_by (λ p. p.size) ps
count-inside first end n [] h a l = count-none n
count-inside first end n (p ∷ ps) h a l =
    let parts = and_parts (lies_in first end p) (list_all (lies_in first end) ps) h in
    let apart = and_parts (list_all (are_apart p) ps) (all_apart ps) a in
    let to = leb-true (p.offset + p.size) end (and_parts (has_good_size p && nat_le first p.offset) (nat_le (p.offset + p.size) end) parts.0).1 in
    let here = count-place p n in
    let below = count-below p.offset n in
    let above = count-below (p.offset + p.size) n in
    let rest = count-inside first end n ps parts.1 apart.1 l in
    let both = count-both (inside (p ∷ ps)) (covers p) (inside ps) n (λ b m. inside-one p ps b apart.0) in
    let sizes = sum_by-cons (λ (q : Place). q.size) p ps in
    omega arith

-- the first place that has a bit is a place that has it
inside-at : (ps : List Place) (b i : ℕ) → IsFirst ps b i → outside ps b ≡ false
inside-at ps b i f =
    elim (cases_Bool (outside ps b)) [
      | inl h ↦ absurd (both_ways (covers (get_or ps i no_place) b) (not-true (covers (get_or ps i no_place) b) (list_all-at (λ q. not (covers q b)) ps h i no_place f.there)) (f.has_bit no_place))
      | inr h ↦ h
    ]

size-some : (p : Place) → has_good_size p ≡ true → 1 ≤ p.size
size-some p h =
    elim (cases_Bool p.array) [
      | inl t ↦ grind (arith, nat_tests)
      | inr t ↦ grind (arith, nat_tests)
    ]

sizes-some : (first end : ℕ) (ps : List Place) → list_all (lies_in first end) ps ≡ true → length ps ≤ sum_by (λ p. p.size) ps
sizes-some first end [] h = omega arith
sizes-some first end (p ∷ ps) h =
    let parts = and_parts (lies_in first end p) (list_all (lies_in first end) ps) h in
    let good = (and_parts (has_good_size p) (nat_le first p.offset) (and_parts (has_good_size p && nat_le first p.offset) (nat_le (p.offset + p.size) end) parts.0).0).0 in
    let some = size-some p good in
    let rest = sizes-some first end ps parts.1 in
    let sizes = sum_by-cons (λ (q : Place). q.size) p ps in
    omega arith

-- ---- a good layout

-- the mark of a bit that the protected identifier has, and of any other
own-bit : (layout : Layout) (b : ℕ) → nat_lt b (first_bit layout) ≡ true → bit_mark layout b ≡ 61
own-bit layout b h = cond-true (nat_lt b (first_bit layout)) 61 (option_map_or signal_mark (position (has b) layout.places) 46) h

pub placed-bit : (layout : Layout) (b : ℕ) (o : Option ℕ) → nat_lt b (first_bit layout) ≡ false → position (has b) layout.places ≡ o → bit_mark layout b ≡ option_map_or signal_mark o 46
placed-bit layout b o h e =
    cond-false (nat_lt b (first_bit layout)) 61 (option_map_or signal_mark (position (has b) layout.places) 46) h
    ∙ ap (λ (x : Option ℕ). option_map_or signal_mark x 46) e

outside-at : (ps : List Place) (b k : ℕ) (p : Place) → outside ps b ≡ true → k < length ps → p ≡ get_or ps k p → covers p b ≡ false
outside-at ps b k p h l e =
    let at = list_all-at (λ q. not (covers q b)) ps h k p l in
    ap (has b) e ∙ not-true (covers (get_or ps k p) b) at

-- what is said of the bits of a good layout
record IsLaid (layout : Layout) : Type 0 where
  pub lie : list_all (lies_in (first_bit layout) (8 * layout.len)) layout.places ≡ true
  pub apart : all_apart layout.places ≡ true
  pub bits : 8 * layout.len ≤ 64
  pub first : first_bit layout ≤ 8 * layout.len

first-of : (pid : Option ℕ) → option_map_or (λ own. 8) pid 0 ≤ 8
first-of None = omega arith
first-of (Some own) = omega arith

laid : (layout : Layout) → is_good_layout layout ≡ true → IsLaid layout
laid layout good =
    let parts = good-parts layout good in
    let few = first-of layout.pid in
    record { lie = parts.2; apart = parts.3; bits = omega arith; first = omega arith }

own-outside : (layout : Layout) (b : ℕ) → IsLaid layout → nat_lt b (first_bit layout) ≡ true → outside layout.places b ≡ true
own-outside layout b is h =
    outside-lies_in (first_bit layout) (8 * layout.len) layout.places b is.lie (inl (ltb-true b (first_bit layout) h))

-- each bit is the identifier's, a signal's, or free
bit-of-three : (layout : Layout) (b : ℕ) → IsLaid layout
    → one true ≡ one (bit_mark layout b == 46) + one (nat_lt b (first_bit layout) || inside layout.places b)
bit-of-three layout b is =
    elim (cases_Bool (nat_lt b (first_bit layout))) [
      | inl h ↦ let m = own-bit layout b h in rw (m, h) (omega arith)
      | inr h ↦ elim (first-or-none layout.places b) [
        | inl f ↦ let m = placed-bit layout b (Some f.0) h f.1.at in let d = mark-dot f.0 in let i = inside-at layout.places b f.0 f.1 in rw (m, h, i, d) (omega arith)
        | inr n ↦ let m = placed-bit layout b None h n.at in let o = n.none in rw (m, h, o) (omega arith)
      ]
    ]

own-or-inside : (layout : Layout) (b : ℕ) → IsLaid layout
    → one (nat_lt b (first_bit layout) || inside layout.places b) ≡ one (nat_lt b (first_bit layout)) + one (inside layout.places b)
own-or-inside layout b is =
    elim (cases_Bool (nat_lt b (first_bit layout))) [
      | inl h ↦ let o = own-outside layout b is h in rw (h, o) (omega arith)
      | inr h ↦ rw h (omega arith)
    ]

record IsCounted (layout : Layout) : Type 0 where
  pub dots : count_by (λ b. bit_mark layout b == 46) (numbers (8 * layout.len)) + (first_bit layout + sum_by (λ p. p.size) layout.places) ≡ 8 * layout.len

counted : (layout : Layout) → IsLaid layout → IsCounted layout
counted layout is =
    let n = 8 * layout.len in
    let all = count-all n in
    let three = count-both (λ b. true) (λ b. bit_mark layout b == 46) (λ b. nat_lt b (first_bit layout) || inside layout.places b) n (λ b l. bit-of-three layout b is) in
    let two = count-both (λ b. nat_lt b (first_bit layout) || inside layout.places b) (λ b. nat_lt b (first_bit layout)) (inside layout.places) n (λ b l. own-or-inside layout b is) in
    let own = count-below (first_bit layout) n in
    let placed = count-inside (first_bit layout) n n layout.places is.lie is.apart (omega arith) in
    record { dots = omega arith }

-- the identifier's bits and the signals' are at most all, and so there are at most 64 signals
pub few-bits : (layout : Layout) → is_good_layout layout ≡ true → first_bit layout + sum_by (λ p. p.size) layout.places ≤ 8 * layout.len
few-bits layout good = let c = counted layout (laid layout good) in omega arith

-- one size more is at most what is left of all bits, and what is left then
pub record IsLeft (layout : Layout) (i left : ℕ) : Type 0 where
  pub enough : (get_or layout.places i no_place).size ≤ left
  pub rest : (left - (get_or layout.places i no_place).size) + (first_bit layout + sum_by (λ p. p.size) (take (i + 1) layout.places)) ≡ 8 * layout.len

pub size-left : (layout : Layout) → is_good_layout layout ≡ true → (i left : ℕ) → i < length layout.places
    → left + (first_bit layout + sum_by (λ p. p.size) (take i layout.places)) ≡ 8 * layout.len → IsLeft layout i left
size-left layout good i left l e =
    let all = few-bits layout good in
    let more = sum_by_more (λ (p : Place). p.size) layout.places i no_place l in
    let some = sum_by-take-le (λ (p : Place). p.size) layout.places (i + 1) in
    record { enough = omega arith; rest = omega arith }

few-places : (layout : Layout) → IsLaid layout → length layout.places ≤ 64
few-places layout is =
    let c = counted layout is in
    let some = sizes-some (first_bit layout) (8 * layout.len) layout.places is.lie in
    omega arith

first-told : (layout : Layout) → IsLaid layout → (k : ℕ) (p : Place) → k < length layout.places → p ≡ get_or layout.places k p
    → (b i : ℕ) → IsFirst layout.places b i → length layout.places ≤ 64 → (signal_mark i == signal_mark k) ≡ covers p b
first-told layout is k p l e b i f few =
    elim (cases_eq i k) [
      | inl s ↦ eq-eqb (signal_mark i) (signal_mark k) (ap signal_mark s) ∙ sym (ap (has b) e ∙ ap (λ j. covers (get_or layout.places j p) b) (sym s) ∙ f.has_bit p)
      | inr n ↦ mark-other i k (let t = f.there in omega arith) (omega arith) n
          ∙ sym (false_from_ne_true (covers p b) (λ h. n (same-place layout.places b i k p is.apart f.there l (f.has_bit p) (sym (ap (has b) e) ∙ h))))
    ]

mark-told : (layout : Layout) → IsLaid layout → (k : ℕ) (p : Place) → k < length layout.places → p ≡ get_or layout.places k p
    → (b : ℕ) → (bit_mark layout b == signal_mark k) ≡ covers p b
mark-told layout is k p l e b =
    let few = few-places layout is in
    elim (cases_Bool (nat_lt b (first_bit layout))) [
      | inl h ↦ ap (λ m. m == signal_mark k) (own-bit layout b h) ∙ own-mark k ∙ sym (outside-at layout.places b k p (own-outside layout b is h) l e)
      | inr h ↦ elim (first-or-none layout.places b) [
        | inl f ↦ ap (λ m. m == signal_mark k) (placed-bit layout b (Some f.0) h f.1.at) ∙ first-told layout is k p l e b f.0 f.1 few
        | inr n ↦ ap (λ m. m == signal_mark k) (placed-bit layout b None h n.at) ∙ dot-mark k ∙ sym (outside-at layout.places b k p n.none l e)
      ]
    ]

pub layout-told : (layout : Layout) → is_good_layout layout ≡ true → TellsPlaces layout
layout-told layout good =
    let is = laid layout good in
    let c = counted layout is in
    record { marks = mark-told layout is; dots = omega arith }
