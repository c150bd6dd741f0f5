-- Fields of a line where they are in it, from the front and from the end.
use Rattle.std.proofs.Common.{◌≡◌, ◌≢◌, ◌∙◌, ◌+◌, ◌-◌, ◌<◌, ◌≤◌, ℕ, zero, suc, Bool, true, false, cond, not, List, [], ◌∷◌, ◌++◌, Option, Some, None, refl, sym, ap, arith, drop, drop-cons, filter, get_or, length, min, nat_le, nat_lt, option_map, reverse, take}
use Rattle.std.specs.Prelude.{position, slice_index_or}
use Rattle.std.specs.List.{onto_first, prefix_len, slice_split, take_while}
use Rattle.std.proofs.lemmas.List.{drop-drop, get_or-take, length-drop, length-take-le, reverse-append, reverse-reverse, take-append-drop, take_all}
use Rattle.std.proofs.lemmas.Bool.Decides.{nat_tests}
use Rattle.std.proofs.lemmas.Grind.{common_steps}
use Rattle.std.proofs.lemmas.List.Sums.{take_while-cons}
use Rattle.lin_log.specs.Said.{fields, is_comment, is_gap, is_not_empty, no_fields}
use Rattle.lin_bench.specs.Fields.{Cuts}
use Rattle.lin_bench.specs.Parts.{fields_of}
use Rattle.lin_bench.specs.RuleLines.{fields_before, is_only, last_field}
use Rattle.lin_bench.specs.declared.fields.Fields.{Fields}

-- ---- a line has at most as many fields as bytes

not-empty : (b : ℕ) (w : List ℕ) → is_not_empty (b ∷ w) ≡ true
not-empty b w = grind (arith, common_steps)

one-more-byte : (b : ℕ) (ps : List (List ℕ)) → length (filter is_not_empty (onto_first b ps)) ≤ suc (length (filter is_not_empty ps))
one-more-byte b [] = omega arith
one-more-byte b ([] ∷ ps) = omega arith
one-more-byte b ((c ∷ cs) ∷ ps) = rw (not-empty b (c ∷ cs), not-empty c cs) (omega arith)

by-gap : (gap : Bool) (b n : ℕ) (ps : List (List ℕ)) → length (filter is_not_empty ps) ≤ n → length (filter is_not_empty (cond gap ([] ∷ ps) (onto_first b ps))) ≤ suc n
by-gap true b n ps h = omega (arith, h)
by-gap false b n ps h = omega (arith, h, one-more-byte b ps)

few-pieces : (gap : ℕ → Bool) (line : List ℕ) → length (filter is_not_empty (slice_split gap line)) ≤ length line
few-pieces gap [] = omega arith
few-pieces gap (b ∷ line) = by-gap (gap b) b (length line) (slice_split gap line) (few-pieces gap line)

in-front : (b : Bool) (x : List ℕ) (ys xs : List (List ℕ)) → length ys ≤ length xs → length (cond b (x ∷ ys) []) ≤ suc (length xs)
in-front true x ys xs h = omega (arith, h)
in-front false x ys xs h = omega arith

no-longer : (p : List ℕ → Bool) (xs : List (List ℕ)) → length (take_while p xs) ≤ length xs
no-longer p [] = omega arith
no-longer p (x ∷ xs) = rw (take_while-cons p x xs) (in-front (p x) x (take_while p xs) xs (no-longer p xs))

few-fields : (free : Bool) (line : List ℕ) → length (fields free line) ≤ length line
few-fields free line =
    omega (arith, no-longer (λ f. not (is_comment free f)) (filter is_not_empty (slice_split (is_gap free) line)), few-pieces (is_gap free) line)

pub whole-line : (f : Fields) → f.count ≡ length f.line.now → fields_of f ≡ fields f.is_free f.line.now
unfolding fields_of
whole-line f e = ap (λ n. take n (fields f.is_free f.line.now)) e ∙ take_all (length f.line.now) (fields f.is_free f.line.now) (few-fields f.is_free f.line.now)

-- ---- the first field

none-of : (n : ℕ) (fs : List (List ℕ)) → fs ≡ [] → take n fs ≡ []
none-of zero fs e = refl
none-of (suc n) fs e = rw e refl

one-of : (n : ℕ) (x : List ℕ) (fs gs : List (List ℕ)) → 0 < n → fs ≡ x ∷ gs → take n fs ≡ x ∷ take (n - 1) gs
one-of zero x fs gs h e = absurd (omega arith)
one-of (suc n) x fs gs h e =
    let less : suc n - 1 ≡ n = omega arith in
    rw (e, less) refl

pub none-counted : (f : Fields) → f.count ≡ 0 → fields_of f ≡ []
unfolding fields_of
none-counted f e = ap (λ n. take n (fields f.is_free f.line.now)) e

pub none-left : (f : Fields) → fields f.is_free f.line.now ≡ [] → fields_of f ≡ []
unfolding fields_of
none-left f e = none-of f.count (fields f.is_free f.line.now) e

pub first-of : (f g : Fields) (x : List ℕ) → 0 < f.count → fields f.is_free f.line.now ≡ x ∷ fields f.is_free g.line.now → g.is_free ≡ f.is_free → g.count ≡ f.count - 1
    → fields_of f ≡ x ∷ fields_of g
unfolding fields_of
first-of f g x some e free count =
    one-of f.count x (fields f.is_free f.line.now) (fields f.is_free g.line.now) some e
    ∙ ap (λ b. x ∷ take (f.count - 1) (fields b g.line.now)) (sym free)
    ∙ ap (λ n. x ∷ take n (fields g.is_free g.line.now)) (sym count)

take-fewer : (m n : ℕ) (fs : List (List ℕ)) → m ≤ n → take m fs ≡ take m (take n fs)
take-fewer zero n fs le = refl
take-fewer (suc m) zero fs le = absurd (omega arith)
take-fewer (suc m) (suc n) [] le = refl
take-fewer (suc m) (suc n) (f ∷ fs) le = ap (λ l. f ∷ l) (take-fewer m n fs (omega arith))

take-more : (m n : ℕ) (fs : List (List ℕ)) → m ≤ n → take m fs ≡ take n (take m fs)
take-more zero zero fs le = refl
take-more zero (suc n) fs le = refl
take-more (suc m) zero fs le = absurd (omega arith)
take-more (suc m) (suc n) [] le = refl
take-more (suc m) (suc n) (f ∷ fs) le = ap (λ l. f ∷ l) (take-more m n fs (omega arith))

by-test : (b : Bool) (m n : ℕ) (fs : List (List ℕ)) → nat_le m n ≡ b → take (min n m) fs ≡ take m (take n fs)
by-test true m n fs t =
    let le : m ≤ n = grind (arith, nat_tests) in
    let least : min n m ≡ m = omega (arith, le) in
    ap (λ k. take k fs) least ∙ take-fewer m n fs le
by-test false m n fs t =
    let le : n ≤ m = grind (arith, nat_tests) in
    let least : min n m ≡ n = omega (arith, le) in
    ap (λ k. take k fs) least ∙ take-more n m fs le

pub fewer-taken : (f g : Fields) (n : ℕ) → g.line ≡ f.line → g.is_free ≡ f.is_free → g.count ≡ min f.count n → fields_of g ≡ take n (fields_of f)
unfolding fields_of
fewer-taken f g n line free count = rw (line, free, count) (by-test (nat_le n f.count) n f.count (fields f.is_free f.line.now) refl)

-- ---- the fields after others

pub one-passed : (i : ℕ) (fs : List (List ℕ)) (x : List ℕ) (rest : List (List ℕ)) → drop i fs ≡ x ∷ rest → drop (i + 1) fs ≡ rest
one-passed i fs x rest e = sym (drop-drop 1 i fs) ∙ ap (drop 1) e

passed : (i : ℕ) (fs : List (List ℕ)) → length fs ≤ i → drop i fs ≡ []
passed zero [] h = refl
passed (suc i) [] h = refl
passed zero (f ∷ fs) h = absurd (omega arith)
passed (suc i) (f ∷ fs) h = passed i fs (omega arith)

pub all-passed : (i : ℕ) (fs : List (List ℕ)) → drop i fs ≡ [] → length fs ≤ i
all-passed i fs e = omega (arith, length-drop i fs, ap length e)

pub none-after : (i n : ℕ) (fs : List (List ℕ)) → drop i fs ≡ [] → i ≤ n → drop n fs ≡ []
none-after i n fs e le = passed n fs (omega (arith, all-passed i fs e))

-- ---- fields cut at one of them

pub cut-at : (fs : List (List ℕ)) (at : ℕ) (x : List ℕ) (after : List (List ℕ)) → drop at fs ≡ x ∷ after → Cuts fs at (take at fs) x after
cut-at [] zero x after e = absurd (cc)
cut-at [] (suc at) x after e = absurd (cc)
cut-at (f ∷ fs) zero x after e =
    let same : ◌≡◌ {A = List (List ℕ)} (f ∷ fs) (x ∷ after) = e in
    record { within = omega arith; before = refl; field = cc; after = cc }
cut-at (f ∷ fs) (suc at) x after e =
    let c = cut-at fs at x after e in
    let next : suc at + 1 ≡ suc (at + 1) = omega arith in
    record { within = omega (arith, c.within); before = refl; field = c.field; after = ap (λ n. drop n (f ∷ fs)) next ∙ c.after }

pub last-one : (fs : List (List ℕ)) (at : ℕ) (before : List (List ℕ)) (x : List ℕ) (after : List (List ℕ)) → at + 1 ≡ length fs → Cuts fs at before x after → fs ≡ before ++ x ∷ []
last-one fs at before x after n c =
    let next : suc at ≡ length fs = omega (arith, n) in
    let end : drop at fs ≡ x ∷ [] = drop-cons fs at [] c.within ∙ ap (λ l. get_or fs at [] ∷ l) (passed (suc at) fs (omega (arith, next))) ∙ ap (λ y. y ∷ []) c.field in
    sym (take-append-drop at fs) ∙ ap (λ l. take at fs ++ l) end ∙ ap (λ l. l ++ x ∷ []) c.before

-- ---- the last field

backwards : (fs before : List (List ℕ)) (x : List ℕ) → fs ≡ before ++ x ∷ [] → reverse fs ≡ x ∷ reverse before
backwards fs before x e = ap reverse e ∙ reverse-append before (x ∷ [])

pub two-backwards : (fs others before : List (List ℕ)) (x y : List ℕ) → fs ≡ others ++ y ∷ [] → others ≡ before ++ x ∷ [] → reverse fs ≡ y ∷ x ∷ reverse before
two-backwards fs others before x y e h = backwards fs others y e ∙ ap (λ l. y ∷ l) (backwards others before x h)

pub some-after : (before : List (List ℕ)) (x : List ℕ) → length (before ++ x ∷ []) ≡ suc (length before)
some-after [] x = refl
some-after (f ∷ before) x = ap suc (some-after before x)

pub last-is : (before : List (List ℕ)) (x : List ℕ) → last_field (before ++ x ∷ []) ≡ x
last-is [] x = refl
last-is (f ∷ []) x = refl
last-is (f ∷ g ∷ before) x = last-is (g ∷ before) x

pub before-is : (before : List (List ℕ)) (x : List ℕ) → fields_before (before ++ x ∷ []) ≡ before
before-is [] x = refl
before-is (f ∷ []) x = refl
before-is (f ∷ g ∷ before) x = ap (λ l. f ∷ l) (before-is (g ∷ before) x)

pub longer : (fs before : List (List ℕ)) (x : List ℕ) → fs ≡ before ++ x ∷ [] → length fs ≡ suc (length before)
longer fs before x e = ap length e ∙ some-after before x

pub at-end : (before : List (List ℕ)) (x : List ℕ) → slice_index_or (before ++ x ∷ []) (length before) [] ≡ x
at-end [] x = refl
at-end (f ∷ before) x = at-end before x

all-but-last : (before : List (List ℕ)) (x : List ℕ) → take (length before) (before ++ x ∷ []) ≡ before
all-but-last [] x = refl
all-but-last (f ∷ before) x = ap (λ l. f ∷ l) (all-but-last before x)

-- the fields before a place, by their last
pub front-parts : (fs : List (List ℕ)) (at : ℕ) (front before : List (List ℕ)) (x mark : List ℕ) (after : List (List ℕ)) → Cuts fs at front mark after → front ≡ before ++ x ∷ []
    → (at ≡ suc (length before)) × (take (length before) fs ≡ before) × (slice_index_or fs (length before) [] ≡ x)
front-parts fs at front before x mark after cut e =
    let n = length before in
    let whole : take at fs ≡ before ++ x ∷ [] = cut.before ∙ e in
    let long : at ≡ suc n = sym (length-take-le at fs (omega (arith, cut.within))) ∙ ap length whole ∙ some-after before x in
    let start : take n fs ≡ before = take-fewer n at fs (omega (arith, long)) ∙ ap (take n) whole ∙ all-but-last before x in
    let last : slice_index_or fs n [] ≡ x = sym (get_or-take at fs n [] (omega (arith, long))) ∙ ap (λ l. slice_index_or l n []) whole ∙ at-end before x in
    (long, start, last)

pub no-front : (fs : List (List ℕ)) (at : ℕ) (front : List (List ℕ)) (mark : List ℕ) (after : List (List ℕ)) → Cuts fs at front mark after → front ≡ [] → at ≡ 0
no-front fs at front mark after cut e = sym (length-take-le at fs (omega (arith, cut.within))) ∙ ap length (cut.before ∙ e)

-- ---- the first field that passes a test

place-here : (p : List ℕ → Bool) (x : List ℕ) (fs : List (List ℕ)) → p x ≡ true → position p (x ∷ fs) ≡ Some 0
place-here p x fs e =
    let here : prefix_len (λ y. not (p y)) (x ∷ fs) ≡ 0 = rw e refl in
    let some : nat_lt 0 (length (x ∷ fs)) ≡ true = grind (arith, nat_tests) in
    ap (λ m. cond (nat_lt m (length (x ∷ fs))) (Some m) None) here ∙ ap (λ b. cond b (Some 0) None) some

-- as many fields further on
abbrev pub further : ℕ → Option ℕ → Option ℕ
further n o = option_map (λ i. n + i) o

pub found-further : (p : List ℕ → Bool) (x : List ℕ) (left rest : List (List ℕ)) (n : ℕ) (o : Option ℕ) → o ≡ further n (position p left) → left ≡ x ∷ rest → p x ≡ true → o ≡ Some n
found-further p x left rest n o at e is =
    let same : n + 0 ≡ n = omega arith in
    at ∙ ap (λ l. further n (position p l)) e ∙ ap (further n) (place-here p x rest is) ∙ ap Some same

-- ---- one field or several

pub no-length : (fs : List (List ℕ)) → length fs ≡ 0 → fs ≡ []
no-length [] h = refl
no-length (f ∷ fs) h = absurd (omega arith)

pub one-longer : (n : ℕ) (fs : List (List ℕ)) (f : List ℕ) (gs : List (List ℕ)) → fs ≡ f ∷ gs → length gs ≢ n → length fs ≢ suc n
one-longer n fs f gs e other = λ h. other (omega (arith, h, ap length e))
