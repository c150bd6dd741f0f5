-- The fields of lines.
use Rattle.std.proofs.Common.{◌≡◌, ℕ, zero, suc, List, [], ◌∷◌, ◌++◌, refl, sym, ap, subst, ◌∙◌, append-nil, take, drop, length, ◌<◌, ◌≤◌, ◌==◌, ◌&&◌, filter, arith, Bool, true, false, not, slice_index}
use Rattle.std.specs.List.{slice_split, onto_first, take_while, All}
use Rattle.std.proofs.lemmas.List.{take-append-drop}
use Rattle.std.proofs.lemmas.List.Splits.{slice_split_at, slice_split_none}
use Rattle.std.proofs.lemmas.List.Sums.{take_while-cons}
use Rattle.std.proofs.lemmas.Grind.{common_steps}
use Rattle.lin_log.specs.Said.{fields, is_comment, is_gap, is_not_empty, no_fields}

-- a gap in front of a line
pub gap-front : (free : Bool) (b : ℕ) (rest : List ℕ) → is_gap free b ≡ true → fields free (b ∷ rest) ≡ fields free rest
gap-front free b rest h = rw h refl

pub gap-dropped : (free : Bool) (s : List ℕ) → 0 < length s → is_gap free (slice_index s 0) ≡ true → fields free (drop 1 s) ≡ fields free s
gap-dropped free [] some h = absurd (omega arith)
gap-dropped free (b ∷ rest) some h = sym (gap-front free b rest h)

is_text-word : (w : List ℕ) → 0 < length w → is_not_empty w ≡ true
is_text-word w h = grind (arith, common_steps)

-- a word in front of the pieces of a line
word-taken : (free : Bool) (w : List ℕ) (ps : List (List ℕ)) → 0 < length w → is_comment free w ≡ false
    → take_while (λ f. not (is_comment free f)) (filter is_not_empty (w ∷ ps)) ≡ w ∷ take_while (λ f. not (is_comment free f)) (filter is_not_empty ps)
word-taken free w ps some h =
    rw (is_text-word w some) (take_while-cons (λ f. not (is_comment free f)) w (filter is_not_empty ps) ∙ rw h refl)

comment-taken : (w : List ℕ) (ps : List (List ℕ)) → take_while (λ f. not (is_comment true f)) (filter is_not_empty ((35 ∷ w) ∷ ps)) ≡ []
comment-taken w ps =
    rw (is_text-word (35 ∷ w) (omega arith)) (take_while-cons (λ f. not (is_comment true f)) (35 ∷ w) (filter is_not_empty ps))

comment-first : (ps : List (List ℕ)) → take_while (λ f. not (is_comment true f)) (filter is_not_empty (onto_first 35 ps)) ≡ []
comment-first [] = comment-taken [] []
comment-first (p ∷ ps) = comment-taken p ps

comment-front : (rest : List ℕ) → fields true (35 ∷ rest) ≡ []
comment-front rest = comment-first (slice_split (is_gap true) rest)

comment-by : (free : Bool) (b : ℕ) (rest : List ℕ) → (free && (b == 35)) ≡ true → fields free (b ∷ rest) ≡ []
comment-by false b rest h = absurd (cc)
comment-by true b rest h = let e : b ≡ 35 = grind (arith, common_steps) in rw e (comment-front rest)

-- nothing is left of a line
pub none-left : (free : Bool) (s : List ℕ) → is_comment free s ≡ true → fields free s ≡ []
none-left free [] h = refl
none-left free (b ∷ rest) h = comment-by free b rest h

-- a field is left of a line
field-first : (free : Bool) (b : ℕ) (ps : List (List ℕ)) → (free && b == 35) ≡ false
    → no_fields (take_while (λ f. not (is_comment free f)) (filter is_not_empty (onto_first b ps))) ≡ false
field-first free b [] h = ap no_fields (word-taken free (b ∷ []) [] (omega arith) h)
field-first free b (p ∷ ps) h = ap no_fields (word-taken free (b ∷ p) ps (omega arith) h)

pub field-left : (free : Bool) (s : List ℕ) → 0 < length s → is_gap free (slice_index s 0) ≡ false → is_comment free s ≡ false
    → no_fields (fields free s) ≡ false
field-left free [] some h n = absurd (omega arith)
field-left free (b ∷ rest) some h n = rw h (field-first free b (slice_split (is_gap free) rest) n)

pub fields-front : (free : Bool) (w rest : List ℕ) → 0 < length w → All (λ x. is_gap free x ≡ false) w
    → (0 < length rest → is_gap free (slice_index rest 0) ≡ true) → is_comment free w ≡ false → fields free (w ++ rest) ≡ w ∷ fields free rest
fields-front free w [] some clean h nc =
    rw append-nil (ap (λ ps. take_while (λ f. not (is_comment free f)) (filter is_not_empty ps)) (slice_split_none (is_gap free) w clean) ∙ word-taken free w [] some nc)
fields-front free w (c ∷ rest) some clean h nc =
    let g : is_gap free c ≡ true = h (omega arith) in
    ap (λ ps. take_while (λ f. not (is_comment free f)) (filter is_not_empty ps)) (slice_split_at (is_gap free) w c rest clean g)
    ∙ word-taken free w (slice_split (is_gap free) rest) some nc ∙ ap (λ l. w ∷ l) (sym (gap-front free c rest g))

-- a line cut at the end of its first word
pub fields-cut : (free : Bool) (s : List ℕ) (n : ℕ) → 0 < n → n ≤ length s → All (λ x. is_gap free x ≡ false) (take n s)
    → (n < length s → is_gap free (slice_index s n) ≡ true) → is_comment free s ≡ false → fields free s ≡ take n s ∷ fields free (drop n s)
fields-cut free s n pos le clean ends nc =
    let some : 0 < length (take n s) = grind (arith, common_steps) in
    let first : slice_index (take n s) 0 ≡ slice_index s 0 = grind (arith, common_steps) in
    let at : slice_index (drop n s) 0 ≡ slice_index s n = grind (arith, common_steps) in
    let next : 0 < length (drop n s) → is_gap free (slice_index (drop n s) 0) ≡ true = λ h. rw at (ends (grind (arith, common_steps))) in
    subst (λ x. fields free x ≡ take n s ∷ fields free (drop n s)) (take-append-drop n s)
    (fields-front free (take n s) (drop n s) some clean next (rw first nc))

-- a word begins where no gap does
not-first : (p : ℕ → Bool) (s : List ℕ) (n : ℕ) → 0 < length s → p (slice_index s 0) ≡ false → (n < length s → p (slice_index s n) ≡ true) → n ≡ 0 → 0 < n
not-first p s n some first ends e =
    let t : p (slice_index s 0) ≡ true = rw e at (ends (omega arith)) in
    absurd (cc)

pub not-both : (p : ℕ → Bool) (s : List ℕ) (n : ℕ) → 0 < length s → (0 < length s → p (slice_index s 0) ≡ false) → (n < length s → p (slice_index s n) ≡ true) → 0 < n
not-both p s zero some first ends = not-first p s zero some (first some) ends refl
not-both p s (suc n) some first ends = omega arith
