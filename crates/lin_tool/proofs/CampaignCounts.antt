-- What is counted over the rows of a campaign, one row more, and the lines that are counted.
use Rattle.std.proofs.Common.{◌≡◌, ◌≢◌, ◌⊎◌, ◌∙◌, ℕ, zero, suc, Bool, true, false, ◌==◌, ◌||◌, ◌&&◌, not, cond, if◌then◌else◌, ◌+◌, ◌<◌, ◌≤◌, List, [], ◌∷◌, ◌++◌, refl, sym, ap, ap₂, add-zero, append-nil, arith, eqb, flat_map, get_or, get_or-set_other, get_or-set_same, inl, inr, is_some, leb, length, length-append, length-take, ltb, max, set, subst, take}
use Rattle.std.proofs.lemmas.Bool.Decides.{eqb_tells, leb_tells}
use Rattle.std.proofs.lemmas.Grind.{flat_map-append}
use Rattle.std.proofs.lemmas.List.{take_more}
use Rattle.std.proofs.lemmas.List.Elements.{All-push, filter-append}
use Rattle.std.proofs.lemmas.List.Folds.{list_any-append}
use Rattle.std.proofs.lemmas.List.Sums.{sum_by-append, sum_by-cons}
use Rattle.std.specs.Prelude.{All, Option, Some, None, count_by, filter, find, fold, option_map}
use Rattle.std.specs.List.{list_all, list_any}
use Rattle.std.specs.Option.{option_or}
use Rattle.lin_frame.specs.Words.{numbers}
use Rattle.lin_core.specs.History.{is_in}
use Rattle.lin_bench.specs.declared.got.Judgement.{Judgement}
use Rattle.lin_tool.specs.campaign.Summary.{AreRowCounts, AreCountsOf, RowCountsData, IsCountOf, IsLineCount, NumberedRow, bound_of, breaks, broken_lines, counted_by, first_at, has_judgement, is_broken_verdict, is_counted, is_limited, is_tolerated, line_at, counted_lines, lines_broken, judged_lines, one_if, place_from, rows_of, some_not_tolerated, worse, worse_of, worst_after, worst_of}
use Rattle.lin_tool.specs.declared.campaign.row.Row.{Row}
use Rattle.lin_tool.specs.declared.campaign.row.RowVerdict.{RowVerdict}
use Rattle.lin_tool.specs.declared.campaign.row.RowVerdict.TheVariants.{Tolerated, Broken, Limit}
use Rattle.lin_tool.specs.declared.campaign.summary.LineCount.{LineCount}

-- ---- counts of lines
abbrev pub no_count : LineCount
no_count = record { judgement = None; broken = 0; last = 0 }

pub at-push : (xs : List LineCount) (n : ℕ) → line_at (xs ++ no_count ∷ []) n ≡ line_at xs n
at-push [] zero = refl
at-push [] (suc n) = refl
at-push (x ∷ xs) zero = refl
at-push (x ∷ xs) (suc n) = at-push xs n

pub counts-push : (rows : ℕ) (xs : List LineCount) → All (IsLineCount rows) xs → All (IsLineCount rows) (xs ++ no_count ∷ [])
counts-push rows xs h = All-push (IsLineCount rows) xs no_count h (omega arith, omega arith)

set-by : (xs : List LineCount) (i n : ℕ) (x : LineCount) → i < length xs → ((eqb n i ≡ true) × (n ≡ i)) ⊎ ((eqb n i ≡ false) × (n ≢ i))
    → line_at (set xs i x) n ≡ (if n == i then x else line_at xs n)
set-by xs i n x h (inl e) = rw e.0 (ap (λ k. line_at (set xs i x) k) e.1 ∙ get_or-set_same xs i x no_count h)
set-by xs i n x h (inr e) = rw e.0 (get_or-set_other xs i n x no_count e.1)

pub at-set : (xs : List LineCount) (i n : ℕ) (x : LineCount) → i < length xs → line_at (set xs i x) n ≡ (if n == i then x else line_at xs n)
at-set xs i n x h = set-by xs i n x h (eqb_tells n i)

-- a line is changed by a function
changed-by : (f : LineCount → LineCount) (old grown : List LineCount) (i n : ℕ) (x : LineCount) → ((k : ℕ) → line_at grown k ≡ line_at old k) → i < length grown → x ≡ f (line_at grown i)
    → ((eqb n i ≡ true) × (n ≡ i)) ⊎ ((eqb n i ≡ false) × (n ≢ i)) → line_at (set grown i x) n ≡ (if n == i then f (line_at old n) else line_at old n)
changed-by f old grown i n x same h is (inl e) =
    rw e.0 (ap (λ k. line_at (set grown i x) k) e.1 ∙ get_or-set_same grown i x no_count h ∙ is ∙ ap f (same i) ∙ ap (λ k. f (line_at old k)) (sym e.1))
changed-by f old grown i n x same h is (inr e) = rw e.0 (get_or-set_other grown i n x no_count e.1 ∙ same n)

pub changed : (f : LineCount → LineCount) (old grown : List LineCount) (i n : ℕ) (x : LineCount) → ((k : ℕ) → line_at grown k ≡ line_at old k) → i < length grown → x ≡ f (line_at grown i)
    → line_at (set grown i x) n ≡ (if n == i then f (line_at old n) else line_at old n)
changed f old grown i n x same h is = changed-by f old grown i n x same h is (eqb_tells n i)

-- ---- one line of a row more
counted-not : (row : ℕ) (l : LineCount) → eqb l.last row ≡ true → counted_by row l ≡ l
counted-not row l e = rw e refl

counted-now : (row : ℕ) (l : LineCount) → eqb l.last row ≡ false → counted_by row l ≡ record l { broken = l.broken + 1; last = row }
counted-now row l e = rw e refl

twice-by : (row : ℕ) (l : LineCount) → ((eqb l.last row ≡ true) × (l.last ≡ row)) ⊎ ((eqb l.last row ≡ false) × (l.last ≢ row)) → ((eqb row row ≡ true) × (row ≡ row)) ⊎ ((eqb row row ≡ false) × (row ≢ row))
    → counted_by row (counted_by row l) ≡ counted_by row l
twice-by row l (inl e) f = ap (counted_by row) (counted-not row l e.0)
twice-by row l (inr e) (inl f) = ap (counted_by row) (counted-now row l e.0) ∙ counted-not row (record l { broken = l.broken + 1; last = row }) f.0 ∙ sym (counted-now row l e.0)
twice-by row l (inr e) (inr f) = absurd (f.1 refl)

counted-twice : (row : ℕ) (l : LineCount) → counted_by row (counted_by row l) ≡ counted_by row l
counted-twice row l = twice-by row l (eqb_tells l.last row) (eqb_tells row row)

next-by : (row n line : ℕ) (b : Bool) (l now new : LineCount) → new ≡ (if n == line then counted_by row now else now) → now ≡ (if b then counted_by row l else l)
    → ((eqb n line ≡ true) × (n ≡ line)) ⊎ ((eqb n line ≡ false) × (n ≢ line)) → ((eqb line n ≡ true) × (line ≡ n)) ⊎ ((eqb line n ≡ false) × (line ≢ n))
    → new ≡ (if b || ((line == n) || false) then counted_by row l else l)
next-by row n line true l now new e is (inl h) k = e ∙ rw h.0 (ap (counted_by row) is ∙ counted-twice row l)
next-by row n line false l now new e is (inl h) (inl k) = e ∙ rw (h.0, k.0) (ap (counted_by row) is)
next-by row n line false l now new e is (inl h) (inr k) = absurd (k.1 (sym h.1))
next-by row n line true l now new e is (inr h) k = e ∙ rw h.0 is
next-by row n line false l now new e is (inr h) (inl k) = absurd (h.1 (sym k.1))
next-by row n line false l now new e is (inr h) (inr k) = e ∙ rw (h.0, k.0) is

pub next-line : (row n line i : ℕ) (broken : List ℕ) (l now new : LineCount) → line ≡ get_or broken i line → i < length broken
    → new ≡ (if n == line then counted_by row now else now) → now ≡ (if is_in (take i broken) n then counted_by row l else l)
    → new ≡ (if is_in (take (i + 1) broken) n then counted_by row l else l)
next-line row n line i broken l now new at h e is =
    let more : take (i + 1) broken ≡ take i broken ++ line ∷ [] = take_more broken i line h ∙ ap (λ x. take i broken ++ x ∷ []) (sym at) in
    let there : is_in (take (i + 1) broken) n ≡ (is_in (take i broken) n || ((line == n) || false)) = ap (λ l. is_in l n) more ∙ list_any-append (λ x. x == n) (take i broken) (line ∷ []) in
    rw there (next-by row n line (is_in (take i broken) n) l now new e is (eqb_tells n line) (eqb_tells line n))

-- ---- the places of judgements
place-push-by : (b : Bool) (i : ℕ) (all before own : Option ℕ) → all ≡ option_or before own → (if b then Some i else all) ≡ option_or (if b then Some i else before) own
place-push-by true i all before own e = refl
place-push-by false i all before own e = e

pub place-push : (n i : ℕ) (js : List Judgement) (j : Judgement) → place_from i n (js ++ j ∷ []) ≡ option_or (place_from i n js) (if j.place.own == n then Some (i + length js) else None)
place-push n i [] j = let e : i ≡ i + 0 = omega arith in ap (λ k. if j.place.own == n then Some k else None) e
place-push n i (x ∷ xs) j =
    let e : (i + 1) + length xs ≡ i + suc (length xs) = omega arith in
    place-push-by (x.place.own == n) i (place_from (i + 1) n (xs ++ j ∷ [])) (place_from (i + 1) n xs) (if j.place.own == n then Some ((i + 1) + length xs) else None) (place-push n (i + 1) xs j)
    ∙ ap (λ k. option_or (place_from i n (x ∷ xs)) (if j.place.own == n then Some k else None)) e

-- what is kept of line n before a row is counted
abbrev pub only_placed : Option ℕ → LineCount
only_placed place = record { judgement = place; broken = 0; last = 0 }

abbrev pub first_counts : List Judgement → ℕ → LineCount
first_counts js n = only_placed (place_from 0 n js)

or-none : (o : Option ℕ) → option_or o None ≡ o
or-none None = refl
or-none (Some x) = refl

first-by : (n i line : ℕ) (js : List Judgement) (j : Judgement) (now new : LineCount) → i ≡ length js → j.place.own ≡ line → new ≡ (if n == line then first_at i now else now) → now ≡ first_counts js n
    → ((eqb n line ≡ true) × (n ≡ line)) ⊎ ((eqb n line ≡ false) × (n ≢ line)) → ((eqb line n ≡ true) × (line ≡ n)) ⊎ ((eqb line n ≡ false) × (line ≢ n))
    → new ≡ first_counts (js ++ j ∷ []) n
first-by n i line js j now new at own e is (inl h) (inl k) =
    let zero-at : 0 + length js ≡ i = omega (arith, at) in
    let place : place_from 0 n (js ++ j ∷ []) ≡ option_or (place_from 0 n js) (Some i) = place-push n 0 js j ∙ rw (own, k.0) (ap (λ m. option_or (place_from 0 n js) (Some m)) zero-at) in
    e ∙ rw h.0 (ap (first_at i) is ∙ ap only_placed (sym place))
first-by n i line js j now new at own e is (inl h) (inr k) = absurd (k.1 (sym h.1))
first-by n i line js j now new at own e is (inr h) (inl k) = absurd (h.1 (sym k.1))
first-by n i line js j now new at own e is (inr h) (inr k) =
    let place : place_from 0 n (js ++ j ∷ []) ≡ place_from 0 n js = place-push n 0 js j ∙ rw (own, k.0) (or-none (place_from 0 n js)) in
    e ∙ rw h.0 (is ∙ ap only_placed (sym place))

first-next : (n i line : ℕ) (js : List Judgement) (j : Judgement) (now new : LineCount) → j ≡ get_or js i j → i < length js → j.place.own ≡ line → new ≡ (if n == line then first_at i now else now)
    → now ≡ first_counts (take i js) n → new ≡ first_counts (take (i + 1) js) n
first-next n i line js j now new at h own e is =
    let more : take (i + 1) js ≡ take i js ++ j ∷ [] = take_more js i j h ∙ ap (λ x. take i js ++ x ∷ []) (sym at) in
    let long : i ≡ length (take i js) = omega (arith, h, length-take i js) in
    rw more (first-by n i line (take i js) j now new long own e is (eqb_tells n line) (eqb_tells line n))

same-item : {X : Type 0} (js : List X) (i : ℕ) (a b : X) → i < length js → get_or js i a ≡ get_or js i b
same-item [] i a b h = absurd (omega arith)
same-item (j ∷ js) zero a b h = refl
same-item (j ∷ js) (suc i) a b h = same-item js i a b (omega arith)

pub first-next-at : (n i : ℕ) (js : List Judgement) (d : Judgement) (now new : LineCount) → i < length js → new ≡ (if n == (get_or js i d).place.own then first_at i now else now) → now ≡ first_counts (take i js) n
    → new ≡ first_counts (take (i + 1) js) n
first-next-at n i js d now new h e is = let j = get_or js i d in first-next n i j.place.own js j now new (same-item js i d j h) h refl e is

-- ---- one row more
count-push : (p : Row → Bool) (rows : List Row) (r : Row) → count_by p (rows ++ r ∷ []) ≡ count_by p rows + one_if (p r)
count-push p rows r = sum_by-append (λ x. cond (p x) 1 0) rows (r ∷ []) ∙ ap (λ n. count_by p rows + n) (sum_by-cons (λ x. cond (p x) 1 0) r [] ∙ add-zero (one_if (p r)))

rows-push : (rows : List NumberedRow) (r : NumberedRow) → rows_of (rows ++ r ∷ []) ≡ rows_of rows ++ r.row ∷ []
rows-push [] r = refl
rows-push (x ∷ xs) r = ap (λ l. x.row ∷ l) (rows-push xs r)

past-end : (xs : List LineCount) (n : ℕ) → length xs ≤ n → line_at xs n ≡ no_count
past-end [] n h = refl
past-end (x ∷ xs) zero h = absurd (omega arith)
past-end (x ∷ xs) (suc n) h = past-end xs n (omega arith)

-- a line that fewer rows were counted for
below-by : (rows n : ℕ) (xs : List LineCount) → All (IsLineCount rows) xs → ((leb (suc n) (length xs) ≡ true) × (suc n ≤ length xs)) ⊎ ((leb (suc n) (length xs) ≡ false) × (length xs < suc n)) → IsLineCount rows (line_at xs n)
below-by rows n xs h (inl e) = h n no_count e.1
below-by rows n xs h (inr e) = subst (λ (l : LineCount). IsLineCount rows l) (sym (past-end xs n (omega (arith, e.1)))) (omega arith, omega arith)

last-below : (rows n : ℕ) (xs : List LineCount) → All (IsLineCount rows) xs → IsLineCount rows (line_at xs n)
last-below rows n xs h = below-by rows n xs h (leb_tells (suc n) (length xs))

count-by : (js : List Judgement) (rows : List Row) (r : Row) (n before : ℕ) (old new : LineCount) (b : Bool) → breaks n r ≡ b → old.last ≤ before
    → IsCountOf js rows n old → new ≡ (if b then counted_by (before + 1) old else old)
    → ((eqb old.last (before + 1) ≡ true) × (old.last ≡ before + 1)) ⊎ ((eqb old.last (before + 1) ≡ false) × (old.last ≢ before + 1))
    → IsCountOf js (rows ++ r ∷ []) n new
count-by js rows r n before old new true is less h e (inl k) = absurd (omega (arith, k.1))
count-by js rows r n before old new true is less h e (inr k) = rw e (rw k.0 (record {
  judgement = h.judgement;
  broken = ap (λ m. m + 1) h.broken ∙ sym (count-push (breaks n) rows r ∙ ap (λ x. count_by (breaks n) rows + one_if x) is);
}))
count-by js rows r n before old new false is less h e k = rw e (record {
  judgement = h.judgement;
  broken = h.broken ∙ sym (count-push (breaks n) rows r ∙ ap (λ x. count_by (breaks n) rows + one_if x) is ∙ add-zero (count_by (breaks n) rows));
})

worst-push : (w : Option NumberedRow) (rows : List NumberedRow) (r : NumberedRow) → worst_after w (rows ++ r ∷ []) ≡ worse (worst_after w rows) r
worst-push w [] r = refl
worst-push w (x ∷ xs) r = worst-push (worse w x) xs r

map-if : (b : Bool) (r : NumberedRow) (w : Option NumberedRow) → option_map worst_of (if b then Some r else w) ≡ (if b then Some (worst_of r) else option_map worst_of w)
map-if true r w = refl
map-if false r w = refl

worse-is : (w : Option NumberedRow) (r : NumberedRow) → option_map worst_of (worse w r) ≡ worse_of (option_map worst_of w) r.number (lines_broken r.row)
worse-is None r = map-if (ltb 0 (lines_broken r.row)) r None
worse-is (Some x) r = map-if (ltb (lines_broken x.row) (lines_broken r.row)) r (Some x)

pub counts-more : (js : List Judgement) (rows : List NumberedRow) (r : NumberedRow) (old new : RowCountsData) → AreRowCounts old → AreCountsOf js rows old
    → ((n : ℕ) → line_at new.lines n ≡ (if is_in (broken_lines r.row) n then counted_by (old.rows + 1) (line_at old.lines n) else line_at old.lines n))
    → new.rows ≡ old.rows + 1 → new.tolerated ≡ old.tolerated + one_if (is_tolerated r.row.verdict) → new.broken ≡ old.broken + one_if (is_broken_verdict r.row.verdict)
    → new.limited ≡ old.limited + one_if (is_limited r.row.verdict) → new.missed ≡ old.missed + one_if (ltb 0 r.row.missed)
    → new.worst ≡ worse_of old.worst r.number (lines_broken r.row) → AreCountsOf js (rows ++ r ∷ []) new
counts-more js rows r old new fine h at all tolerated broken limited missed worst = record {
  lines = λ n. subst (λ (l : List Row). IsCountOf js l n (line_at new.lines n)) (sym (rows-push rows r)) (count-by js (rows_of rows) r.row n old.rows (line_at old.lines n) (line_at new.lines n) (breaks n r.row) refl (last-below old.rows n old.lines fine.lines).1 (h.lines n) (at n) (eqb_tells (line_at old.lines n).last (old.rows + 1)));
  rows_are = all ∙ ap (λ n. n + 1) h.rows_are ∙ sym (ap length (rows-push rows r) ∙ length-append (rows_of rows) (r.row ∷ []));
  tolerated = tolerated ∙ ap (λ n. n + one_if (is_tolerated r.row.verdict)) h.tolerated ∙ sym (ap (count_by (λ (x : Row). is_tolerated x.verdict)) (rows-push rows r) ∙ count-push (λ (x : Row). is_tolerated x.verdict) (rows_of rows) r.row);
  broken = broken ∙ ap (λ n. n + one_if (is_broken_verdict r.row.verdict)) h.broken ∙ sym (ap (count_by (λ (x : Row). is_broken_verdict x.verdict)) (rows-push rows r) ∙ count-push (λ (x : Row). is_broken_verdict x.verdict) (rows_of rows) r.row);
  limited = limited ∙ ap (λ n. n + one_if (is_limited r.row.verdict)) h.limited ∙ sym (ap (count_by (λ (x : Row). is_limited x.verdict)) (rows-push rows r) ∙ count-push (λ (x : Row). is_limited x.verdict) (rows_of rows) r.row);
  missed = missed ∙ ap (λ n. n + one_if (ltb 0 r.row.missed)) h.missed ∙ sym (ap (count_by (λ (x : Row). ltb 0 x.missed)) (rows-push rows r) ∙ count-push (λ (x : Row). ltb 0 x.missed) (rows_of rows) r.row);
  worst = worst ∙ ap (λ w. worse_of w r.number (lines_broken r.row)) h.worst ∙ sym (ap (option_map worst_of) (worst-push None rows r) ∙ worse-is (worst_after None rows) r);
}

-- ---- what is denied
above-true : (b : Bool) → true ≡ (b || true)
above-true true = refl
above-true false = refl

is-either : (v : RowVerdict) → not (is_tolerated v) ≡ (is_broken_verdict v || is_limited v)
is-either Tolerated = refl
is-either Broken = refl
is-either (Limit n) = refl

above-zero : (m : ℕ) → m ≡ 0 + m
above-zero m = omega arith

above-one-by : (m : ℕ) → ((leb 1 (1 + m) ≡ true) × (1 ≤ 1 + m)) ⊎ ((leb 1 (1 + m) ≡ false) × (1 + m < 1)) → ltb 0 (1 + m) ≡ true
above-one-by m (inl e) = e.0
above-one-by m (inr e) = absurd (omega (arith, e.1))

above-one : (m : ℕ) → ltb 0 (1 + m) ≡ true
above-one m = above-one-by m (leb_tells 1 (1 + m))

one-more-by : (m : ℕ) → ((eqb (1 + m) 0 ≡ true) × (1 + m ≡ 0)) ⊎ ((eqb (1 + m) 0 ≡ false) × (1 + m ≢ 0)) → (1 + m == 0) ≡ false
one-more-by m (inl e) = absurd (omega (arith, e.1))
one-more-by m (inr e) = e.0

above-by : (p q : Bool) (m n : ℕ) (rest : Bool) → rest ≡ (ltb 0 m || ltb 0 n) → ((p || q) || rest) ≡ (ltb 0 (one_if p + m) || ltb 0 (one_if q + n))
above-by true q m n rest e = ap (λ b. b || ltb 0 (one_if q + n)) (sym (above-one m))
above-by false true m n rest e = above-true (ltb 0 (0 + m)) ∙ ap (λ b. ltb 0 (0 + m) || b) (sym (above-one n))
above-by false false m n rest e = e ∙ ap₂ (λ a b. ltb 0 a || ltb 0 b) (above-zero m) (above-zero n)

pub some-not-tolerated : (rows : List Row) → some_not_tolerated rows ≡ (ltb 0 (count_by (λ (r : Row). is_broken_verdict r.verdict) rows) || ltb 0 (count_by (λ (r : Row). is_limited r.verdict) rows))
some-not-tolerated [] = refl
some-not-tolerated (r ∷ rs) =
    ap (λ b. b || some_not_tolerated rs) (is-either r.verdict)
    ∙ above-by (is_broken_verdict r.verdict) (is_limited r.verdict) (count_by (λ (x : Row). is_broken_verdict x.verdict) rs) (count_by (λ (x : Row). is_limited x.verdict) rs) (some_not_tolerated rs) (some-not-tolerated rs)
    ∙ sym (ap₂ (λ m n. ltb 0 m || ltb 0 n) (sum_by-cons (λ (x : Row). cond (is_broken_verdict x.verdict) 1 0) r rs) (sum_by-cons (λ (x : Row). cond (is_limited x.verdict) 1 0) r rs))

zero-by : (b : Bool) (m : ℕ) (rest : Bool) → (m == 0) ≡ rest → ((one_if b + m) == 0) ≡ (not b && rest)
zero-by true m rest e = one-more-by m (eqb_tells (1 + m) 0)
zero-by false m rest e = ap (λ k. k == 0) (sym (above-zero m)) ∙ e

pub none-counted : (p : Row → Bool) (rows : List Row) → (count_by p rows == 0) ≡ list_all (λ r. not (p r)) rows
none-counted p [] = refl
none-counted p (r ∷ rs) = ap (λ m. m == 0) (sum_by-cons (λ x. cond (p x) 1 0) r rs) ∙ zero-by (p r) (count_by p rs) (list_all (λ x. not (p x)) rs) (none-counted p rs)

pub any-same : (p q : Judgement → Bool) (js : List Judgement) → ((j : Judgement) → p j ≡ q j) → list_any p js ≡ list_any q js
any-same p q [] same = refl
any-same p q (j ∷ js) same = ap₂ (λ a b. a || b) (same j) (any-same p q js same)

-- ---- the lines that are counted
has-by : (b : Bool) (i : ℕ) (o : Option ℕ) (rest : Bool) → is_some o ≡ rest → is_some (if b then Some i else o) ≡ (b || rest)
has-by true i o rest e = refl
has-by false i o rest e = e

pub has-place : (i n : ℕ) (js : List Judgement) → is_some (place_from i n js) ≡ has_judgement js n
has-place i n [] = refl
has-place i n (j ∷ js) = has-by (j.place.own == n) i (place_from (i + 1) n js) (has_judgement js n) (has-place (i + 1) n js)

some-by : (b : Bool) (m : ℕ) (rest : Bool) → ltb 0 m ≡ rest → ltb 0 (one_if b + m) ≡ (b || rest)
some-by true m rest e = above-one m
some-by false m rest e = ap (ltb 0) (sym (above-zero m)) ∙ e

pub some-counted : (p : Row → Bool) (rows : List Row) → ltb 0 (count_by p rows) ≡ list_any p rows
some-counted p [] = refl
some-counted p (r ∷ rs) = ap (ltb 0) (sum_by-cons (λ x. cond (p x) 1 0) r rs) ∙ some-by (p r) (count_by p rs) (list_any p rs) (some-counted p rs)

pub counted-is : (js : List Judgement) (rows : List Row) (n : ℕ) (l : LineCount) → IsCountOf js rows n l → (is_some l.judgement || ltb 0 l.broken) ≡ is_counted js rows n
counted-is js rows n l h = ap₂ (λ a b. a || b) (ap is_some h.judgement ∙ has-place 0 n js) (ap (ltb 0) h.broken ∙ some-counted (breaks n) rows)

-- no line from a number on
filter-none : (p : ℕ → Bool) (n : ℕ) → p n ≡ false → filter p (n ∷ []) ≡ []
filter-none p n e = ap (λ b. cond b (n ∷ []) []) e

filter-up : (p : ℕ → Bool) (m d : ℕ) → ((n : ℕ) → m ≤ n → p n ≡ false) → filter p (numbers (d + m)) ≡ filter p (numbers m)
filter-up p m zero none = ap (λ k. filter p (numbers k)) (sym (above-zero m))
filter-up p m (suc d) none =
    let next : suc d + m ≡ suc (d + m) = omega arith in
    ap (λ k. filter p (numbers k)) next ∙ filter-append p (numbers (d + m)) ((d + m) ∷ []) ∙ ap (λ l. filter p (numbers (d + m)) ++ l) (filter-none p (d + m) (none (d + m) (omega arith)))
    ∙ append-nil (filter p (numbers (d + m))) ∙ filter-up p m d none

pub same-filter : (p : ℕ → Bool) (m n : ℕ) → ((k : ℕ) → m ≤ k → p k ≡ false) → ((k : ℕ) → n ≤ k → p k ≡ false) → filter p (numbers m) ≡ filter p (numbers n)
same-filter p m n none all =
    let e : n + m ≡ m + n = omega arith in
    sym (filter-up p m n none) ∙ ap (λ k. filter p (numbers k)) e ∙ filter-up p n m all

below-eqb : (k n : ℕ) → k + 1 ≤ n → ((eqb k n ≡ true) × (k ≡ n)) ⊎ ((eqb k n ≡ false) × (k ≢ n)) → (k == n) ≡ false
below-eqb k n h (inl e) = absurd (omega (arith, e.1))
below-eqb k n h (inr e) = e.0

eqb-below : (k n : ℕ) → k + 1 ≤ n → (k == n) ≡ false
eqb-below k n h = below-eqb k n h (eqb_tells k n)

above-bound : (ns : List ℕ) (start n : ℕ) → fold (λ m k. max m (k + 1)) start ns ≤ n → (start ≤ n) × (is_in ns n ≡ false)
above-bound [] start n h = (h, refl)
above-bound (k ∷ ks) start n h =
    let (less, rest) = above-bound ks (max start (k + 1)) n h in
    (omega (arith, less), ap (λ b. b || is_in ks n) (eqb-below k n (omega (arith, less))) ∙ rest)

in-lines : (js : List Judgement) (n : ℕ) → has_judgement js n ≡ is_in (judged_lines js) n
in-lines [] n = refl
in-lines (j ∷ js) n = ap (λ b. (j.place.own == n) || b) (in-lines js n)

in-rows : (rows : List Row) (n : ℕ) → list_any (breaks n) rows ≡ is_in (flat_map broken_lines rows) n
in-rows [] n = refl
in-rows (r ∷ rs) n = ap (λ b. breaks n r || b) (in-rows rs n) ∙ sym (list_any-append (λ x. x == n) (broken_lines r) (flat_map broken_lines rs))

pub counted-below : (js : List Judgement) (rows : List Row) (n : ℕ) → bound_of (judged_lines js ++ flat_map broken_lines rows) ≤ n → is_counted js rows n ≡ false
counted-below js rows n h =
    ap₂ (λ a b. a || b) (in-lines js n) (in-rows rows n)
    ∙ sym (list_any-append (λ x. x == n) (judged_lines js) (flat_map broken_lines rows)) ∙ (above-bound (judged_lines js ++ flat_map broken_lines rows) 0 n h).1

pub counted-there : (js : List Judgement) (rows : List Row) (xs : List LineCount) (n : ℕ) → ((k : ℕ) → IsCountOf js rows k (line_at xs k)) → length xs ≤ n → is_counted js rows n ≡ false
counted-there js rows xs n h long = sym (counted-is js rows n (line_at xs n) (h n)) ∙ ap (λ (l : LineCount). is_some l.judgement || ltb 0 l.broken) (past-end xs n long)

pub line-there : (xs ys : List LineCount) (n : ℕ) (x : LineCount) → x ≡ get_or xs n x → n < length xs → xs ≡ ys → x ≡ line_at ys n
line-there xs ys n x e h same = e ∙ same-item xs n x no_count h ∙ ap (λ l. line_at l n) same

pub all-lines : (js : List Judgement) (rows : List Row) (xs : List LineCount) → ((k : ℕ) → IsCountOf js rows k (line_at xs k)) → filter (is_counted js rows) (numbers (length xs)) ≡ counted_lines js rows
all-lines js rows xs h =
    same-filter (is_counted js rows) (length xs) (bound_of (judged_lines js ++ flat_map broken_lines rows)) (λ k long. counted-there js rows xs k h long) (λ k long. counted-below js rows k long)

text-if : (f : ℕ → List ℕ) (b : Bool) (n : ℕ) → (if b then f n else []) ≡ flat_map f (cond b (n ∷ []) [])
text-if f true n = sym (append-nil (f n))
text-if f false n = refl

-- the texts of one number more
pub texts-next : (f : ℕ → List ℕ) (p : ℕ → Bool) (n : ℕ) → flat_map f (filter p (numbers n)) ++ (if p n then f n else []) ≡ flat_map f (filter p (numbers (n + 1)))
texts-next f p n =
    let next : n + 1 ≡ suc n = omega arith in
    ap (λ l. flat_map f (filter p (numbers n)) ++ l) (text-if f (p n) n)
    ∙ sym (ap (flat_map f) (filter-append p (numbers n) (n ∷ [])) ∙ flat_map-append f (filter p (numbers n)) (filter p (n ∷ [])))
    ∙ ap (λ k. flat_map f (filter p (numbers k))) (sym next)

-- ---- what a line expects
-- the judgement at the place of the first one on a line
record Found (i k : ℕ) (js : List Judgement) (d : Judgement) (o : Option Judgement) : Type 0 where
  pub past : ℕ
  pub at : k ≡ i + past
  pub there : past < length js
  pub is : o ≡ Some (get_or js past d)

some-number : (x y : ℕ) → Some x ≡ Some y → x ≡ y
some-number x y e = cc

found-by : (b : Bool) (i k : ℕ) (j : Judgement) (js : List Judgement) (d : Judgement) (place : Option ℕ) (o : Option Judgement) → (if b then Some i else place) ≡ Some k
    → (place ≡ Some k → Found (i + 1) k js d o) → Found i k (j ∷ js) d (if b then Some j else o)
found-by true i k j js d place o e rest = let same = some-number i k e in record {
  past = 0;
  at = omega (arith, same);
  there = omega arith;
  is = refl;
}
found-by false i k j js d place o e rest = let h = rest e in let at = h.at in let there = h.there in record {
  past = suc h.past;
  at = omega (arith, at);
  there = omega (arith, there);
  is = h.is;
}

found : (n i k : ℕ) (js : List Judgement) (d : Judgement) → place_from i n js ≡ Some k → Found i k js d (find (λ (j : Judgement). j.place.own == n) js)
found n i k [] d e = absurd (cc)
found n i k (j ∷ js) d e = found-by (j.place.own == n) i k j js d (place_from (i + 1) n js) (find (λ (x : Judgement). x.place.own == n) js) e (λ rest. found n (i + 1) k js d rest)

pub found-at : (n k : ℕ) (js : List Judgement) (d : Judgement) → Some k ≡ place_from 0 n js → (k < length js) × (find (λ (j : Judgement). j.place.own == n) js ≡ Some (get_or js k d))
found-at n k js d e =
    let h = found n 0 k js d (sym e) in
    let same : k ≡ h.past = omega (arith, h.at) in
    let there = h.there in
    (omega (arith, same, there), h.is ∙ ap (λ m. Some (get_or js m d)) (sym same))

none-by : (b : Bool) (i : ℕ) (j : Judgement) (place : Option ℕ) (o : Option Judgement) → None ≡ (if b then Some i else place) → (None ≡ place → o ≡ None) → (if b then Some j else o) ≡ None
none-by true i j place o e rest = absurd (cc)
none-by false i j place o e rest = rest e

none-from : (n i : ℕ) (js : List Judgement) → None ≡ place_from i n js → find (λ (j : Judgement). j.place.own == n) js ≡ None
none-from n i [] e = refl
none-from n i (j ∷ js) e = none-by (j.place.own == n) i j (place_from (i + 1) n js) (find (λ (x : Judgement). x.place.own == n) js) e (λ rest. none-from n (i + 1) js rest)

pub none-at : (n : ℕ) (js : List Judgement) → None ≡ place_from 0 n js → find (λ (j : Judgement). j.place.own == n) js ≡ None
none-at n js e = none-from n 0 js e

pub place-within : (n k : ℕ) (js : List Judgement) → Some k ≡ place_from 0 n js → k < length js
place-within n k [] e = absurd (cc)
place-within n k (j ∷ js) e = (found-at n k (j ∷ js) j e).0
