-- The pieces of a text, cut at its LFs.
use Rattle.std.proofs.Common.{◌≡◌, ℕ, ◌+◌, ◌<◌, Bool, true, false, cond, eqb, List, [], ◌∷◌, ◌++◌, take, drop, get_or, map, Some, None, refl, sym, ap, subst, ◌∙◌, append_assoc, arith}
use Rattle.std.specs.List.{AllByRecursion, onto_first}
use Rattle.std.specs.Str.Lines.{strip_carriage_return}
use Rattle.std.proofs.lemmas.Bool.{eqb-true}
use Rattle.std.proofs.lemmas.List.{drop_more, get_or-take, length-take-le, take-append-drop, map-append}
use Rattle.std.proofs.lemmas.List.Elements.{All-append, All-cons, All-from_get_or, All-nil}
use Rattle.std.proofs.lemmas.List.Splits.{slice_split_at, slice_split_none}
use Rattle.memchr.specs.Find.{IsFirstByte, is_byte}
use Rattle.lin_live.specs.Lines.{HasNoLf, pieces_at_lf, but_last, last_one, ended_lines, after_last_lf}

-- ---- but_last, last_one
pub but_last-push : (ps : List (List ℕ)) (p : List ℕ) → but_last (ps ++ p ∷ []) ≡ ps
but_last-push [] p = refl
but_last-push (l ∷ []) p = refl
but_last-push (l ∷ m ∷ ls) p = ap (λ ls. l ∷ ls) (but_last-push (m ∷ ls) p)

pub last_one-push : (ps : List (List ℕ)) (p : List ℕ) → last_one (ps ++ p ∷ []) ≡ p
last_one-push [] p = refl
last_one-push (l ∷ []) p = refl
last_one-push (l ∷ m ∷ ls) p = last_one-push (m ∷ ls) p

but_last-append : (ps : List (List ℕ)) (q : List ℕ) (qs : List (List ℕ)) → but_last (ps ++ q ∷ qs) ≡ ps ++ but_last (q ∷ qs)
but_last-append [] q qs = refl
but_last-append (l ∷ []) q qs = refl
but_last-append (l ∷ m ∷ ls) q qs = ap (λ ls. l ∷ ls) (but_last-append (m ∷ ls) q qs)

last_one-append : (ps : List (List ℕ)) (q : List ℕ) (qs : List (List ℕ)) → last_one (ps ++ q ∷ qs) ≡ last_one (q ∷ qs)
last_one-append [] q qs = refl
last_one-append (l ∷ []) q qs = refl
last_one-append (l ∷ m ∷ ls) q qs = last_one-append (m ∷ ls) q qs

-- ---- there is a piece at least
abbrev IsSome : List (List ℕ) → Type 0
IsSome ps = (q : List ℕ) × (qs : List (List ℕ)) × (ps ≡ q ∷ qs)

onto-some : (x : ℕ) (ps : List (List ℕ)) → IsSome (onto_first x ps)
onto-some x [] = (_, _, refl)
onto-some x (p ∷ ps) = (_, _, refl)

cut-some : (b : Bool) (x : ℕ) (ps : List (List ℕ)) → IsSome (cond b ([] ∷ ps) (onto_first x ps))
cut-some true x ps = (_, _, refl)
cut-some false x ps = onto-some x ps

pub pieces-some : (xs : List ℕ) → IsSome (pieces_at_lf xs)
pieces-some [] = (_, _, refl)
pieces-some (x ∷ xs) = cut-some (eqb x 10) x (pieces_at_lf xs)

-- ---- a text and more: what stands after its last LF goes on
goes-on : (b : Bool) (x : ℕ) (ps qs rs : List (List ℕ)) (ys : List ℕ) → eqb x 10 ≡ b → IsSome ps → qs ≡ but_last ps ++ rs → rs ≡ pieces_at_lf (last_one ps ++ ys)
    → cond b ([] ∷ qs) (onto_first x qs) ≡ but_last (cond b ([] ∷ ps) (onto_first x ps)) ++ pieces_at_lf (last_one (cond b ([] ∷ ps) (onto_first x ps)) ++ ys)
goes-on b x [] qs rs ys e some h k = absurd (cc)
goes-on true x (p ∷ ps) qs rs ys e some h k = ap (λ l. [] ∷ l) (h ∙ ap (λ l. but_last (p ∷ ps) ++ l) k)
goes-on false x (p ∷ []) qs rs ys e some h k = ap (onto_first x) (h ∙ k) ∙ ap (λ c. cond c ([] ∷ pieces_at_lf (p ++ ys)) (onto_first x (pieces_at_lf (p ++ ys)))) (sym e)
goes-on false x (p ∷ q ∷ ps) qs rs ys e some h k = ap (onto_first x) (h ∙ ap (λ l. but_last (p ∷ q ∷ ps) ++ l) k)

pub pieces-append : (xs ys : List ℕ) → pieces_at_lf (xs ++ ys) ≡ but_last (pieces_at_lf xs) ++ pieces_at_lf (after_last_lf xs ++ ys)
pieces-append [] ys = refl
pieces-append (x ∷ xs) ys = goes-on (eqb x 10) x (pieces_at_lf xs) (pieces_at_lf (xs ++ ys)) _ ys refl (pieces-some xs) (pieces-append xs ys) refl

-- ---- no piece has an LF
onto-clean : (x : ℕ) (ps : List (List ℕ)) → eqb x 10 ≡ false → AllByRecursion HasNoLf ps → AllByRecursion HasNoLf (onto_first x ps)
onto-clean x [] e h = (All-cons (λ b. eqb b 10 ≡ false) x [] e (All-nil (λ b. eqb b 10 ≡ false)), tt)
onto-clean x (p ∷ ps) e h = (All-cons (λ b. eqb b 10 ≡ false) x p e h.0, h.1)

cut-clean : (b : Bool) (x : ℕ) (ps : List (List ℕ)) → eqb x 10 ≡ b → AllByRecursion HasNoLf ps → AllByRecursion HasNoLf (cond b ([] ∷ ps) (onto_first x ps))
cut-clean true x ps e h = (All-nil (λ b. eqb b 10 ≡ false), h)
cut-clean false x ps e h = onto-clean x ps e h

pub pieces-clean : (xs : List ℕ) → AllByRecursion HasNoLf (pieces_at_lf xs)
pieces-clean [] = (All-nil (λ b. eqb b 10 ≡ false), tt)
pieces-clean (x ∷ xs) = cut-clean (eqb x 10) x (pieces_at_lf xs) refl (pieces-clean xs)

last-clean : (ps : List (List ℕ)) → AllByRecursion HasNoLf ps → HasNoLf (last_one ps)
last-clean [] h = All-nil (λ b. eqb b 10 ≡ false)
last-clean (p ∷ []) h = h.0
last-clean (p ∷ q ∷ ps) h = last-clean (q ∷ ps) h.1

pub tail-clean : (xs : List ℕ) → HasNoLf (after_last_lf xs)
tail-clean xs = last-clean (pieces_at_lf xs) (pieces-clean xs)

-- ---- what a search for an LF finds
not-lf : (b : Bool) → (b ≡ true → ⊥) → b ≡ false
not-lf true h = absurd (h refl)
not-lf false h = refl

pub none-found : (xs : List ℕ) → IsFirstByte (is_byte 10) xs None → HasNoLf xs
none-found xs h = All-from_get_or (λ b. eqb b 10 ≡ false) xs 0 (λ k l. not-lf _ (h k (omega arith) l))

pub found-front : (xs : List ℕ) (n : ℕ) → IsFirstByte (is_byte 10) xs (Some n) → HasNoLf (take n xs)
found-front xs n h =
    All-from_get_or (λ b. eqb b 10 ≡ false) (take n xs) 0
    (λ k l. let below : k < n = omega (arith, l, length-take-le n xs (omega (arith, h.0.high))) in
    subst (λ b. eqb b 10 ≡ false) (sym (get_or-take n xs k 0 below)) (not-lf _ (h.0.before k (omega arith) below)))

pub found-split : (xs : List ℕ) (n : ℕ) → IsFirstByte (is_byte 10) xs (Some n) → xs ≡ take n xs ++ 10 ∷ drop (n + 1) xs
found-split xs n h =
    sym (take-append-drop n xs)
    ∙ ap (λ l. take n xs ++ l) (drop_more xs n 0 h.0.high ∙ ap (λ b. b ∷ drop (n + 1) xs) (eqb-true (get_or xs n 0) 10 h.1))

-- ---- a text that is cut into lines and more
pub closed-at : (text more : List ℕ) (ls : List (List ℕ)) → pieces_at_lf text ≡ ls ++ pieces_at_lf more → ended_lines text ≡ map strip_carriage_return ls ++ ended_lines more
closed-at text more ls h =
    let some = pieces-some more in
    ap (λ ps. map strip_carriage_return (but_last ps)) (h ∙ ap (λ ps. ls ++ ps) some.2)
    ∙ ap (map strip_carriage_return) (but_last-append ls some.0 some.1 ∙ ap (λ ps. ls ++ but_last ps) (sym some.2))
    ∙ map-append strip_carriage_return ls (but_last (pieces_at_lf more))

pub tail-at : (text more : List ℕ) (ls : List (List ℕ)) → pieces_at_lf text ≡ ls ++ pieces_at_lf more → after_last_lf text ≡ after_last_lf more
tail-at text more ls h =
    let some = pieces-some more in
    ap last_one (h ∙ ap (λ ps. ls ++ ps) some.2) ∙ last_one-append ls some.0 some.1 ∙ ap last_one (sym some.2)

pub closed-clean : (xs : List ℕ) → HasNoLf xs → ended_lines xs ≡ []
closed-clean xs h = ap (λ ps. map strip_carriage_return (but_last ps)) (slice_split_none (λ b. eqb b 10) xs h)

pub tail-same : (xs : List ℕ) → HasNoLf xs → after_last_lf xs ≡ xs
tail-same xs h = ap last_one (slice_split_none (λ b. eqb b 10) xs h)

-- the line that ends at the first LF
pub line-cut : (text r rest : List ℕ) (ls : List (List ℕ)) (n : ℕ) → pieces_at_lf text ≡ ls ++ pieces_at_lf (r ++ rest) → HasNoLf r → IsFirstByte (is_byte 10) rest (Some n)
    → pieces_at_lf text ≡ (ls ++ (r ++ take n rest) ∷ []) ++ pieces_at_lf (drop (n + 1) rest)
line-cut text r rest ls n h clean found =
    let line = r ++ take n rest in
    let more = drop (n + 1) rest in
    h
    ∙ ap (λ l. ls ++ pieces_at_lf l) (ap (λ l. r ++ l) (found-split rest n found) ∙ sym (append_assoc r (take n rest) (10 ∷ more)))
    ∙ ap (λ ps. ls ++ ps) (slice_split_at (λ b. eqb b 10) line 10 more (All-append (λ b. eqb b 10 ≡ false) r (take n rest) clean (found-front rest n found)) refl)
    ∙ sym (append_assoc ls (line ∷ []) (pieces_at_lf more))

pub closed-append : (xs ys : List ℕ) → ended_lines (xs ++ ys) ≡ ended_lines xs ++ ended_lines (after_last_lf xs ++ ys)
closed-append xs ys = closed-at (xs ++ ys) (after_last_lf xs ++ ys) (but_last (pieces_at_lf xs)) (pieces-append xs ys)

pub tail-append : (xs ys : List ℕ) → after_last_lf (xs ++ ys) ≡ after_last_lf (after_last_lf xs ++ ys)
tail-append xs ys = tail-at (xs ++ ys) (after_last_lf xs ++ ys) (but_last (pieces_at_lf xs)) (pieces-append xs ys)
