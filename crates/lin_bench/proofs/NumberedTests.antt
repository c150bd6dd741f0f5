-- The tests of a bench script, numbered by their names.
use Rattle.std.proofs.Common.{◌≡◌, ◌∙◌, ◌+◌, ◌-◌, ◌<◌, ◌≤◌, ℕ, Bool, true, false, cond, List, [], ◌∷◌, ◌++◌, ap, ap₂, append-nil, append_assoc, arith, count_by, drop, get_or, length, map, refl, reverse, slice_index_or, subst, sym, take, Option, Some, None}
use Rattle.std.specs.List.{cons_option, filter_map}
use Rattle.std.specs.Str.{bytes_eq}
use Rattle.std.proofs.lemmas.List.{length-take-le, map-append, reverse-append, reverse-reverse}
use Rattle.std.proofs.lemmas.List.Sums.{count_by-le-length, sum_by-cons, sum_by_push}
use Rattle.std.proofs.lemmas.Slice.Eq.{bytes_eq-Decides}
use Rattle.lin_bench.specs.Tests.{AreNumbered, name_begun, numbered, numbered_after, test_names}
use Rattle.lin_bench.specs.declared.line.ScriptLine.{ScriptLine}
use Rattle.lin_bench.specs.declared.place.LinePlace.{LinePlace}
use Rattle.lin_bench.specs.declared.tests.TestName.{TestName}
use Rattle.lin_bench.proofs.LastItems.{at-end}
use Rattle.lin_bench.proofs.QuietTests.{line-at}

abbrev pub names_of : List TestName → List (List ℕ)
names_of ts = map (λ (t : TestName). t.name) ts

-- how many of these tests have a name
abbrev pub named : List TestName → List ℕ → ℕ
named ts n = count_by (λ (t : TestName). bytes_eq t.name n) ts

-- the test of a name after these
abbrev pub test_after : List TestName → List ℕ → TestName
test_after ts n = record { name = n; before = named ts n }

count-names : (ts : List TestName) (n : List ℕ) → count_by (λ m. bytes_eq m n) (names_of ts) ≡ named ts n
count-names [] n = refl
count-names (t ∷ ts) n =
    sum_by-cons (λ m. cond (bytes_eq m n) 1 0) t.name (names_of ts)
    ∙ ap (λ k. cond (bytes_eq t.name n) 1 0 + k) (count-names ts n)
    ∙ sym (sum_by-cons (λ (u : TestName). cond (bytes_eq u.name n) 1 0) t ts)

numbered-append : (before xs ys : List (List ℕ)) → numbered_after before (xs ++ ys) ≡ numbered_after before xs ++ numbered_after (before ++ xs) ys
numbered-append before [] ys = ap (λ b. numbered_after b ys) (sym (append-nil before))
numbered-append before (x ∷ xs) ys =
    ap (λ l. record { name = x; before = count_by (λ m. bytes_eq m x) before } ∷ l)
    (numbered-append (before ++ x ∷ []) xs ys ∙ ap (λ b. numbered_after (before ++ x ∷ []) xs ++ numbered_after b ys) (append_assoc before (x ∷ []) xs))

-- one more test
pub one-more : (ts : List TestName) (n : List ℕ) (ns : List (List ℕ)) → numbered_after (names_of ts) (n ∷ ns) ≡ test_after ts n ∷ numbered_after (names_of (ts ++ test_after ts n ∷ [])) ns
one-more ts n ns =
    let first : TestName = record { name = n; before = count_by (λ m. bytes_eq m n) (names_of ts) } in
    let same : first ≡ test_after ts n = ap (λ (k : ℕ). record { name = n; before = k }) (count-names ts n) in
    ap (λ (t : TestName). t ∷ numbered_after (names_of ts ++ n ∷ []) ns) same
    ∙ ap (λ b. test_after ts n ∷ numbered_after b ns) (sym (map-append (λ (t : TestName). t.name) ts (test_after ts n ∷ [])))

pub numbered-more : (ts : List TestName) (n : List ℕ) → AreNumbered ts → AreNumbered (ts ++ test_after ts n ∷ [])
numbered-more ts n h =
    ap (λ l. l ++ test_after ts n ∷ []) h
    ∙ ap (λ l. numbered (names_of ts) ++ l) (sym (one-more ts n []))
    ∙ sym (numbered-append [] (names_of ts) (n ∷ []))
    ∙ ap numbered (sym (map-append (λ (t : TestName). t.name) ts (test_after ts n ∷ [])))

-- the last test
last-same : {A : Type 0} (xs ys : List A) (x y : A) → xs ++ x ∷ [] ≡ ys ++ y ∷ [] → (xs ≡ ys) × (x ≡ y)
last-same xs ys x y e =
    let back : x ∷ reverse xs ≡ y ∷ reverse ys = sym (reverse-append xs (x ∷ [])) ∙ ap reverse e ∙ reverse-append ys (y ∷ []) in (
      sym (reverse-reverse xs) ∙ ap (λ l. reverse (drop 1 l)) back ∙ reverse-reverse ys,
      ap (λ l. slice_index_or l 0 x) back,
    )

pub numbered-last : (ts : List TestName) (t : TestName) → AreNumbered (ts ++ t ∷ []) → AreNumbered ts × (t.before ≡ named ts t.name)
numbered-last ts t h =
    let all = h ∙ ap numbered (map-append (λ (u : TestName). u.name) ts (t ∷ [])) ∙ numbered-append [] (names_of ts) (t.name ∷ []) in
    let both = last-same ts (numbered (names_of ts)) t (record { name = t.name; before = count_by (λ m. bytes_eq m t.name) (names_of ts) }) all in
    (both.0, ap (λ (u : TestName). u.before) both.1 ∙ count-names ts t.name)

named-push : (ts : List TestName) (t : TestName) (n : List ℕ) (b : Bool) → bytes_eq t.name n ≡ b → named (ts ++ t ∷ []) n ≡ named ts n + cond b 1 0
named-push ts t n b e = sum_by_push (λ (u : TestName). cond (bytes_eq u.name n) 1 0) ts t ∙ ap (λ (v : Bool). named ts n + cond v 1 0) e

-- tests, by the last one
module _ (ts : List TestName) (t : TestName) (some : 1 ≤ length ts) (is : t ≡ get_or ts (length ts - 1) t) where
  abbrev pub but_last : List TestName
  but_last = take (length ts - 1) ts

  with-last : ts ≡ but_last ++ t ∷ []
  with-last = at-end ts (length ts - 1) t (omega (arith, some)) ∙ ap (λ u. but_last ++ u ∷ []) (sym is)

  numbered-whole : AreNumbered ts → AreNumbered but_last × (t.before ≡ named but_last t.name)
  numbered-whole h = numbered-last but_last t (subst AreNumbered with-last h)

  pub numbered-before : AreNumbered ts → AreNumbered but_last
  numbered-before h = (numbered-whole h).0

  -- fewer tests have its name before it than there are
  pub last-few : AreNumbered ts → t.before + 1 ≤ length ts
  last-few h =
      let same = (numbered-whole h).1 in
      let few = count_by-le-length (λ (u : TestName). bytes_eq u.name t.name) but_last in
      let long = length-take-le (length ts - 1) ts (omega (arith, some)) in
      omega (arith, same, few, long, some)

  pub last-named : (n : List ℕ) → AreNumbered ts → bytes_eq t.name n ≡ true → t.before + 1 ≡ named ts n
  last-named n h e =
      let same = (bytes_eq-Decides t.name n).0 e in
      ap (λ k. k + 1) ((numbered-whole h).1 ∙ ap (named but_last) same) ∙ sym (named-push but_last t n true e) ∙ sym (ap (λ l. named l n) with-last)

  pub last-other : (n : List ℕ) → bytes_eq t.name n ≡ false → named but_last n ≡ named ts n
  last-other n e =
      let more = named-push but_last t n false e in
      let whole : named ts n ≡ named (but_last ++ t ∷ []) n = ap (λ l. named l n) with-last in
      omega (arith, more, whole)

-- ---- the tests that lines begin
abbrev pub begun_names : List (LinePlace × ScriptLine) → List (List ℕ)
begun_names ls = filter_map (λ (l : LinePlace × ScriptLine). name_begun l.1) ls

begun-at : (ls : List (LinePlace × ScriptLine)) (i : ℕ) (l : LinePlace × ScriptLine) (o : Option (List ℕ)) → l ≡ slice_index_or ls i l → i < length ls → name_begun l.1 ≡ o
    → begun_names (drop i ls) ≡ cons_option o (begun_names (drop (i + 1) ls))
begun-at ls i l o is lt e = ap begun_names (line-at ls i l is lt) ∙ ap (λ (x : Option (List ℕ)). cons_option x (begun_names (drop (i + 1) ls))) e

-- after a line that begins no test, and after one that does
none-begun : (ts : List TestName) (ls : List (LinePlace × ScriptLine)) (i : ℕ) (l : LinePlace × ScriptLine) → l ≡ slice_index_or ls i l → i < length ls → name_begun l.1 ≡ None
    → ts ++ numbered_after (names_of ts) (begun_names (drop i ls)) ≡ test_names ls → ts ++ numbered_after (names_of ts) (begun_names (drop (i + 1) ls)) ≡ test_names ls
none-begun ts ls i l is lt e h = ap (λ ns. ts ++ numbered_after (names_of ts) ns) (sym (begun-at ls i l None is lt e)) ∙ h

one-begun : (ts : List TestName) (ls : List (LinePlace × ScriptLine)) (i : ℕ) (l : LinePlace × ScriptLine) (n : List ℕ) → l ≡ slice_index_or ls i l → i < length ls → name_begun l.1 ≡ Some n
    → ts ++ numbered_after (names_of ts) (begun_names (drop i ls)) ≡ test_names ls
    → (ts ++ test_after ts n ∷ []) ++ numbered_after (names_of (ts ++ test_after ts n ∷ [])) (begun_names (drop (i + 1) ls)) ≡ test_names ls
one-begun ts ls i l n is lt e h =
    append_assoc ts (test_after ts n ∷ []) (numbered_after (names_of (ts ++ test_after ts n ∷ [])) (begun_names (drop (i + 1) ls)))
    ∙ ap (λ ns. ts ++ ns) (sym (one-more ts n (begun_names (drop (i + 1) ls))))
    ∙ ap (λ ns. ts ++ numbered_after (names_of ts) ns) (sym (begun-at ls i l (Some n) is lt e)) ∙ h

-- the same of new tests, which are those before or one more
module _ (ts new : List TestName) (ls : List (LinePlace × ScriptLine)) (i : ℕ) (l : LinePlace × ScriptLine) (is : l ≡ slice_index_or ls i l) (lt : i < length ls)
    (h : ts ++ numbered_after (names_of ts) (begun_names (drop i ls)) ≡ test_names ls) where
  pub same-tests : name_begun l.1 ≡ None → new ≡ ts → new ++ numbered_after (names_of new) (begun_names (drop (i + 1) ls)) ≡ test_names ls
  same-tests e k =
      ap (λ (ns : List TestName). ns ++ numbered_after (names_of ns) (begun_names (drop (i + 1) ls))) k ∙ none-begun ts ls i l is lt e h

  pub test-more : (n : List ℕ) → name_begun l.1 ≡ Some n → new ≡ ts ++ test_after ts n ∷ [] → new ++ numbered_after (names_of new) (begun_names (drop (i + 1) ls)) ≡ test_names ls
  test-more n e k =
      ap (λ (ns : List TestName). ns ++ numbered_after (names_of ns) (begun_names (drop (i + 1) ls))) k ∙ one-begun ts ls i l n is lt e h

-- the test that is added
abbrev with_name : List TestName → List ℕ → ℕ → List TestName
with_name ts n k = ts ++ record { name = n; before = k } ∷ []

pub added-test : (ts new : List TestName) (n name : List ℕ) (before : ℕ) → new ≡ ts ++ record { name = name; before = before } ∷ [] → name ≡ n → before ≡ named ts n
    → new ≡ ts ++ test_after ts n ∷ []
added-test ts new n name before h e k = h ∙ ap₂ (with_name ts) e k
