-- The lines that a bench script says, each in its test: at most as many as are for the play.
use Rattle.std.proofs.Common.{◌≡◌, ◌∙◌, ◌≤◌, ◌+◌, ℕ, List, [], ◌∷◌, ◌++◌, ap, ap₂, arith, length, false, refl, subst, sym, Option, Some, None, Result, Ok, Err}
use Rattle.std.specs.Prelude.{if◌then◌else◌}
use Rattle.std.specs.Result.{is_err, is_ok}
use Rattle.lin_parts.specs.declared.parts.Parts.{Parts}
use Rattle.lin_values.specs.Coded.{CodedData}
use Rattle.lin_bench.specs.Files.{SourceData}
use Rattle.lin_bench.specs.Read.{NextLine}
use Rattle.lin_bench.specs.Resolved.{Item, items}
use Rattle.lin_bench.specs.Scripts.{Script, in_tests, item_read, read, read_items, script_in_tests, tests_after, with_line, with_read_line}
use Rattle.lin_bench.specs.declared.line.ScriptLine.{ScriptLine}
use Rattle.lin_bench.specs.declared.place.LinePlace.{LinePlace}
use Rattle.lin_bench.specs.declared.reason.Reason.{Reason}
use Rattle.lin_bench.specs.declared.rules.NodeLimits.{NodeLimits}
use Rattle.lin_bench.specs.Written.{written_lines}
use Rattle.lin_bench.proofs.Appending.{appended, appended-more, appended-nothing}
use Rattle.lin_bench.proofs.SaidItems.{items-few as said-items, one_if_said, said_count}
use Rattle.lin_bench.proofs.WrittenFew.{written-few}

abbrev pub line_count : Script → ℕ
line_count (Ok ls) = length ls
line_count (Err bad) = 0

with-few : (l : LinePlace × ScriptLine) (r : Script) (n : ℕ) → line_count r ≤ n → line_count (with_line l r) ≤ n + 1
with-few l (Ok ls) n h = omega (arith, h)
with-few l (Err bad) n h = omega arith

said-few : (p : LinePlace) (r : Result (Option ScriptLine) Reason) (more : Script) (n : ℕ) → line_count more ≤ n → line_count (with_read_line p r more) ≤ n + 1
said-few p (Err why) more n h = omega arith
said-few p (Ok None) more n h = omega (arith, h)
said-few p (Ok (Some l)) more n h = with-few (p, l) more n h

module _ (c : Parts) (k : Option CodedData) (limits : List NodeLimits) where
  item-few : (p : LinePlace) (text : Result (List ℕ) Reason) (is : List Item) → line_count (read_items c k limits is) ≤ said_count is
      → line_count (with_read_line p (item_read c k limits text) (read_items c k limits is)) ≤ one_if_said text + said_count is
  item-few p (Err why) is h = omega arith
  item-few p (Ok text) is h =
      let few = said-few p (item_read c k limits (Ok text)) (read_items c k limits is) (said_count is) h in omega (arith, few)

  items-few : (is : List Item) → line_count (read_items c k limits is) ≤ said_count is
  items-few [] = omega arith
  items-few (i ∷ is) = item-few i.0 i.1 is (items-few is)

length-in_tests : (t : ℕ) (ls : List (LinePlace × ScriptLine)) → length (in_tests t ls) ≡ length ls
length-in_tests t [] = refl
length-in_tests t (l ∷ ls) = let more = length-in_tests (tests_after t l.1) ls in omega (arith, more)

count-in_tests : (t : ℕ) (r : Script) → line_count (script_in_tests t r) ≡ line_count r
count-in_tests t (Ok ls) = length-in_tests t ls
count-in_tests t (Err bad) = refl

read-few : (c : Parts) (k : Option CodedData) (limits : List NodeLimits) (s : SourceData) → line_count (read c k limits s) ≤ said_count (items s)
unfolding read
read-few c k limits s =
    let few = items-few c k limits (items s) in
    let same = count-in_tests 0 (read_items c k limits (items s)) in
    omega (arith, few, same)

pub lines-few : (c : Parts) (k : Option CodedData) (limits : List NodeLimits) (s : SourceData) (ls : List (LinePlace × ScriptLine)) → read c k limits s ≡ Ok ls
    → length ls ≤ length s.text + 1000001
lines-few c k limits s ls e =
    let same : line_count (read c k limits s) ≡ length ls = ap line_count e in
    let few = read-few c k limits s in
    let said = said-items s in
    let written = written-few s.text in
    omega (arith, same, few, said, written)

-- a line, in the test that it begins or is in, and those after it
in-tests : (t : ℕ) (l : LinePlace × ScriptLine) (r : Script) → script_in_tests t (with_line l r) ≡ with_line (record l.0 { test = tests_after t l.1 }, l.1) (script_in_tests (tests_after t l.1) r)
in-tests t l (Ok ls) = refl
in-tests t l (Err bad) = refl

-- ---- line by line: what was read, and what the lines that are left say
pub read-begun : (c : Parts) (k : Option CodedData) (limits : List NodeLimits) (s : SourceData) (xs : List (LinePlace × ScriptLine)) (is : List Item) → xs ≡ [] → is ≡ items s
    → appended xs (script_in_tests 0 (read_items c k limits is)) ≡ read c k limits s
unfolding read
read-begun c k limits s xs is none all =
    ap₂ (λ (ys : List (LinePlace × ScriptLine)) (js : List Item). appended ys (script_in_tests 0 (read_items c k limits js))) none all
    ∙ appended-nothing (script_in_tests 0 (read_items c k limits (items s)))

pub line-given : (o : Option (LinePlace × ScriptLine)) (l : LinePlace × ScriptLine) (old new : Script) → NextLine (Ok o) old new → o ≡ Some l → old ≡ with_line l new
line-given o l old new h e = subst (λ (x : Option (LinePlace × ScriptLine)). NextLine (Ok x) old new) e h

module _ (xs : List (LinePlace × ScriptLine)) (t : ℕ) (old all : Script) (h : appended xs (script_in_tests t old) ≡ all) where
  so-far : (r : Script) → old ≡ r → appended xs (script_in_tests t r) ≡ all
  so-far r e = sym (ap (λ (o : Script). appended xs (script_in_tests t o)) e) ∙ h

  read-next : (l : LinePlace × ScriptLine) (new : Script) → old ≡ with_line l new
      → appended (xs ++ (record l.0 { test = tests_after t l.1 }, l.1) ∷ []) (script_in_tests (tests_after t l.1) new) ≡ all
  read-next l new e =
      appended-more xs (record l.0 { test = tests_after t l.1 }, l.1) (script_in_tests (tests_after t l.1) new)
      ∙ sym (ap (appended xs) (in-tests t l new)) ∙ so-far (with_line l new) e

  abbrev with_next : LinePlace × ScriptLine → Script → ℕ → Script
  with_next l new n = appended (xs ++ (record l.0 { test = n }, l.1) ∷ []) (script_in_tests n new)

  pub read-more : (l : LinePlace × ScriptLine) (new : Script) (ys : List (LinePlace × ScriptLine)) (n : ℕ) → old ≡ with_line l new
      → n ≡ tests_after t l.1 → ys ≡ xs ++ (record l.0 { test = n }, l.1) ∷ [] → appended ys (script_in_tests n new) ≡ all
  read-more l new ys n e k more =
      ap (λ zs. appended zs (script_in_tests n new)) more ∙ ap (with_next l new) k ∙ read-next l new e

-- a line that was added
pub added : {A E : Type 0} (r : Result Unit E) (xs ys zs : List A) → is_err r ≡ false → zs ≡ (if is_ok r then xs else ys) → zs ≡ xs
added (Ok done) xs ys zs ok is = is
added (Err e) xs ys zs ok is = absurd (cc)
