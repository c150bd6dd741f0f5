-- The bad lines of a script, line by line.
use Rattle.std.proofs.Common.{◌≡◌, ◌∙◌, ℕ, Bool, false, List, [], ◌∷◌, ◌++◌, refl, ap, append_assoc, if◌then◌else◌, map, reverse, subst, sym, Option, Some, None, Result, Ok, Err}
use Rattle.std.specs.Prelude.{◌||◌}
use Rattle.lin_parts.specs.declared.parts.Parts.{Parts}
use Rattle.lin_values.specs.Coded.{CodedData}
use Rattle.lin_bench.specs.Files.{SourceData}
use Rattle.lin_bench.specs.Resolved.{Item, items}
use Rattle.lin_bench.specs.Scripts.{Script, bad_items, bad_lines, is_listed, is_same_line, item_read, once_after, read, read_items, script_in_tests, with_bad_line, with_line, with_read_line}
use Rattle.lin_bench.specs.Read.{AreBadOf, IsWhy}
use Rattle.lin_bench.specs.Resolving.{GivesItem, item_of}
use Rattle.lin_bench.specs.declared.line.ScriptLine.{ScriptLine}
use Rattle.lin_bench.specs.declared.place.LinePlace.{LinePlace}
use Rattle.lin_bench.specs.declared.reason.Reason.{Reason}
use Rattle.lin_bench.specs.declared.resolving.Item.{Item as LineItem}
use Rattle.lin_bench.specs.declared.rules.NodeLimits.{NodeLimits}
use Rattle.lin_bench.proofs.LastItems.{last-first}

-- one line more
with-line : (l : LinePlace × ScriptLine) (r : Script) (bad : List (LinePlace × Reason)) → AreBadOf r bad → AreBadOf (with_line l r) bad
with-line l (Ok ls) bad h = h
with-line l (Err first) bad h = h

first-with : (p : LinePlace) (line : Result (Option ScriptLine) Reason) (r : Script) (bad : List (LinePlace × Reason)) → AreBadOf r bad → AreBadOf (with_read_line p line r) (with_bad_line p line bad)
first-with p (Err why) r bad h = (bad, refl)
first-with p (Ok None) r bad h = h
first-with p (Ok (Some l)) r bad h = with-line (p, l) r bad h

first-items : (c : Parts) (k : Option CodedData) (limits : List NodeLimits) (is : List Item) → AreBadOf (read_items c k limits is) (bad_items c k limits is)
first-items c k limits [] = refl
first-items c k limits (i ∷ is) = first-with i.0 (item_read c k limits i.1) (read_items c k limits is) (bad_items c k limits is) (first-items c k limits is)

-- each of them once
first-once : (r : Script) (bad : List (LinePlace × Reason)) → AreBadOf r bad → AreBadOf r (once_after [] bad)
first-once (Ok ls) bad h = ap (once_after []) h
first-once (Err first) bad h = (once_after (first.0 ∷ []) h.0, ap (once_after []) h.1)

-- whatever tests the lines are in
in-tests : (r : Script) (bad : List (LinePlace × Reason)) → AreBadOf r bad → AreBadOf (script_in_tests 0 r) bad
in-tests (Ok ls) bad h = h
in-tests (Err first) bad h = h

-- the first bad line is why a script isn't read
pub first-bad : (c : Parts) (k : Option CodedData) (limits : List NodeLimits) (s : SourceData) → AreBadOf (read c k limits s) (bad_lines c k limits s)
unfolding read bad_lines
first-bad c k limits s =
    let is = items s in
    in-tests (read_items c k limits is) (once_after [] (bad_items c k limits is)) (first-once (read_items c k limits is) (bad_items c k limits is) (first-items c k limits is))

-- a line that wasn't listed before is listed next
abbrev pub listed_places : List (LinePlace × Reason) → List LinePlace
listed_places bad = reverse (map (λ (b : LinePlace × Reason). b.0) bad)

abbrev if_listed : List (LinePlace × Reason) → List (LinePlace × Reason) → LinePlace → Reason → Bool → List (LinePlace × Reason)
if_listed bad more p why seen =
    bad ++ (if seen then once_after (listed_places bad) more else (p, why) ∷ once_after (p ∷ listed_places bad) more)

listed-next : (bad more : List (LinePlace × Reason)) (p : LinePlace) (why : Reason) → is_listed (listed_places bad) p ≡ false
    → bad ++ once_after (listed_places bad) ((p, why) ∷ more) ≡ (bad ++ (p, why) ∷ []) ++ once_after (listed_places (bad ++ (p, why) ∷ [])) more
listed-next bad more p why other =
    ap (if_listed bad more p why) other
    ∙ sym (append_assoc bad ((p, why) ∷ []) (once_after (p ∷ listed_places bad) more))
    ∙ sym (ap (λ ps. (bad ++ (p, why) ∷ []) ++ once_after ps more) (last-first (λ (b : LinePlace × Reason). b.0) bad (p, why)))

-- ---- one item after another
module _ (c : Parts) (k : Option CodedData) (limits : List NodeLimits) where
  -- what was listed, and what the items that are left list
  abbrev pub listed_with : List (LinePlace × Reason) → List Item → List (LinePlace × Reason)
  listed_with bad is = bad ++ once_after (listed_places bad) (bad_items c k limits is)

  with-item : (bad : List (LinePlace × Reason)) (p : LinePlace) (text : Result (List ℕ) Reason) (r : Result (Option ScriptLine) Reason) (more : List Item)
      → item_read c k limits text ≡ r
      → listed_with bad ((p, text) ∷ more) ≡ bad ++ once_after (listed_places bad) (with_bad_line p r (bad_items c k limits more))
  with-item bad p text r more e =
      ap (λ (a : Result (Option ScriptLine) Reason). bad ++ once_after (listed_places bad) (with_bad_line p a (bad_items c k limits more))) e

  bad-next : (bad : List (LinePlace × Reason)) (p : LinePlace) (text : Result (List ℕ) Reason) (why : Reason) (more : List Item)
      → item_read c k limits text ≡ Err why → is_listed (listed_places bad) p ≡ false
      → listed_with bad ((p, text) ∷ more) ≡ listed_with (bad ++ (p, why) ∷ []) more
  bad-next bad p text why more e other = with-item bad p text (Err why) more e ∙ listed-next bad (bad_items c k limits more) p why other

  pub bad-more : (bad new : List (LinePlace × Reason)) (is more : List Item) (p : LinePlace) (text : Result (List ℕ) Reason) (why : Reason) (all : List (LinePlace × Reason))
      → is ≡ (p, text) ∷ more → item_read c k limits text ≡ Err why → is_listed (listed_places bad) p ≡ false → new ≡ bad ++ (p, why) ∷ []
      → listed_with bad is ≡ all → listed_with new more ≡ all
  bad-more bad new is more p text why all given e other longer h =
      ap (λ (b : List (LinePlace × Reason)). listed_with b more) longer ∙ sym (bad-next bad p text why more e other) ∙ sym (ap (listed_with bad) given) ∙ h

-- whether a line is listed after one more is
pub flag-more : (bad new : List (LinePlace × Reason)) (p : LinePlace) (why : Reason) (q : LinePlace) (was is : Bool) → new ≡ bad ++ (p, why) ∷ []
    → is ≡ (is_same_line q p || was) → was ≡ is_listed (listed_places bad) q → is ≡ is_listed (listed_places new) q
flag-more bad new p why q was is longer e h =
    e ∙ ap (λ b. is_same_line q p || b) h
    ∙ sym (ap (λ ps. is_listed ps q) (last-first (λ (b : LinePlace × Reason). b.0) bad (p, why)))
    ∙ sym (ap (λ (l : List (LinePlace × Reason)). is_listed (listed_places l) q) longer)

-- the item that is next, and why its line is bad
pub item-given : (o : Option (LinePlace × LineItem)) (i : LinePlace × LineItem) (old new : List Item) → GivesItem {E = ℕ} (Ok o) old new → o ≡ Some i → old ≡ (i.0, item_of i.1) ∷ new
item-given o i old new h e = subst (λ (x : Option (LinePlace × LineItem)). GivesItem {E = ℕ} (Ok x) old new) e h

pub why-given : (r : Result (Option ScriptLine) Reason) (o : Option Reason) (why : Reason) → IsWhy r o → o ≡ Some why → r ≡ Err why
why-given r o why h e = subst (λ (x : Option Reason). IsWhy r x) e h
