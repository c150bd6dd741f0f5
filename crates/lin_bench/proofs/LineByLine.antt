-- Scripts whose lines resolve nothing are read line by line.
use Rattle.std.proofs.Common.{◌≡◌, ◌∙◌, ◌+◌, ◌-◌, ◌==◌, ◌||◌, ℕ, zero, suc, List, [], ◌∷◌, Bool, true, false, nat_lt, refl, sym, ap, append-nil, arith, length, map, Option, Some, None, Ok}
use Rattle.std.specs.Prelude.{codes, slice_index}
use Rattle.std.specs.Str.{bytes_eq}
use Rattle.std.proofs.lemmas.Grind.{common_steps}
use Rattle.std.specs.List.{list_any, slice_split}
use Rattle.std.specs.Str.Lines.{strip_carriage_return}
use Rattle.lin_parts.specs.declared.parts.Parts.{Parts}
use Rattle.lin_values.specs.Coded.{CodedData}
use Rattle.lin_bench.specs.Fields.{line_fields}
use Rattle.lin_bench.specs.Lines.{read_line}
use Rattle.lin_bench.specs.Plain.{LineByLine, begins_resolved, resolves}
use Rattle.lin_bench.specs.Files.{SourceData}
use Rattle.lin_bench.specs.Resolved.{Item, Reading, act_of, act_of_fields, items_from, names_parameter}
use Rattle.lin_bench.specs.Resolved.Act.{Say}
use Rattle.lin_bench.specs.Scripts.{read, read_items, read_lines, script_in_tests, with_read_line}
use Rattle.lin_bench.specs.Words.{limited_line, line_in_words, or_unmarked, read_worded_line, worded, worded_on}
use Rattle.lin_bench.specs.Written.{Written, goes_on, is_said, line_place, part_fields, without_mark, written_after, written_fields}
use Rattle.lin_bench.specs.declared.parameters.GivenParameter.{GivenParameter}
use Rattle.lin_bench.specs.declared.rules.NodeLimits.{NodeLimits}
use Rattle.lin_bench.proofs.OnWords.{nothing-worded-on}

or-false : (a b : Bool) → (a || b) ≡ false → (a ≡ false) × (b ≡ false)
or-false true b h = absurd (cc)
or-false false b h = (refl, h)

-- ---- a line that says nothing
no-fields : (fs : List (List ℕ)) → nat_lt 0 (length fs) ≡ false → fs ≡ []
no-fields [] h = refl
no-fields (f ∷ fs) h =
    let some : nat_lt 0 (length (f ∷ fs)) ≡ true = grind (arith, common_steps) in
    let no : true ≡ false = sym some ∙ h in
    absurd (cc)

empty-line : (c : Parts) (l : List ℕ) → (slice_index l 0 == 62) ≡ false → line_fields l ≡ [] → read_line c l ≡ Ok None
unfolding read_line
empty-line c l h none = rw (h, none) refl

nothing-worded : worded [] ≡ None
unfolding worded
nothing-worded = refl

empty-read : (c : Parts) (k : Option CodedData) (limits : List NodeLimits) (l : List ℕ) → (slice_index l 0 == 62) ≡ false → line_fields l ≡ [] → read_worded_line c k limits l ≡ Ok None
unfolding read_worded_line line_in_words
empty-read c None limits l h none = ap (limited_line limits) (empty-line c l h none)
empty-read c (Some k) limits l h none =
    let off : worded_on (line_fields l) ≡ None = ap worded_on none ∙ nothing-worded-on in
    let plain : worded (line_fields l) ≡ None = ap worded none ∙ nothing-worded in
    rw (h, off, plain) (ap (λ r. limited_line limits (or_unmarked c k (line_fields l) r)) (empty-line c l h none))

reply-read : (c : Parts) (k : Option CodedData) (limits : List NodeLimits) (l : List ℕ) → (slice_index l 0 == 62) ≡ true → read_worded_line c k limits l ≡ Ok None
unfolding read_worded_line line_in_words read_line
reply-read c None limits l h = rw h refl
reply-read c (Some k) limits l h = rw h refl

unsaid-by : (c : Parts) (k : Option CodedData) (limits : List NodeLimits) (l : List ℕ) (b : Bool) → (slice_index l 0 == 62) ≡ b → is_said l ≡ false → read_worded_line c k limits l ≡ Ok None
unsaid-by c k limits l true h is = reply-read c k limits l h
unsaid-by c k limits l false h is = empty-read c k limits l h (no-fields (line_fields l) (rw h at is))

unsaid : (c : Parts) (k : Option CodedData) (limits : List NodeLimits) (l : List ℕ) → is_said l ≡ false → read_worded_line c k limits l ≡ Ok None
unsaid c k limits l is = unsaid-by c k limits l (slice_index l 0 == 62) refl is

-- ---- a line that resolves nothing
abbrev alone : ℕ → List ℕ → Written
alone n l = record { number = n; parts = l ∷ [] }

fields-alone : (n : ℕ) (l : List ℕ) → goes_on l ≡ false → written_fields (alone n l) ≡ line_fields l
fields-alone n l h = append-nil (part_fields l) ∙ rw h refl

says : (text : List ℕ) (fs : List (List ℕ)) → begins_resolved fs ≡ false → act_of_fields text fs ≡ Say text
says text [] h = refl
says text (word ∷ fs) h =
    let p = or-false (bytes_eq word (codes "set")) (bytes_eq word (codes "repeat") || (bytes_eq word (codes "end") || bytes_eq word (codes "include"))) h in
    let q = or-false (bytes_eq word (codes "repeat")) (bytes_eq word (codes "end") || bytes_eq word (codes "include")) p.1 in
    let t = or-false (bytes_eq word (codes "end")) (bytes_eq word (codes "include")) q.1 in
    rw (p.0, q.0, t.0, t.1) refl

act-alone : (given : List GivenParameter) (n : ℕ) (l : List ℕ) → goes_on l ≡ false → list_any names_parameter (line_fields l) ≡ false → begins_resolved (line_fields l) ≡ false
    → act_of given [] (alone n l) ≡ Say l
act-alone given n l on names word =
    let fs = fields-alone n l on in
    let none : list_any names_parameter (written_fields (alone n l)) ≡ false = ap (list_any names_parameter) fs ∙ names in
    rw none (says l (line_fields l) word)

-- ---- all lines
module _ (c : Parts) (k : Option CodedData) (limits : List NodeLimits) (src : SourceData) (room m : ℕ) where
  abbrev reading : List Written → Reading
  reading ws = record {
    room = room;
    sets = [];
    file = record { file = 0; by = None; blocks = []; lines = ws };
    outer = [];
  }

  none-left : (n : ℕ) → items_from n src (reading []) ≡ []
  none-left zero = refl
  none-left (suc n) = refl

  abbrev written : ℕ → List (List ℕ) → List Written
  written n ls = written_after None n (map strip_carriage_return ls)

  abbrev items_of : List Written → List Item
  items_of ws = items_from (length ws + m) src (reading ws)

  counted : (w : Written) (ws : List Written) (r : Reading) → items_from (length (w ∷ ws) + m) src r ≡ items_from (suc (length ws + m)) src r
  counted w ws r =
      let e : length (w ∷ ws) + m ≡ suc (length ws + m) = omega arith in
      ap (λ j. items_from j src r) e

  say-line : (n : ℕ) (l : List ℕ) (ws : List Written) → act_of src.given [] (alone n l) ≡ Say l
      → items_of (alone n l ∷ ws) ≡ (line_place n, Ok l) ∷ items_of ws
  say-line n l ws e = counted (alone n l) ws (reading (alone n l ∷ ws)) ∙ rw e refl

  one-line : (n : ℕ) (l : List ℕ) (ls : List (List ℕ)) → resolves (strip_carriage_return l) ≡ false
      → read_items c k limits (items_of (written (n + 1) ls)) ≡ read_lines c k limits (n + 1) ls → (b : Bool) → is_said (strip_carriage_return l) ≡ b
      → read_items c k limits (items_of (written n (l ∷ ls))) ≡ read_lines c k limits n (l ∷ ls)
  one-line n l ls h more false is = rw (is, unsaid c k limits (strip_carriage_return l) is) more
  one-line n l ls h more true is =
      let s = strip_carriage_return l in
      let p = or-false (goes_on s) (list_any names_parameter (line_fields s) || begins_resolved (line_fields s)) (rw is at h) in
      let q = or-false (list_any names_parameter (line_fields s)) (begins_resolved (line_fields s)) p.1 in
      let said = say-line n s (written (n + 1) ls) (act-alone src.given n s p.0 q.0 q.1) in
      rw (is, p.0) (ap (read_items c k limits) said ∙ ap (with_read_line (line_place n) (read_worded_line c k limits s)) more)

  all-lines : (n : ℕ) (ls : List (List ℕ)) → list_any resolves (map strip_carriage_return ls) ≡ false
      → read_items c k limits (items_of (written n ls)) ≡ read_lines c k limits n ls
  all-lines n [] h =
      let e : length {A = Written} [] + m ≡ m = omega arith in
      ap (λ j. read_items c k limits (items_from j src (reading []))) e ∙ ap (read_items c k limits) (none-left m)
  all-lines n (l ∷ ls) h =
      let p = or-false (resolves (strip_carriage_return l)) (list_any resolves (map strip_carriage_return ls)) h in
      one-line n l ls p.0 (all-lines (n + 1) ls p.1) (is_said (strip_carriage_return l)) refl

pub line-by-line : LineByLine
unfolding read
line-by-line c k limits src h =
    ap (script_in_tests 0)
    (all-lines c k limits src (16777216 - length src.text) 1000000 1 (slice_split (λ b. b == 10) (without_mark src.text)) h)
