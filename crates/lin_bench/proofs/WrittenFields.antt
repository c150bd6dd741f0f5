-- The fields of lines, with those of lines that follow in place of `\`, and the one line that they make.
use Rattle.std.proofs.Common.{◌≡◌, ◌∙◌, ◌-◌, ◌==◌, ◌<◌, ℕ, zero, suc, Bool, true, false, not, cond, List, [], ◌∷◌, ◌++◌, Option, Some, None, refl, sym, ap, subst, append-nil, append_assoc, arith, filter, flat_map, length, map, take}
use Rattle.std.specs.Borrow.{Bor}
use Rattle.std.specs.List.{All, onto_first, slice_split, take_while}
use Rattle.std.specs.Str.Lines.{strip_carriage_return}
use Rattle.std.proofs.lemmas.Bool.Decides.{nat_tests}
use Rattle.std.proofs.lemmas.List.Elements.{All-nil, All-cons}
use Rattle.std.proofs.lemmas.List.Sums.{take_while-cons}
use Rattle.lin_log.specs.Judged.{lines_left}
use Rattle.lin_log.specs.Said.{fields, is_comment, is_gap, is_not_empty}
use Rattle.lin_log.specs.Words.{spaced_word}
use Rattle.lin_log.proofs.Splits.{fields-front, gap-front}
use Rattle.lin_bench.specs.Fields.{line_fields}
use Rattle.lin_bench.specs.LineWords.{fields_text}
use Rattle.lin_bench.specs.Resolved.{alone_or_joined}
use Rattle.lin_bench.specs.Resolving.{alone, lines_after}
use Rattle.lin_bench.specs.Written.{goes_on, lines_of, part_fields}
use Rattle.lin_bench.proofs.JoinedFields.{more-joined}

abbrev pub IsClean : List ℕ → Type 0
IsClean f = All (λ b. is_gap true b ≡ false) f

-- a field, as a line has it
pub record IsField (f : List ℕ) : Type 0 where
  pub some : 0 < length f
  pub clean : IsClean f
  pub said : is_comment true f ≡ false

pub data AreFields : List (List ℕ) → Type 0 where
  none : AreFields []
  more : {f : List ℕ} {fs : List (List ℕ)} → IsField f → AreFields fs → AreFields (f ∷ fs)

-- ---- the fields of a line
data AreClean : List (List ℕ) → Type 0 where
  no-piece : AreClean []
  piece : {p : List ℕ} {ps : List (List ℕ)} → IsClean p → AreClean ps → AreClean (p ∷ ps)

clean-byte : (b : ℕ) (p : List ℕ) → is_gap true b ≡ false → IsClean p → IsClean (b ∷ p)
clean-byte b p h k = All-cons (λ b. is_gap true b ≡ false) b p h k

no-byte : IsClean []
no-byte = All-nil (λ b. is_gap true b ≡ false)

onto-clean : (b : ℕ) (ps : List (List ℕ)) → is_gap true b ≡ false → AreClean ps → AreClean (onto_first b ps)
onto-clean b [] h k = piece (clean-byte b [] h no-byte) no-piece
onto-clean b (p ∷ ps) h (piece k rest) = piece (clean-byte b p h k) rest

split-by : (b : ℕ) (ps : List (List ℕ)) (t : Bool) → is_gap true b ≡ t → AreClean ps → AreClean (cond t ([] ∷ ps) (onto_first b ps))
split-by b ps true h k = piece no-byte k
split-by b ps false h k = onto-clean b ps h k

split-clean : (line : List ℕ) → AreClean (slice_split (is_gap true) line)
split-clean [] = piece no-byte no-piece
split-clean (b ∷ line) = split-by b (slice_split (is_gap true) line) (is_gap true b) refl (split-clean line)

-- of the pieces those that aren't empty, and of these those before a comment
data AreFull : List (List ℕ) → Type 0 where
  no-full : AreFull []
  full : {p : List ℕ} {ps : List (List ℕ)} → 0 < length p → IsClean p → AreFull ps → AreFull (p ∷ ps)

full-by : (p : List ℕ) (ps : List (List ℕ)) (t : Bool) → is_not_empty p ≡ t → IsClean p → AreFull ps → AreFull (cond t (p ∷ ps) ps)
full-by p ps true h k rest =
    let some : 0 < length p = grind (arith, nat_tests) in
    full some k rest
full-by p ps false h k rest = rest

filter-full : (ps : List (List ℕ)) → AreClean ps → AreFull (filter is_not_empty ps)
filter-full [] h = no-full
filter-full (p ∷ ps) (piece k rest) = full-by p (filter is_not_empty ps) (is_not_empty p) refl k (filter-full ps rest)

is-said : (b : Bool) → not b ≡ true → b ≡ false
is-said true h = sym h
is-said false h = refl

said-by : (p : List ℕ) (ps : List (List ℕ)) (t : Bool) → not (is_comment true p) ≡ t → 0 < length p → IsClean p → AreFields ps → AreFields (cond t (p ∷ ps) [])
said-by p ps true h some k rest = more (record { some = some; clean = k; said = is-said (is_comment true p) h }) rest
said-by p ps false h some k rest = none

while-said : (ps : List (List ℕ)) → AreFull ps → AreFields (take_while (λ f. not (is_comment true f)) ps)
while-said [] h = none
while-said (p ∷ ps) (full some k rest) =
    subst AreFields (sym (take_while-cons (λ f. not (is_comment true f)) p ps))
    (said-by p (take_while (λ f. not (is_comment true f)) ps) (not (is_comment true p)) refl some k (while-said ps rest))

are-fields : (line : List ℕ) → AreFields (line_fields line)
are-fields line = while-said (filter is_not_empty (slice_split (is_gap true) line)) (filter-full (slice_split (is_gap true) line) (split-clean line))

-- ---- the fields of lines, each without `\` at its end
some-taken : (n : ℕ) (fs : List (List ℕ)) → AreFields fs → AreFields (take n fs)
some-taken zero fs h = none
some-taken (suc n) [] h = none
some-taken (suc n) (f ∷ fs) (more a b) = more a (some-taken n fs b)

more-fields : (fs gs : List (List ℕ)) → AreFields fs → AreFields gs → AreFields (fs ++ gs)
more-fields [] gs h k = k
more-fields (f ∷ fs) gs (more a b) k = more a (more-fields fs gs b k)

part-by : (line : List ℕ) (t : Bool) → AreFields (cond t (take (length (line_fields line) - 1) (line_fields line)) (line_fields line))
part-by line true = some-taken (length (line_fields line) - 1) (line_fields line) (are-fields line)
part-by line false = are-fields line

pub are-part-fields : (line : List ℕ) → AreFields (part_fields line)
are-part-fields line = part-by line (goes_on line)

pub are-all-fields : (ls : List (List ℕ)) → AreFields (flat_map part_fields ls)
are-all-fields [] = none
are-all-fields (l ∷ ls) = more-fields (part_fields l) (flat_map part_fields ls) (are-part-fields l) (are-all-fields ls)

-- ---- fields with one space between two are those of the line
joined-fields : (f : List ℕ) (fs : List (List ℕ)) → IsField f → AreFields fs → fields true (f ++ flat_map spaced_word fs) ≡ f ∷ fs
joined-fields f [] a b = fields-front true f [] a.some a.clean (λ h. absurd (omega arith)) a.said
joined-fields f (g ∷ gs) a (more p q) =
    fields-front true f (32 ∷ (g ++ flat_map spaced_word gs)) a.some a.clean (λ h. refl) a.said
    ∙ ap (λ l. f ∷ l) (gap-front true 32 (g ++ flat_map spaced_word gs) refl ∙ joined-fields g gs p q)

pub fields-again : (fs : List (List ℕ)) → AreFields fs → line_fields (fields_text fs) ≡ fs
fields-again [] h = refl
fields-again (f ∷ fs) (more a b) = joined-fields f fs a b

-- ---- the text to which the fields of lines are added
-- the text of the fields so far, before those that are left, of all
pub record AreJoined (text : List ℕ) (left all : List (List ℕ)) : Type 0 where
  pub before : List (List ℕ)
  pub are : AreFields before
  pub text-is : text ≡ fields_text before
  pub whole : before ++ left ≡ all

pub none-joined : (text : List ℕ) (left : List (List ℕ)) → text ≡ [] → AreJoined text left left
none-joined text left e = record { before = []; are = none; text-is = e; whole = refl }

no-text : (fs : List (List ℕ)) → AreFields fs → length (fields_text fs) ≡ 0 → fs ≡ []
no-text [] h e = refl
no-text ([] ∷ fs) (more a b) e = absurd (omega (arith, a.some))
no-text ((c ∷ cs) ∷ fs) (more a b) e = absurd (omega (arith, e))

first-joined : (text part : List ℕ) (left all now : List (List ℕ)) → AreJoined text now all → now ≡ part_fields part ++ left → length text ≡ 0 → AreJoined (fields_text (part_fields part)) left all
first-joined text part left all now h e empty =
    let start : h.before ≡ [] = no-text h.before h.are (sym (ap length h.text-is) ∙ empty) in
    record {
      before = part_fields part;
      are = are-part-fields part;
      text-is = refl;
      whole = sym e ∙ sym (ap (λ l. l ++ now) start) ∙ h.whole;
    }

text-after : (fs gs : List (List ℕ)) → 0 < length (fields_text fs) → fields_text fs ++ flat_map spaced_word gs ≡ fields_text (fs ++ gs)
text-after [] gs some = absurd (omega (arith, some))
text-after (f ∷ fs) gs some = sym (more-joined f fs gs)

next-joined : (text new part : List ℕ) (left all now : List (List ℕ)) → AreJoined text now all → now ≡ part_fields part ++ left → 0 < length text
    → new ≡ text ++ flat_map spaced_word (part_fields part) → AreJoined new left all
next-joined text new part left all now h e some adds =
    record {
      before = h.before ++ part_fields part;
      are = more-fields h.before (part_fields part) h.are (are-part-fields part);
      text-is = adds ∙ ap (λ t. t ++ flat_map spaced_word (part_fields part)) h.text-is ∙ text-after h.before (part_fields part) (omega (arith, some, ap length h.text-is));
      whole = append_assoc h.before (part_fields part) left ∙ ap (λ l. h.before ++ l) (sym e) ∙ h.whole;
    }

all-joined : (text : List ℕ) (all : List (List ℕ)) → AreJoined text [] all → text ≡ fields_text all
all-joined text all h = h.text-is ∙ ap fields_text (sym (append-nil h.before) ∙ h.whole)

-- ---- the lines of a text, one after the other
part-left : (text line : List ℕ) (rest : Option (Bor (List ℕ))) → slice_split (λ b. b == 10) text ≡ line ∷ lines_left rest
    → flat_map part_fields (lines_of text) ≡ part_fields (strip_carriage_return line) ++ flat_map part_fields (lines_after rest)
part-left text line rest e = ap (λ ls. flat_map part_fields (map strip_carriage_return ls)) e

pub first-line-joined : (all new text line part : List ℕ) (rest : Option (Bor (List ℕ))) (fs written : List (List ℕ)) → AreJoined all (flat_map part_fields (lines_of text)) written
    → slice_split (λ b. b == 10) text ≡ line ∷ lines_left rest → part ≡ strip_carriage_return line → fs ≡ part_fields part → length all ≡ 0 → new ≡ fields_text fs
    → AreJoined new (flat_map part_fields (lines_after rest)) written
first-line-joined all new text line part rest fs written h e stripped same empty is =
    let left = flat_map part_fields (lines_after rest) in
    subst (λ t. AreJoined t left written) (sym (is ∙ ap fields_text (same ∙ ap part_fields stripped)))
    (first-joined all (strip_carriage_return line) left written (flat_map part_fields (lines_of text)) h (part-left text line rest e) empty)

pub next-line-joined : (all new text line part : List ℕ) (rest : Option (Bor (List ℕ))) (fs written : List (List ℕ)) → AreJoined all (flat_map part_fields (lines_of text)) written
    → slice_split (λ b. b == 10) text ≡ line ∷ lines_left rest → part ≡ strip_carriage_return line → fs ≡ part_fields part → 0 < length all → new ≡ all ++ flat_map spaced_word fs
    → AreJoined new (flat_map part_fields (lines_after rest)) written
next-line-joined all new text line part rest fs written h e stripped same some is =
    next-joined all new (strip_carriage_return line) (flat_map part_fields (lines_after rest)) written (flat_map part_fields (lines_of text)) h (part-left text line rest e) some
    (is ∙ ap (λ l. all ++ flat_map spaced_word l) (same ∙ ap part_fields stripped))

pub all-lines-joined : (all : List ℕ) (left : Option (Bor (List ℕ))) (written : List (List ℕ)) → AreJoined all (flat_map part_fields (lines_after left)) written → left ≡ None → all ≡ fields_text written
all-lines-joined all left written h e = all-joined all written (subst (λ o. AreJoined all (flat_map part_fields (lines_after o)) written) e h)

-- ---- a line alone
pub alone-text : (ls : List (List ℕ)) (line : List ℕ) (fs : List (List ℕ)) → Some line ≡ alone ls → line ≡ alone_or_joined ls fs
alone-text [] line fs h = absurd (cc)
alone-text (l ∷ []) line fs h = cc
alone-text (l ∷ m ∷ ls) line fs h = absurd (cc)

pub alone-fields : (ls : List (List ℕ)) (line : List ℕ) → Some line ≡ alone ls → part_fields line ≡ flat_map part_fields ls
alone-fields [] line h = absurd (cc)
alone-fields (l ∷ []) line h =
    let same : line ≡ l = cc in
    ap part_fields same ∙ sym (append-nil (part_fields l))
alone-fields (l ∷ m ∷ ls) line h = absurd (cc)

pub joined-text : (ls fs : List (List ℕ)) → None ≡ alone ls → fields_text fs ≡ alone_or_joined ls fs
joined-text [] fs h = refl
joined-text (l ∷ []) fs h = absurd (cc)
joined-text (l ∷ m ∷ ls) fs h = refl
