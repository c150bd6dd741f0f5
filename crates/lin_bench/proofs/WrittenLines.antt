-- Lines of a text with those that follow in place of `\`.
use Rattle.std.proofs.Common.{◌≡◌, ◌∙◌, ◌+◌, ◌-◌, ◌≤◌, ◌==◌, ℕ, suc, List, [], ◌∷◌, ◌++◌, Bool, true, false, cond, refl, sym, ap, append-nil, append_assoc, arith, length, map, take, Option, Some, None, if◌then◌else◌}
use Rattle.std.specs.Borrow.{Bor}
use Rattle.std.specs.List.{join_with_byte, onto_first, slice_split}
use Rattle.std.specs.Str.Lines.{strip_carriage_return}
use Rattle.std.proofs.lemmas.List.{length-append, map-append, take_all}
use Rattle.std.proofs.lemmas.List.Splits.{join_with_byte-slice_split, length-slice_split}
use Rattle.lin_log.specs.Judged.{left_length, lines_left}
use Rattle.lin_bench.specs.Fields.{maybe_text}
use Rattle.lin_bench.specs.Resolving.{IsWhole, alone, following, lines_after}
use Rattle.lin_bench.specs.Written.{Written, goes_on, lines_of, written_after}

abbrev is_end : ℕ → Bool
is_end b = b == 10

abbrev lines : List ℕ → List (List ℕ)
lines text = slice_split is_end text

-- ---- a text is its first lines, an LF and the text of the others
abbrev Cut : List ℕ → List ℕ → List (List ℕ) → Type 0
Cut t r xs = (length r + 1 ≤ length t) × (lines (take (length t - (length r + 1)) t) ≡ xs)

some-lines : (r : List ℕ) (xs : List (List ℕ)) → xs ++ lines r ≡ [] → ⊥
some-lines r xs e =
    let none = ap length e in
    let both = length-append xs (lines r) in
    let some = length-slice_split is_end r in
    omega (arith, none, both, some)

same-text : (s t : List ℕ) → lines s ≡ lines t → s ≡ t
same-text s t e = sym (join_with_byte-slice_split 10 s) ∙ ap (join_with_byte 10) e ∙ join_with_byte-slice_split 10 t

tail-is : {A : Type 0} (x y : A) (xs ys : List A) → x ∷ xs ≡ y ∷ ys → xs ≡ ys
tail-is x y xs ys e = cc

head-is : {A : Type 0} (x y : A) (xs ys : List A) → x ∷ xs ≡ y ∷ ys → x ≡ y
head-is x y xs ys e = cc

cut-here : (b : ℕ) (bs r x : List ℕ) → [] ∷ lines bs ≡ x ∷ lines r → Cut (b ∷ bs) r (x ∷ [])
cut-here b bs r x e =
    let same : length bs ≡ length r = ap length (same-text bs r (tail-is [] x (lines bs) (lines r) e)) in
    let none : length (b ∷ bs) - (length r + 1) ≡ 0 = omega (arith, same) in
    (omega (arith, same), ap (λ n. lines (take n (b ∷ bs))) none ∙ ap (λ y. y ∷ []) (head-is [] x (lines bs) (lines r) e))

-- one byte more before the first lines
one-more : (b : ℕ) (bs r : List ℕ) (xs : List (List ℕ)) → Cut bs r xs → Cut (b ∷ bs) r (cond (is_end b) ([] ∷ xs) (onto_first b xs))
one-more b bs r xs h =
    let le = h.0 in
    let next : length (b ∷ bs) - (length r + 1) ≡ suc (length bs - (length r + 1)) = omega (arith, le) in
    (omega (arith, le), ap (λ n. lines (take n (b ∷ bs))) next ∙ ap (λ ys. cond (is_end b) ([] ∷ ys) (onto_first b ys)) h.1)

cut-after : (b : ℕ) (bs r x : List ℕ) (xs : List (List ℕ)) → ((ys : List (List ℕ)) → lines bs ≡ ys ++ lines r → 1 ≤ length ys → Cut bs r ys)
    → is_end b ≡ true → [] ∷ lines bs ≡ x ∷ (xs ++ lines r) → Cut (b ∷ bs) r (x ∷ xs)
cut-after b bs r x [] ih here e = cut-here b bs r x e
cut-after b bs r x (y ∷ ys) ih here e =
    let rest = tail-is [] x (lines bs) ((y ∷ ys) ++ lines r) e in
    let first : [] ≡ x = head-is [] x (lines bs) ((y ∷ ys) ++ lines r) e in
    let more : Cut (b ∷ bs) r ([] ∷ (y ∷ ys)) = rw here at (one-more b bs r (y ∷ ys) (ih (y ∷ ys) rest (omega arith))) in
    rw (← first) more

cut-onto : (b : ℕ) (bs r x : List ℕ) (xs ls : List (List ℕ)) → ((ys : List (List ℕ)) → lines bs ≡ ys ++ lines r → 1 ≤ length ys → Cut bs r ys)
    → is_end b ≡ false → lines bs ≡ ls → onto_first b ls ≡ x ∷ (xs ++ lines r) → Cut (b ∷ bs) r (x ∷ xs)
cut-onto b bs r x xs [] ih other is e = absurd (some-lines bs [] is)
cut-onto b bs r x xs (p ∷ ps) ih other is e =
    let rest : ps ≡ xs ++ lines r = tail-is (b ∷ p) x ps (xs ++ lines r) e in
    let first : b ∷ p ≡ x = head-is (b ∷ p) x ps (xs ++ lines r) e in
    let inner : Cut bs r (p ∷ xs) = ih (p ∷ xs) (is ∙ ap (λ l. p ∷ l) rest) (omega arith) in
    let more : Cut (b ∷ bs) r ((b ∷ p) ∷ xs) = rw other at (one-more b bs r (p ∷ xs) inner) in
    rw (← first) more

cut-by : (b : ℕ) (bs r x : List ℕ) (xs : List (List ℕ)) (t : Bool) → ((ys : List (List ℕ)) → lines bs ≡ ys ++ lines r → 1 ≤ length ys → Cut bs r ys)
    → is_end b ≡ t → cond t ([] ∷ lines bs) (onto_first b (lines bs)) ≡ x ∷ (xs ++ lines r) → Cut (b ∷ bs) r (x ∷ xs)
cut-by b bs r x xs true ih is e = cut-after b bs r x xs ih is e
cut-by b bs r x xs false ih is e = cut-onto b bs r x xs (lines bs) ih is refl e

cut : (t r : List ℕ) (xs : List (List ℕ)) → lines t ≡ xs ++ lines r → 1 ≤ length xs → Cut t r xs
cut t r [] e h = absurd (omega (arith, h))
cut [] r (x ∷ xs) e h = absurd (some-lines r xs (sym (tail-is [] x [] (xs ++ lines r) e)))
cut (b ∷ bs) r (x ∷ xs) e h = cut-by b bs r x xs (is_end b) (λ ys q k. cut bs r ys q k) refl e

-- the text before what is left
pub cut-left : (t : List ℕ) (o : Option (Bor (List ℕ))) (xs : List (List ℕ)) → lines t ≡ xs ++ lines_left o → 1 ≤ length xs
    → (left_length o ≤ length t) × (lines (take (length t - left_length o) t) ≡ xs)
cut-left t None xs e h = (omega arith, ap lines (take_all (length t - 0) t (omega arith)) ∙ e ∙ append-nil xs)
cut-left t (Some r) xs e h = cut t r.now xs e h

-- ---- a line with those that follow
abbrev stripped : List (List ℕ) → List (List ℕ)
stripped ls = map strip_carriage_return ls

-- the lines from number n on, after a last one of some
abbrev written_by : List ℕ → Written → ℕ → List (List ℕ) → List Written
written_by l w n ls = if goes_on l then written_after (Some w) n ls else w ∷ written_after None n ls

-- so many lines of a text, of which this is the last one
pub record AreTaken (text line : List ℕ) (rest : Option (Bor (List ℕ))) (count : ℕ) : Type 0 where
  pub parts : List (List ℕ)
  pub all : lines text ≡ parts ++ lines_left rest
  pub counted : length parts ≡ count
  pub some : 1 ≤ count
  pub few : count + left_length rest ≤ length text + 1
  pub same : (n : ℕ) → written_after (Some (record { number = n; parts = [] })) n (lines_of text)
      ≡ written_by (strip_carriage_return line) (record { number = n; parts = stripped parts }) (n + count) (lines_after rest)

pub taken-first : (text line : List ℕ) (rest : Option (Bor (List ℕ))) → lines text ≡ line ∷ lines_left rest → left_length rest ≤ length text
    → AreTaken text line rest 1
taken-first text line rest e short = record {
  parts = line ∷ [];
  all = e;
  counted = refl;
  some = omega arith;
  few = omega (arith, short);
  same = λ n. ap (λ ls. written_after (Some (record { number = n; parts = [] })) n (stripped ls)) e;
}

pub taken-more : (text line next : List ℕ) (more : Bor (List ℕ)) (rest : Option (Bor (List ℕ))) (count : ℕ) → AreTaken text line (Some more) count
    → goes_on (strip_carriage_return line) ≡ true → lines more.now ≡ next ∷ lines_left rest → left_length rest ≤ length more.now
    → AreTaken text next rest (count + 1)
taken-more text line next more rest count h on e short =
    let few = h.few in
    let counted = h.counted in
    let both = length-append h.parts (next ∷ []) in
    record {
      parts = h.parts ++ next ∷ [];
      all = h.all ∙ ap (λ l. h.parts ++ l) e ∙ sym (append_assoc h.parts (next ∷ []) (lines_left rest));
      counted = omega (arith, counted, both);
      some = omega arith;
      few = omega (arith, few, short);
      same = λ n.
          let w : Written = record { number = n; parts = stripped h.parts } in
          let numbers : (n + count) + 1 ≡ n + (count + 1) = omega arith in
          let on-line : written_by (strip_carriage_return line) w (n + count) (stripped (lines more.now)) ≡ written_after (Some w) (n + count) (stripped (lines more.now)) =
          ap (λ (b : Bool). if b then written_after (Some w) (n + count) (stripped (lines more.now)) else w ∷ written_after None (n + count) (stripped (lines more.now))) on in
          let on-next : written_after (Some w) (n + count) (stripped (lines more.now)) ≡ written_after (Some w) (n + count) (strip_carriage_return next ∷ lines_after rest) =
          ap (λ ls. written_after (Some w) (n + count) (stripped ls)) e in
          let longer : stripped h.parts ++ strip_carriage_return next ∷ [] ≡ stripped (h.parts ++ next ∷ []) = sym (map-append strip_carriage_return h.parts (next ∷ [])) in
          h.same n ∙ on-line ∙ on-next
          ∙ ap (λ m. written_by (strip_carriage_return next) (record { number = n; parts = stripped h.parts ++ strip_carriage_return next ∷ [] }) m (lines_after rest)) numbers
          ∙ ap (λ ps. written_by (strip_carriage_return next) (record { number = n; parts = ps }) (n + (count + 1)) (lines_after rest)) longer;
    }

-- they are whole if the last one doesn't go on, or none is left
ended-by : (l : List ℕ) (w : Written) (n : ℕ) (rest : Option (Bor (List ℕ))) (on : Bool) → goes_on l ≡ on
    → (if on then maybe_text rest else None) ≡ None
    → written_by l w n (lines_after rest) ≡ w ∷ written_after None n (lines_after rest)
ended-by l w n rest false is e = ap (λ (b : Bool). if b then written_after (Some w) n (lines_after rest) else w ∷ written_after None n (lines_after rest)) is
ended-by l w n None true is e = ap (λ (b : Bool). if b then w ∷ [] else w ∷ []) is
ended-by l w n (Some t) true is e = absurd (cc)

pub taken-whole : (text line : List ℕ) (rest : Option (Bor (List ℕ))) (count : ℕ) → AreTaken text line rest count
    → following line (maybe_text rest) ≡ None
    → IsWhole text (take (length text - left_length rest) text) count rest
taken-whole text line rest count h e n =
    let counted = h.counted in
    let some = h.some in
    let parts = cut-left text rest h.parts h.all (omega (arith, counted, some)) in
    h.same n ∙ ended-by (strip_carriage_return line) (record { number = n; parts = stripped h.parts }) (n + count) rest (goes_on (strip_carriage_return line)) refl e
    ∙ ap (λ ps. record { number = n; parts = stripped ps } ∷ written_after None (n + count) (lines_after rest)) (sym parts.1)

-- one more of them
next-by : (text line next more : List ℕ) (rest after : Option (Bor (List ℕ))) (count : ℕ) (on : Bool) → goes_on (strip_carriage_return line) ≡ on → AreTaken text line rest count
    → Some more ≡ (if on then maybe_text rest else None) → lines more ≡ next ∷ lines_left after → left_length after ≤ length more
    → AreTaken text next after (count + 1)
next-by text line next more rest after count false is h e cut short = absurd (cc)
next-by text line next more None after count true is h e cut short = absurd (cc)
next-by text line next more (Some t) after count true is h e cut short =
    let same : more ≡ t.now = cc in
    let sizes = ap length same in
    taken-more text line next t after count h is (ap lines (sym same) ∙ cut) (omega (arith, short, sizes))

pub taken-next : (text line next more : List ℕ) (rest after : Option (Bor (List ℕ))) (count : ℕ) → AreTaken text line rest count
    → Some more ≡ following line (maybe_text rest) → lines more ≡ next ∷ lines_left after
    → left_length after ≤ length more → AreTaken text next after (count + 1)
taken-next text line next more rest after count h e cut short = next-by text line next more rest after count (goes_on (strip_carriage_return line)) refl h e cut short

-- a line that another one follows
followed-by : (line : List ℕ) (ls : List (List ℕ)) → 1 ≤ length ls → None ≡ alone (stripped (line ∷ ls))
followed-by line [] h = absurd (omega (arith, h))
followed-by line (m ∷ ms) h = refl

pub not-alone : (text line : List ℕ) (rest : Option (Bor (List ℕ))) (more : Bor (List ℕ)) → lines text ≡ line ∷ lines_left rest → rest ≡ Some more → None ≡ alone (lines_of text)
not-alone text line rest more e is =
    let some = length-slice_split is_end more.now in
    followed-by line (lines more.now) (omega (arith, some)) ∙ sym (ap (λ ls. alone (stripped ls)) (e ∙ ap (λ o. line ∷ lines_left o) is))
