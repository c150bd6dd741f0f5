-- The fields of a line with words, as code cuts them.
use Rattle.std.proofs.Common.{◌≡◌, ◌≢◌, ◌∙◌, ◌+◌, ◌-◌, ◌<◌, ◌≤◌, ℕ, zero, suc, Bool, true, false, not, cond, List, [], ◌∷◌, ◌++◌, refl, sym, ap, arith, drop, get_or, length, nat_lt, take}
use Rattle.std.specs.Prelude.{Option, Some, None, codes, option_and_then, option_map, position, slice_index_or}
use Rattle.std.specs.Str.{bytes_eq}
use Rattle.std.proofs.lemmas.Bool.Decides.{nat_tests}
use Rattle.lin_bench.specs.Fields.{Cuts}
use Rattle.lin_bench.specs.OnLines.{off_at}
use Rattle.lin_bench.specs.Words.{equals_place, form_end, from_end, is_on_signal, mark_at, marked_form, on_line_at, or_off, wish_of, worded, worded_at, worded_on, OnLine, WordedLine}
use Rattle.lin_bench.specs.declared.words.Wish.{Wish}
use Rattle.lin_bench.proofs.FieldParts.{at-end, front-parts, longer, some-after}

-- ---- a field counted from the end

pub field-from-end : (fs : List (List ℕ)) (n at : ℕ) (before : List (List ℕ)) (x : List ℕ) (after : List (List ℕ)) → n < length fs → at ≡ length fs - 1 - n → Cuts fs at before x after
    → from_end fs n ≡ x
field-from-end fs n at before x after lt e cut =
    let some : nat_lt n (length fs) ≡ true = grind (arith, nat_tests) in
    ap (λ b. cond b (slice_index_or fs (length fs - 1 - n) []) []) some ∙ ap (λ i. slice_index_or fs i []) (sym e) ∙ cut.field

pub none-from-end : (fs : List (List ℕ)) (n : ℕ) → length fs ≤ n → from_end fs n ≡ []
none-from-end fs n le =
    let none : nat_lt n (length fs) ≡ false = grind (arith, nat_tests) in
    ap (λ b. cond b (slice_index_or fs (length fs - 1 - n) []) []) none

pub last-from-end : (fs before : List (List ℕ)) (x : List ℕ) → fs ≡ before ++ x ∷ [] → from_end fs 0 ≡ x
last-from-end fs before x e =
    let long : length fs ≡ suc (length before) = longer fs before x e in
    let some : nat_lt 0 (length fs) ≡ true = grind (arith, nat_tests) in
    let at : length fs - 1 - 0 ≡ length before = omega (arith, long) in
    ap (λ b. cond b (slice_index_or fs (length fs - 1 - 0) []) []) some ∙ ap (λ i. slice_index_or fs i []) at ∙ ap (λ l. slice_index_or l (length before) []) e ∙ at-end before x

pub no-word : (word : List ℕ) → 0 < length word → bytes_eq [] word ≡ false
no-word [] some = absurd (omega arith)
no-word (c ∷ cs) some = refl

-- ---- the parts of a line

by-mark : (fs : List (List ℕ)) (o : Option ℕ) → mark_at fs ≡ o → worded fs ≡ option_and_then (worded_at fs) o
unfolding worded
by-mark fs o e = ap (option_and_then (worded_at fs)) e

pub none-marked : (fs : List (List ℕ)) → mark_at fs ≡ None → worded fs ≡ None
none-marked fs e = by-mark fs None e

-- no field is before the mark
pub first-marked : (fs : List (List ℕ)) (at : ℕ) → mark_at fs ≡ Some at → at ≡ 0 → worded fs ≡ None
first-marked fs at e z = by-mark fs (Some at) e ∙ ap (worded_at fs) z

abbrev with-wish : List (List ℕ) → List ℕ → List (List ℕ) → Wish → WordedLine
with-wish before signal words wish = record { wish = wish; before = before; signal = signal; words = words }

all-three : {a b : List (List ℕ)} {c d : List ℕ} {e f : List (List ℕ)} → a ≡ b → c ≡ d → e ≡ f → ◌≡◌ {A = List (List ℕ) × List ℕ × List (List ℕ)} (a, c, e) (b, d, f)
all-three p q r = cc

pub marked-parts : (fs : List (List ℕ)) (at : ℕ) (front before : List (List ℕ)) (signal mark : List ℕ) (words : List (List ℕ)) (wish : Option Wish)
    → mark_at fs ≡ Some at → Cuts fs at front mark words → front ≡ before ++ signal ∷ [] → wish ≡ wish_of before mark
    → option_map (with-wish before signal words) wish ≡ worded fs
marked-parts fs at front before signal mark words wish e cut last w =
    let p = front-parts fs at front before signal mark words cut last in
    let n = length before in
    let less : at - 1 ≡ n = omega (arith, p.0) in
    let start : take (at - 1) fs ≡ before = ap (λ i. take i fs) less ∙ p.1 in
    let name : slice_index_or fs (at - 1) [] ≡ signal = ap (λ i. slice_index_or fs i []) less ∙ p.2 in
    let same : wish ≡ wish_of (take (at - 1) fs) (slice_index_or fs at []) = w ∙ ap (λ b. wish_of b mark) (sym start) ∙ ap (wish_of (take (at - 1) fs)) (sym cut.field) in
    ap (option_map (with-wish before signal words)) same
    ∙ ap (λ (q : List (List ℕ) × List ℕ × List (List ℕ)). option_map (with-wish q.0 q.1 q.2) (wish_of (take (at - 1) fs) (slice_index_or fs at [])))
    (all-three (sym start) (sym name) (sym cut.after))
    ∙ sym (by-mark fs (Some at) e)

-- ---- lines of `on`

pub no-do : (word : List ℕ) (fs : List (List ℕ)) (o : Option ℕ) → word ≡ codes "do" → o ≡ position (λ f. bytes_eq f word) fs → form_end fs ≡ or_off fs o
no-do word fs o same e = sym (ap (or_off fs) (e ∙ ap (λ w. position (λ f. bytes_eq f w) fs) same))

pub off-at : (before : List (List ℕ)) (last : List ℕ) → off_at (before ++ last ∷ []) ≡ cond (bytes_eq last (codes "off")) (Some (length before)) None
off-at [] last = refl
off-at (f ∷ before) last =
    ap (λ n. cond (bytes_eq (slice_index_or (f ∷ (before ++ last ∷ [])) n []) (codes "off")) (Some n) None) (some-after before last)
    ∙ ap (λ w. cond (bytes_eq w (codes "off")) (Some (suc (length before))) None) (at-end before last)

pub not-on-signal : (fs : List (List ℕ)) → length fs ≢ 3 → length fs ≢ 4 → is_on_signal fs ≡ false
not-on-signal [] h k = refl
not-on-signal (a ∷ []) h k = refl
not-on-signal (a ∷ b ∷ []) h k = refl
not-on-signal (a ∷ b ∷ c ∷ []) h k = absurd (h refl)
not-on-signal (a ∷ b ∷ c ∷ d ∷ []) h k = absurd (k refl)
not-on-signal (a ∷ b ∷ c ∷ d ∷ e ∷ fs) h k = refl

-- the first `=`
pub equals-at : (word : List ℕ) (fs : List (List ℕ)) (o : Option ℕ) → word ≡ codes "=" → o ≡ position (λ f. bytes_eq f word) fs → equals_place fs ≡ o
equals-at word fs o same e = sym (e ∙ ap (λ w. position (λ f. bytes_eq f w) fs) same)

pub none-equals : (form behind : List (List ℕ)) → equals_place form ≡ None → marked_form form behind ≡ None
none-equals form behind e = ap (option_and_then (on_line_at form behind)) e

pub first-equals : (form behind : List (List ℕ)) (at : ℕ) → equals_place form ≡ Some at → at ≡ 0 → marked_form form behind ≡ None
first-equals form behind at e z = ap (option_and_then (on_line_at form behind)) (e ∙ ap Some z)

abbrev on-line : List (List ℕ) → List ℕ → List (List ℕ) → List (List ℕ) → OnLine
on-line before signal words behind = record { before = before; signal = signal; words = words; behind = behind }

pub equals-parts : (form behind : List (List ℕ)) (at : ℕ) (front before : List (List ℕ)) (signal mark : List ℕ) (words : List (List ℕ)) (b : Bool)
    → equals_place form ≡ Some at → Cuts form at front mark words → front ≡ before ++ signal ∷ [] → is_on_signal before ≡ b
    → marked_form form behind ≡ cond b (Some (on-line before signal words behind)) None
equals-parts form behind at front before signal mark words b e cut last is =
    let p = front-parts form at front before signal mark words cut last in
    let n = length before in
    let next : at + 1 ≡ suc (suc n) = omega (arith, p.0) in
    let rest : drop (suc (suc n)) form ≡ words = ap (λ i. drop i form) (sym next) ∙ cut.after in
    ap (option_and_then (on_line_at form behind)) (e ∙ ap Some p.0)
    ∙ ap (λ (q : List (List ℕ) × List ℕ × List (List ℕ)). cond (is_on_signal q.0) (Some (on-line q.0 q.1 q.2 behind)) None) (all-three p.1 p.2 rest)
    ∙ ap (λ t. cond t (Some (on-line before signal words behind)) None) is

-- a line whose form is marked begins with `on`
pub worded-by-end : (fs : List (List ℕ)) (o : Option ℕ) → o ≡ form_end fs → option_and_then (λ at. marked_form (take at fs) (drop at fs)) o ≡ worded_on fs
unfolding worded_on
worded-by-end fs o e = ap (option_and_then (λ at. marked_form (take at fs) (drop at fs))) e

starts-not : (w : List ℕ) (fs : List (List ℕ)) → bytes_eq w (codes "on") ≡ false → is_on_signal (w ∷ fs) ≡ false
starts-not w [] h = refl
starts-not w (a ∷ []) h = refl
starts-not w (a ∷ b ∷ []) h = rw h refl
starts-not w (a ∷ b ∷ c ∷ []) h = rw h refl
starts-not w (a ∷ b ∷ c ∷ d ∷ fs) h = refl

before-not : (w : List ℕ) (fs : List (List ℕ)) (at n : ℕ) → bytes_eq w (codes "on") ≡ false → is_on_signal (take n (take at (w ∷ fs))) ≡ false
before-not w fs zero zero h = refl
before-not w fs zero (suc n) h = refl
before-not w fs (suc at) zero h = refl
before-not w fs (suc at) (suc n) h = starts-not w (take n (take at fs)) h

marked-not : (w : List ℕ) (fs : List (List ℕ)) (at : ℕ) (o : Option ℕ) → bytes_eq w (codes "on") ≡ false → option_and_then (on_line_at (take at (w ∷ fs)) (drop at (w ∷ fs))) o ≡ None
marked-not w fs at None h = refl
marked-not w fs at (Some zero) h = refl
marked-not w fs at (Some (suc n)) h = rw (before-not w fs at n h) refl

ended-not : (w : List ℕ) (fs : List (List ℕ)) (o : Option ℕ) → bytes_eq w (codes "on") ≡ false → option_and_then (λ at. marked_form (take at (w ∷ fs)) (drop at (w ∷ fs))) o ≡ None
ended-not w fs None h = refl
ended-not w fs (Some at) h = marked-not w fs at (equals_place (take at (w ∷ fs))) h

is-other : (b : Bool) → true ≡ not b → b ≡ false
is-other true h = h
is-other false h = refl

pub worded-not : (w : List ℕ) (fs : List (List ℕ)) → true ≡ not (bytes_eq w (codes "on")) → worded_on (w ∷ fs) ≡ None
worded-not w fs h =
    sym (worded-by-end (w ∷ fs) (form_end (w ∷ fs)) refl) ∙ ended-not w fs (form_end (w ∷ fs)) (is-other (bytes_eq w (codes "on")) h)

pub worded-none : worded_on [] ≡ None
unfolding worded_on
worded-none = refl
