-- Sums stand for the lines of an excursion, one line in front of others.
use Rattle.std.proofs.Common.{◌≡◌, ℕ, zero, suc, ◌+◌, ◌-◌, ◌<◌, ◌≤◌, max, Bool, true, false, List, [], ◌∷◌, ◌++◌, length, get_or, refl, ap, sym, ◌∙◌, subst, arith, inl, inr, cond, take, length-take, min}
use Rattle.std.specs.Prelude.{if◌then◌else◌, All, nat_le, count_by}
use Rattle.std.proofs.lemmas.Bool.{cases_lt}
use Rattle.std.proofs.lemmas.Bool.Decides.{nat_tests}
use Rattle.std.proofs.lemmas.List.{get_or_append_left, get_or-append_right, take_more}
use Rattle.std.proofs.Math.Seq.{take-length}
use Rattle.std.proofs.lemmas.List.Elements.{All-append, All-cons, All-nil, All-get_or}
use Rattle.std.proofs.lemmas.List.Sums.{sum_by-cons}
use Rattle.lin_parts.specs.declared.parts.Line.{Line}
use Rattle.lin_parts.specs.declared.parts.Parts.{Parts}
use Rattle.lin_schedule.specs.Ahead.{left, through, longest_inside, resolving_lines, ahead_of, longest_from}
use Rattle.lin_schedule.specs.Carriers.{Carriers, carries, can_collide}
use Rattle.lin_schedule.specs.Excursions.{through_by, longest_open, within_from, IsExcursion, IsSummary}
use Rattle.lin_schedule.specs.declared.excursion.Excursion.{Excursion}

pub through_by-within : (total : ℕ) (ends : List ℕ) (n : ℕ) (after : ℕ → ℕ) → n ≤ length ends
    → through_by total ends n after ≡ total - get_or ends (length ends - n) 0
through_by-within total ends n after le =
    let test : nat_le n (length ends) ≡ true = grind (arith, nat_tests) in
    rw test refl

pub through_by-beyond : (total : ℕ) (ends : List ℕ) (n : ℕ) (after : ℕ → ℕ) → length ends < n
    → through_by total ends n after ≡ total + after (n - length ends)
through_by-beyond total ends n after lt =
    let test : nat_le n (length ends) ≡ false = grind (arith, nat_tests) in
    rw test refl

-- none is wanted any more
pub through-none : (k : Carriers) (lines : List Line) (after : ℕ → ℕ) → after 0 ≡ 0 → through k lines 0 after ≡ 0
through-none k [] after done = done
through-none k (line ∷ lines) after done = refl

-- one more open slot counts where it is among the last n
longest_open-push : (starts : List ℕ) (start n : ℕ) (after : ℕ → ℕ) → length starts < n
    → longest_open (starts ++ start ∷ []) n after ≡ max (longest_open starts n after) (start + after (n - length starts))
longest_open-push [] start zero after lt = absurd (omega arith)
longest_open-push [] start (suc n) after lt =
    let same : suc n - 0 ≡ suc n = omega arith in
    let e = ap after same in
    omega (arith, e)
longest_open-push (first ∷ starts) start zero after lt = absurd (omega arith)
longest_open-push (first ∷ starts) start (suc n) after lt =
    let rest = longest_open-push starts start n after (omega arith) in
    let same : suc n - suc (length starts) ≡ n - length starts = omega arith in
    let e = ap after same in
    omega (arith, rest, e)

longest_open-full : (starts : List ℕ) (start n : ℕ) (after : ℕ → ℕ) → n ≤ length starts
    → longest_open (starts ++ start ∷ []) n after ≡ longest_open starts n after
longest_open-full [] start zero after le = refl
longest_open-full [] start (suc n) after le = absurd (omega arith)
longest_open-full (first ∷ starts) start zero after le = refl
longest_open-full (first ∷ starts) start (suc n) after le =
    ap (λ (x : ℕ). max (first + after (suc n)) x) (longest_open-full starts start n after (omega arith))

excursion-none-through : (m : ℕ) (after : ℕ → ℕ) → 1 ≤ m → after m ≡ through_by 0 [] m after
excursion-none-through m after some =
    let less : m - 0 ≡ m = omega arith in
    let e = ap after less in
    omega (arith, through_by-beyond 0 [] m after some, e)

max-none : (a : ℕ) → a ≡ max a 0
max-none a = omega arith

pub excursion-none : (k : Carriers) (n : ℕ) → IsExcursion k [] n 0 [] [] 0
excursion-none k n = record {
  passes = λ m after done some. excursion-none-through m after some;
  longest = λ before after done. ap (λ (x : ℕ). max (before + after n) x) (max-none 0);
  carriers = refl;
  as_many = refl;
  ends_in = All-nil (λ (time : ℕ). time ≤ 0);
  starts_in = All-nil (λ (time : ℕ). time ≤ 0);
  within_in = omega arith;
  few = omega arith;
}

-- ---- a line in front, whose slot carries nothing

left-idle : (k : Carriers) (line : Line) (n : ℕ) → carries k line.entry ≡ false → left k line.entry n ≡ n
left-idle k line n idle = ap (λ (b : Bool). if b then n - 1 else n) idle

through-idle : (k : Carriers) (line : Line) (lines : List Line) (n : ℕ) (after : ℕ → ℕ) → carries k line.entry ≡ false → 1 ≤ n
    → through k (line ∷ lines) n after ≡ line.delay_us + through k lines n after
through-idle k line lines zero after idle some = absurd (omega arith)
through-idle k line lines (suc n) after idle some =
    ap (λ (x : ℕ). line.delay_us + through k lines x after) (left-idle k line (suc n) idle)

through_by-longer : (total delay : ℕ) (ends : List ℕ) (n : ℕ) (after : ℕ → ℕ) → All (λ time. time ≤ total) ends → 1 ≤ n
    → delay + through_by total ends n after ≡ through_by (total + delay) ends n after
through_by-longer total delay ends n after ends_in some =
    elim (cases_lt (length ends) n) [
      | inl beyond ↦ omega (arith, through_by-beyond total ends n after beyond, through_by-beyond (total + delay) ends n after beyond)
      | inr below ↦
          let at : length ends - n < length ends = omega arith in
          let end_in = All-get_or (λ (time : ℕ). time ≤ total) ends (length ends - n) 0 at ends_in in
          omega (arith, through_by-within total ends n after below, through_by-within (total + delay) ends n after below, end_in)
    ]

All-longer : (total delay : ℕ) (times : List ℕ) → All (λ time. time ≤ total) times → All (λ time. time ≤ total + delay) times
All-longer total delay times h = λ k d lt. let here = h k d lt in omega arith

inside-idle : (before delay rest inner sum : ℕ) → max (before + delay + rest) inner ≡ max (before + delay + rest) sum
    → max (before + (delay + rest)) (max (delay + rest) inner) ≡ max (before + (delay + rest)) sum
inside-idle before delay rest inner sum e = omega arith

count-idle : (k : Carriers) (line : Line) (lines : List Line) → carries k line.entry ≡ false
    → count_by (λ (l : Line). carries k l.entry) (line ∷ lines) ≡ count_by (λ (l : Line). carries k l.entry) lines
count-idle k line lines idle =
    let e : count_by (λ (l : Line). carries k l.entry) (line ∷ lines) ≡ 0 + count_by (λ (l : Line). carries k l.entry) lines =
    sum_by-cons (λ (l : Line). cond (carries k l.entry) 1 0) line lines
    ∙ ap (λ (b : Bool). cond b 1 0 + count_by (λ (l : Line). carries k l.entry) lines) idle in
    omega (arith, e)

count-carrying : (k : Carriers) (line : Line) (lines : List Line) → carries k line.entry ≡ true
    → count_by (λ (l : Line). carries k l.entry) (line ∷ lines) ≡ 1 + count_by (λ (l : Line). carries k l.entry) lines
count-carrying k line lines carrying =
    sum_by-cons (λ (l : Line). cond (carries k l.entry) 1 0) line lines
    ∙ ap (λ (b : Bool). cond b 1 0 + count_by (λ (l : Line). carries k l.entry) lines) carrying

pub excursion-idle : (k : Carriers) (line : Line) (lines : List Line) (n total : ℕ) (ends starts : List ℕ) (within : ℕ)
    → IsExcursion k lines n total ends starts within → 1 ≤ n → carries k line.entry ≡ false → line.delay_us ≤ 1000000000
    → IsExcursion k (line ∷ lines) n (total + line.delay_us) ends starts within
excursion-idle k line lines n total ends starts within is some idle short = record {
  passes = λ m after done more.
      through-idle k line lines m after idle more
      ∙ ap (λ (x : ℕ). line.delay_us + x) (is.passes m after done more)
      ∙ through_by-longer total line.delay_us ends m after is.ends_in more;
  longest = λ before after done.
      let T : ℕ = through k lines n after in
      let same = through-idle k line lines n after idle some in
      let sums : ℕ = max within (longest_open starts n after) in
      let e : max (before + (line.delay_us + T)) (max (line.delay_us + T) (longest_inside k lines n after)) ≡ max (before + (line.delay_us + T)) sums =
      inside-idle before line.delay_us T (longest_inside k lines n after) sums (is.longest (before + line.delay_us) after done) in
      ap (λ (x : ℕ). max (before + x) (max (line.delay_us + T) (longest_inside k lines n after))) same
      ∙ e
      ∙ ap (λ (x : ℕ). max (before + x) sums) (sym same);
  carriers = is.carriers ∙ sym (count-idle k line lines idle);
  as_many = is.as_many;
  ends_in = All-longer total line.delay_us ends is.ends_in;
  starts_in = All-longer total line.delay_us starts is.starts_in;
  within_in = let within_in = is.within_in in omega arith;
  few = let few = is.few in omega arith;
}

-- ---- a line in front, whose slot carries it

left-carrying : (k : Carriers) (line : Line) (n : ℕ) → carries k line.entry ≡ true → left k line.entry (suc n) ≡ n
left-carrying k line n carrying =
    let e : left k line.entry (suc n) ≡ suc n - 1 = ap (λ (b : Bool). if b then suc n - 1 else suc n) carrying in
    omega (arith, e)

through-carrying : (k : Carriers) (line : Line) (lines : List Line) (n : ℕ) (after : ℕ → ℕ) → carries k line.entry ≡ true
    → through k (line ∷ lines) (suc n) after ≡ line.delay_us + through k lines n after
through-carrying k line lines n after carrying =
    ap (λ (x : ℕ). line.delay_us + through k lines x after) (left-carrying k line n carrying)

length-push : (xs : List ℕ) (x : ℕ) → length (xs ++ x ∷ []) ≡ suc (length xs)
length-push [] x = refl
length-push (y ∷ xs) x = ap suc (length-push xs x)

-- the first that carries is this one, and the next ones are those behind
through_by-first : (total delay : ℕ) (ends : List ℕ) (after : ℕ → ℕ) → through_by (total + delay) (ends ++ total ∷ []) 1 after ≡ delay
through_by-first total delay ends after =
    let many = length-push ends total in
    let le : 1 ≤ length (ends ++ total ∷ []) = omega arith in
    let at : length (ends ++ total ∷ []) - 1 ≡ length ends = omega arith in
    let last : get_or (ends ++ total ∷ []) (length (ends ++ total ∷ []) - 1) 0 ≡ total =
    ap (λ (i : ℕ). get_or (ends ++ total ∷ []) i 0) at
    ∙ get_or-append_right ends (total ∷ []) (length ends) (length ends) 0 refl (omega arith)
    ∙ ap (λ (i : ℕ). get_or (total ∷ []) i 0) (let none : length ends - length ends ≡ 0 = omega arith in none) in
    omega (arith, through_by-within (total + delay) (ends ++ total ∷ []) 1 after le, last)

through_by-later : (total delay : ℕ) (ends : List ℕ) (n : ℕ) (after : ℕ → ℕ) → All (λ time. time ≤ total) ends → 1 ≤ n
    → delay + through_by total ends n after ≡ through_by (total + delay) (ends ++ total ∷ []) (suc n) after
through_by-later total delay ends n after ends_in some =
    let many = length-push ends total in
    elim (cases_lt (length ends) n) [
      | inl beyond ↦
          let more : length (ends ++ total ∷ []) < suc n = omega arith in
          let same : suc n - length (ends ++ total ∷ []) ≡ n - length ends = omega arith in
          let e = ap after same in
          omega (arith, through_by-beyond total ends n after beyond, through_by-beyond (total + delay) (ends ++ total ∷ []) (suc n) after more, e)
      | inr below ↦
          let at : length ends - n < length ends = omega arith in
          let end_in = All-get_or (λ (time : ℕ). time ≤ total) ends (length ends - n) 0 at ends_in in
          let le : suc n ≤ length (ends ++ total ∷ []) = omega arith in
          let at_is : length (ends ++ total ∷ []) - suc n ≡ length ends - n = omega arith in
          let kept : get_or (ends ++ total ∷ []) (length (ends ++ total ∷ []) - suc n) 0 ≡ get_or ends (length ends - n) 0 =
          ap (λ (i : ℕ). get_or (ends ++ total ∷ []) i 0) at_is
          ∙ get_or_append_left ends (total ∷ []) 0 (length ends - n) at in
          omega (arith, through_by-within total ends n after below, through_by-within (total + delay) (ends ++ total ∷ []) (suc n) after le, end_in, kept)
    ]

-- the times from this slot are among the sums
abbrev pub within_before : ℕ → ℕ → ℕ → List ℕ → ℕ → ℕ
within_before within total delay ends n = within_from within (total + delay) ends n

within_before-in : (within total delay : ℕ) (ends : List ℕ) (n : ℕ) → n ≤ length ends
    → within_before within total delay ends n ≡ max within (total + delay - get_or ends (length ends - n) 0)
within_before-in within total delay ends n le =
    let test : nat_le n (length ends) ≡ true = grind (arith, nat_tests) in
    rw test refl

within_before-out : (within total delay : ℕ) (ends : List ℕ) (n : ℕ) → length ends < n → within_before within total delay ends n ≡ within
within_before-out within total delay ends n lt =
    let test : nat_le n (length ends) ≡ false = grind (arith, nat_tests) in
    rw test refl

inside-carrying : (here delay rest inner within opened sums : ℕ) → max (delay + rest) inner ≡ max (delay + rest) (max within opened)
    → sums ≡ max (delay + rest) (max within opened) → max here (max (delay + rest) inner) ≡ max here sums
inside-carrying here delay rest inner within opened sums e is = omega arith

sums-carrying : (total delay : ℕ) (ends starts : List ℕ) (within n : ℕ) (after : ℕ → ℕ) → All (λ time. time ≤ total) ends → 1 ≤ n
    → length starts ≡ length ends
    → max (within_before within total delay ends n) (longest_open (starts ++ (total + delay) ∷ []) n after)
    ≡ max (delay + through_by total ends n after) (max within (longest_open starts n after))
sums-carrying total delay ends starts within n after ends_in some as_many =
    elim (cases_lt (length ends) n) [
      | inl beyond ↦
          let more : length starts < n = omega arith in
          let same : n - length starts ≡ n - length ends = omega arith in
          let e = ap after same in
          omega (
            arith,
            through_by-beyond total ends n after beyond,
            within_before-out within total delay ends n beyond,
            longest_open-push starts (total + delay) n after more,
            e,
          )
      | inr below ↦
          let at : length ends - n < length ends = omega arith in
          let end_in = All-get_or (λ (time : ℕ). time ≤ total) ends (length ends - n) 0 at ends_in in
          let le : n ≤ length starts = omega arith in
          omega (
            arith,
            through_by-within total ends n after below,
            within_before-in within total delay ends n below,
            longest_open-full starts (total + delay) n after le,
            end_in,
          )
    ]

carrying-through : (k : Carriers) (line : Line) (lines : List Line) (n total : ℕ) (ends starts : List ℕ) (within : ℕ)
    → IsExcursion k lines n total ends starts within → carries k line.entry ≡ true
    → (m : ℕ) (after : ℕ → ℕ) → after 0 ≡ 0 → 1 ≤ m
    → through k (line ∷ lines) m after ≡ through_by (total + line.delay_us) (ends ++ total ∷ []) m after
carrying-through k line lines n total ends starts within is carrying zero after done more = absurd (omega arith)
carrying-through k line lines n total ends starts within is carrying (suc zero) after done more =
    through-carrying k line lines 0 after carrying
    ∙ ap (λ (x : ℕ). line.delay_us + x) (through-none k lines after done)
    ∙ (let same : line.delay_us + 0 ≡ line.delay_us = omega arith in same)
    ∙ sym (through_by-first total line.delay_us ends after)
carrying-through k line lines n total ends starts within is carrying (suc (suc m)) after done more =
    through-carrying k line lines (suc m) after carrying
    ∙ ap (λ (x : ℕ). line.delay_us + x) (is.passes (suc m) after done (omega arith))
    ∙ through_by-later total line.delay_us ends (suc m) after is.ends_in (omega arith)

counted : (k : Carriers) (line : Line) (lines : List Line) → carries k line.entry ≡ true
    → count_by (λ (l : Line). carries k l.entry) (line ∷ lines) ≡ suc (count_by (λ (l : Line). carries k l.entry) lines)
counted k line lines carrying = let e = count-carrying k line lines carrying in omega (arith, e)

within-carrying : (total delay : ℕ) (ends : List ℕ) (within n : ℕ) → within ≤ total → within_before within total delay ends n ≤ total + delay
within-carrying total delay ends within n le =
    elim (cases_lt (length ends) n) [
      | inl beyond ↦ omega (arith, within_before-out within total delay ends n beyond)
      | inr below ↦ omega (arith, within_before-in within total delay ends n below)
    ]

pub excursion-carrying : (k : Carriers) (line : Line) (lines : List Line) (n total : ℕ) (ends starts : List ℕ) (within : ℕ)
    → IsExcursion k lines n total ends starts within → 1 ≤ n → carries k line.entry ≡ true → line.delay_us ≤ 1000000000
    → IsExcursion k (line ∷ lines) n (total + line.delay_us) (ends ++ total ∷ []) (starts ++ (total + line.delay_us) ∷ [])
    (within_before within total line.delay_us ends n)
excursion-carrying k line lines n total ends starts within is some carrying short = record {
  passes = carrying-through k line lines n total ends starts within is carrying;
  longest = λ before after done.
      inside-carrying (before + through k (line ∷ lines) n after) line.delay_us (through k lines n after) (longest_inside k lines n after)
      within (longest_open starts n after)
      (max (within_before within total line.delay_us ends n) (longest_open (starts ++ (total + line.delay_us) ∷ []) n after))
      (is.longest line.delay_us after done)
      (sums-carrying total line.delay_us ends starts within n after is.ends_in some is.as_many
      ∙ ap (λ (x : ℕ). max (line.delay_us + x) (max within (longest_open starts n after))) (sym (is.passes n after done some)));
  carriers = length-push ends total ∙ ap suc is.carriers ∙ sym (counted k line lines carrying);
  as_many = length-push starts (total + line.delay_us) ∙ ap suc is.as_many ∙ sym (length-push ends total);
  ends_in = All-append (λ (time : ℕ). time ≤ total + line.delay_us) ends (total ∷ []) (All-longer total line.delay_us ends is.ends_in)
      (All-cons (λ (time : ℕ). time ≤ total + line.delay_us) total [] (omega arith) (All-nil (λ (time : ℕ). time ≤ total + line.delay_us)));
  starts_in = All-append (λ (time : ℕ). time ≤ total + line.delay_us) starts ((total + line.delay_us) ∷ []) (All-longer total line.delay_us starts is.starts_in)
      (All-cons (λ (time : ℕ). time ≤ total + line.delay_us) (total + line.delay_us) [] (omega arith) (All-nil (λ (time : ℕ). time ≤ total + line.delay_us)));
  within_in = within-carrying total line.delay_us ends within n is.within_in;
  few = let few = is.few in omega arith;
}

-- ---- the sums in place of the lines

-- one more open slot of a list
pub longest_open-more : (starts : List ℕ) (n open_slots : ℕ) (after : ℕ → ℕ) → open_slots < length starts → open_slots < n
    → longest_open (take (open_slots + 1) starts) n after
    ≡ max (longest_open (take open_slots starts) n after) (get_or starts open_slots 0 + after (n - open_slots))
longest_open-more starts n open_slots after lt few =
    let many : length (take open_slots starts) ≡ open_slots = omega (arith, length-take open_slots starts) in
    ap (λ (xs : List ℕ). longest_open xs n after) (take_more starts open_slots 0 lt)
    ∙ longest_open-push (take open_slots starts) (get_or starts open_slots 0) n after (omega arith)
    ∙ ap (λ (x : ℕ). max (longest_open (take open_slots starts) n after) (get_or starts open_slots 0 + after (n - x))) many

pub longest_open-front : (starts : List ℕ) (n : ℕ) (after : ℕ → ℕ) → longest_open (take n starts) n after ≡ longest_open starts n after
longest_open-front [] zero after = refl
longest_open-front [] (suc n) after = refl
longest_open-front (start ∷ starts) zero after = refl
longest_open-front (start ∷ starts) (suc n) after = ap (λ (x : ℕ). max (start + after (suc n)) x) (longest_open-front starts n after)

pub longest_open-whole : (starts : List ℕ) (n : ℕ) (after : ℕ → ℕ) → longest_open (take (min (length starts) n) starts) n after ≡ longest_open starts n after
longest_open-whole starts n after = elim (cases_lt (length starts) n) [
  | inl less ↦
      let is : min (length starts) n ≡ length starts = omega arith in
      ap (λ (x : ℕ). longest_open (take x starts) n after) is ∙ ap (λ (xs : List ℕ). longest_open xs n after) (take-length starts)
  | inr more ↦
      let is : min (length starts) n ≡ n = omega arith in
      ap (λ (x : ℕ). longest_open (take x starts) n after) is ∙ longest_open-front starts n after
]

-- the time ahead of a slot that begins an excursion, and of one that doesn't
pub ahead_of-summary : (c : Parts) (k : Carriers) (n : ℕ) (line : Line) (wanted : ℕ) (after : ℕ → ℕ) (x : Excursion) → after 0 ≡ 0 → 1 ≤ wanted
    → (can_collide c line.entry ≡ true) × IsSummary k (resolving_lines c line.entry) n x
    → line.delay_us + max (after (left k line.entry wanted)) (through_by x.total x.ends.items wanted after)
    ≡ ahead_of c k line wanted after
ahead_of-summary c k n line wanted after x done some is =
    ap (λ (y : ℕ). line.delay_us + max (after (left k line.entry wanted)) y) (sym (is.1.passes wanted after done some))
    ∙ sym (ap (λ (can : Bool). line.delay_us
    + (if can then max (after (left k line.entry wanted)) (through k (resolving_lines c line.entry) wanted after) else after (left k line.entry wanted))) is.0)

pub ahead_of-straight : (c : Parts) (k : Carriers) (line : Line) (wanted : ℕ) (after : ℕ → ℕ) → can_collide c line.entry ≡ false
    → line.delay_us + after (left k line.entry wanted) ≡ ahead_of c k line wanted after
ahead_of-straight c k line wanted after is =
    sym (ap (λ (can : Bool). line.delay_us
    + (if can then max (after (left k line.entry wanted)) (through k (resolving_lines c line.entry) wanted after) else after (left k line.entry wanted))) is)

longest-joined : (delay straight round inner sums : ℕ) → max (delay + round) inner ≡ max (delay + round) sums
    → max (delay + max straight round) sums ≡ max (delay + max straight round) inner
longest-joined delay straight round inner sums e = omega arith

-- the longest wait from it
pub longest_from-summary : (c : Parts) (k : Carriers) (n : ℕ) (line : Line) (after : ℕ → ℕ) (x : Excursion) → after 0 ≡ 0 → 1 ≤ n
    → (can_collide c line.entry ≡ true) × IsSummary k (resolving_lines c line.entry) n x
    → max (line.delay_us + max (after n) (through_by x.total x.ends.items n after)) (max x.within (longest_open x.starts.items n after))
    ≡ longest_from c k line n after
longest_from-summary c k n line after x done some is =
    let lines : List Line = resolving_lines c line.entry in
    ap (λ (y : ℕ). max (line.delay_us + max (after n) y) (max x.within (longest_open x.starts.items n after))) (sym (is.1.passes n after done some))
    ∙ longest-joined line.delay_us (after n) (through k lines n after) (longest_inside k lines n after) (max x.within (longest_open x.starts.items n after))
    (is.1.longest line.delay_us after done)
    ∙ sym (ap (λ (can : Bool). if can then max (line.delay_us + max (after n) (through k lines n after)) (longest_inside k lines n after)
    else line.delay_us + after n) is.0)

pub longest_from-straight : (c : Parts) (k : Carriers) (line : Line) (n : ℕ) (after : ℕ → ℕ) → can_collide c line.entry ≡ false
    → line.delay_us + after n ≡ longest_from c k line n after
longest_from-straight c k line n after is =
    sym (ap (λ (can : Bool). if can then max (line.delay_us + max (after n) (through k (resolving_lines c line.entry) n after))
    (longest_inside k (resolving_lines c line.entry) n after) else line.delay_us + after n) is)

-- the same for sums that are equal
pub excursion-added : (k : Carriers) (line : Line) (lines : List Line) (n total : ℕ) (ends starts : List ℕ) (within delay more : ℕ)
    (new_ends new_starts : List ℕ) (new_within : ℕ)
    → IsExcursion k lines n total ends starts within → 1 ≤ n → line.delay_us ≡ delay → carries k line.entry ≡ true → delay ≤ 1000000000
    → more ≡ delay → new_ends ≡ ends ++ total ∷ [] → new_starts ≡ starts ++ (total + more) ∷ []
    → new_within ≡ within_from within (total + more) ends n
    → IsExcursion k (line ∷ lines) n (total + more) new_ends new_starts new_within
excursion-added k line lines n total ends starts within delay more new_ends new_starts new_within is some delay_is carrying short more_is ends_is starts_is within_is =
    let same : line.delay_us ≡ more = delay_is ∙ sym more_is in
    let le : line.delay_us ≤ 1000000000 = omega arith in
    let whole : IsExcursion k (line ∷ lines) n (total + line.delay_us) (ends ++ total ∷ []) (starts ++ (total + line.delay_us) ∷ []) (within_before within total line.delay_us ends n) =
    excursion-carrying k line lines n total ends starts within is some carrying le in
    let moved : IsExcursion k (line ∷ lines) n (total + more) (ends ++ total ∷ []) (starts ++ (total + more) ∷ []) (within_from within (total + more) ends n) =
    subst (λ (x : ℕ). IsExcursion k (line ∷ lines) n (total + x) (ends ++ total ∷ []) (starts ++ (total + x) ∷ []) (within_from within (total + x) ends n)) same whole in
    let with_ends = subst (λ (xs : List ℕ). IsExcursion k (line ∷ lines) n (total + more) xs (starts ++ (total + more) ∷ []) (within_from within (total + more) ends n)) (sym ends_is) moved in
    let with_starts = subst (λ (xs : List ℕ). IsExcursion k (line ∷ lines) n (total + more) new_ends xs (within_from within (total + more) ends n)) (sym starts_is) with_ends in
    subst (λ (x : ℕ). IsExcursion k (line ∷ lines) n (total + more) new_ends new_starts x) (sym within_is) with_starts

pub excursion-passed : (k : Carriers) (line : Line) (lines : List Line) (n total : ℕ) (ends starts : List ℕ) (within delay more : ℕ)
    → IsExcursion k lines n total ends starts within → 1 ≤ n → line.delay_us ≡ delay → carries k line.entry ≡ false → delay ≤ 1000000000
    → more ≡ delay → IsExcursion k (line ∷ lines) n (total + more) ends starts within
excursion-passed k line lines n total ends starts within delay more is some delay_is idle short more_is =
    let same : line.delay_us ≡ more = delay_is ∙ sym more_is in
    let le : line.delay_us ≤ 1000000000 = omega arith in
    subst (λ (x : ℕ). IsExcursion k (line ∷ lines) n (total + x) ends starts within) same (excursion-idle k line lines n total ends starts within is some idle le)
