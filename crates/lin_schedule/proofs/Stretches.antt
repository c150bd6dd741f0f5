-- What is kept of slots in turn, one line in front of others.
use Rattle.std.proofs.Common.{◌≡◌, ℕ, ◌+◌, min, max, Bool, true, false, List, [], ◌∷◌, Option, Some, None, refl, ap, ◌∙◌, arith}
use Rattle.std.specs.Prelude.{if◌then◌else◌}
use Rattle.lin_parts.specs.declared.parts.Line.{Line}
use Rattle.lin_parts.specs.declared.parts.Parts.{Parts}
use Rattle.lin_schedule.specs.Ahead.{resolving_lines}
use Rattle.lin_schedule.specs.Carriers.{can_collide}
use Rattle.lin_schedule.specs.Occurs.{is_own}
use Rattle.lin_schedule.specs.Spacing.{pair, one, with_gap, extremes, next_from, gaps_in, next_by, gaps_by, IsStretch, own_added, least_of, most_of, gaps_of, spread}
use Rattle.lin_schedule.specs.declared.spacing.Extremes.{Extremes}
use Rattle.lin_schedule.specs.declared.spacing.OwnSlots.{OwnSlots}

pair-same : (a b s l : ℕ) → a ≡ s → b ≡ l → Some (pair a b) ≡ Some (pair s l)
pair-same a b s l e d = ap (λ (x : ℕ). Some (pair x b)) e ∙ ap (λ (x : ℕ). Some (pair s x)) d

-- the order of times doesn't count
with_gap-swapped : (gaps : Option Extremes) (a b : Extremes) → with_gap (with_gap gaps a) b ≡ with_gap (with_gap gaps b) a
with_gap-swapped None a b =
    pair-same (min a.shortest b.shortest) (max a.longest b.longest) (min b.shortest a.shortest) (max b.longest a.longest)
    (omega arith) (omega arith)
with_gap-swapped (Some g) a b =
    pair-same (min (min g.shortest a.shortest) b.shortest) (max (max g.longest a.longest) b.longest)
    (min (min g.shortest b.shortest) a.shortest) (max (max g.longest b.longest) a.longest)
    (omega arith) (omega arith)

pub next-other : (f : ℕ) (line : Line) (lines : List Line) (after : ℕ) → is_own f line.entry ≡ false
    → next_from f (line ∷ lines) after ≡ line.delay_us + next_from f lines after
next-other f line lines after e = ap (λ (b : Bool). if b then 0 else line.delay_us + next_from f lines after) e

pub next-own : (f : ℕ) (line : Line) (lines : List Line) (after : ℕ) → is_own f line.entry ≡ true → next_from f (line ∷ lines) after ≡ 0
next-own f line lines after e = ap (λ (b : Bool). if b then 0 else line.delay_us + next_from f lines after) e

pub gaps-other : (f : ℕ) (line : Line) (lines : List Line) (after : ℕ) → is_own f line.entry ≡ false
    → gaps_in f (line ∷ lines) after ≡ gaps_in f lines after
gaps-other f line lines after e =
    ap (λ (b : Bool). if b then (line.delay_us + next_from f lines after) ∷ gaps_in f lines after else gaps_in f lines after) e

pub gaps-own : (f : ℕ) (line : Line) (lines : List Line) (after : ℕ) → is_own f line.entry ≡ true
    → gaps_in f (line ∷ lines) after ≡ (line.delay_us + next_from f lines after) ∷ gaps_in f lines after
gaps-own f line lines after e =
    ap (λ (b : Bool). if b then (line.delay_us + next_from f lines after) ∷ gaps_in f lines after else gaps_in f lines after) e

extremes-own : (f : ℕ) (line : Line) (lines : List Line) (after : ℕ) (own : Option OwnSlots) (next : ℕ) → is_own f line.entry ≡ true
    → extremes (gaps_in f lines after) ≡ gaps_by own after → line.delay_us + next_from f lines after ≡ next
    → extremes (gaps_in f (line ∷ lines) after) ≡ with_gap (gaps_by own after) (one next)
extremes-own f line lines after own next e gaps first =
    ap extremes (gaps-own f line lines after e)
    ∙ ap (λ (g : Option Extremes). with_gap g (one (line.delay_us + next_from f lines after))) gaps
    ∙ ap (λ (x : ℕ). with_gap (gaps_by own after) (one x)) first

pub stretch-none : (f : ℕ) → IsStretch f [] 0 None
stretch-none f = record { next = λ after. omega arith; gaps = λ after. refl }

pub stretch-added : (f : ℕ) (line : Line) (lines : List Line) (total : ℕ) (own : Option OwnSlots) (b : Bool) → IsStretch f lines total own
    → is_own f line.entry ≡ b → IsStretch f (line ∷ lines) (total + line.delay_us) (own_added own total line.delay_us b)
stretch-added f line lines total None false is e = record {
  next = λ after.
      let h : next_from f lines after ≡ total + after = is.next after in
      let sum : line.delay_us + next_from f lines after ≡ total + line.delay_us + after = omega (arith, h) in
      next-other f line lines after e ∙ sum;
  gaps = λ after. ap extremes (gaps-other f line lines after e) ∙ is.gaps after;
}
stretch-added f line lines total None true is e = record {
  next = λ after. next-own f line lines after e;
  gaps = λ after.
      let h : next_from f lines after ≡ total + after = is.next after in
      let sum : line.delay_us + next_from f lines after ≡ total + line.delay_us + after = omega (arith, h) in
      extremes-own f line lines after None (total + line.delay_us + after) e (is.gaps after) sum;
}
stretch-added f line lines total (Some own) false is e = record {
  next = λ after.
      let h : next_from f lines after ≡ own.before = is.next after in
      let sum : line.delay_us + next_from f lines after ≡ own.before + line.delay_us = omega (arith, h) in
      next-other f line lines after e ∙ sum;
  gaps = λ after. ap extremes (gaps-other f line lines after e) ∙ is.gaps after;
}
stretch-added f line lines total (Some own) true is e = record {
  next = λ after. next-own f line lines after e;
  gaps = λ after.
      let h : next_from f lines after ≡ own.before = is.next after in
      let sum : line.delay_us + next_from f lines after ≡ own.before + line.delay_us = omega (arith, h) in
      extremes-own f line lines after (Some own) (own.before + line.delay_us) e (is.gaps after) sum
      ∙ with_gap-swapped own.gaps (one (own.after + after)) (one (own.before + line.delay_us));
}

-- ---- main slots

-- the three numbers and times at a main slot of the frame's own, at one whose answers can't collide, and at one with what is
-- kept of its resolving table
pub main-own : (c : Parts) (f : ℕ) (line : Line) (a b : ℕ) (gaps : Option Extremes) → is_own f line.entry ≡ true
    → (least_of c f line a ≡ 0) × (most_of c f line b ≡ 0)
    × (gaps_of c f line a b gaps ≡ with_gap gaps (pair (line.delay_us + a) (line.delay_us + b)))
main-own c f line a b gaps own = rw own (refl, refl, refl)

pub main-straight : (c : Parts) (f : ℕ) (line : Line) (a b : ℕ) (gaps : Option Extremes) → is_own f line.entry ≡ false
    → can_collide c line.entry ≡ false
    → (least_of c f line a ≡ line.delay_us + a) × (most_of c f line b ≡ line.delay_us + b) × (gaps_of c f line a b gaps ≡ gaps)
main-straight c f line a b gaps other cannot = rw (other, cannot) (refl, refl, refl)

pub main-round : (c : Parts) (f : ℕ) (line : Line) (a b total : ℕ) (own : Option OwnSlots) (gaps : Option Extremes) → is_own f line.entry ≡ false
    → can_collide c line.entry ≡ true → IsStretch f (resolving_lines c line.entry) total own
    → (least_of c f line a ≡ line.delay_us + min a (next_by total own a)) × (most_of c f line b ≡ line.delay_us + max b (next_by total own b))
    × (gaps_of c f line a b gaps ≡ spread gaps (gaps_by own a) (gaps_by own b))
main-round c f line a b total own gaps other can is =
    rw (other, can) (
      ap (λ (x : ℕ). line.delay_us + min a x) (is.next a),
      ap (λ (x : ℕ). line.delay_us + max b x) (is.next b),
      ap (λ (x : Option Extremes). spread gaps x (extremes (gaps_in f (resolving_lines c line.entry) b))) (is.gaps a)
          ∙ ap (spread gaps (gaps_by own a)) (is.gaps b),
    )
