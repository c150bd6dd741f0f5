-- The times between slots of a frame's own, as they are found from one main slot to the one before.
use Rattle.std.proofs.Common.{◌≡◌, ℕ, zero, suc, ◌+◌, ◌-◌, ◌<◌, ◌≤◌, min, max, Bool, true, false, List, [], ◌∷◌, length, get_or, drop, Option, Some, None, refl, ap, sym, ◌∙◌, subst, arith, inl, inr, ◌⊎◌}
use Rattle.std.specs.Prelude.{if◌then◌else◌, MatchOption}
use Rattle.std.specs.Option.{option_map_or}
use Rattle.std.proofs.lemmas.Bool.{cases_Bool, cases_lt, false≢true}
use Rattle.std.proofs.lemmas.Option.{none-some}
use Rattle.std.proofs.Math.Seq.{drop-cons, drop-length}
use Rattle.lin_parts.specs.Cluster.{event_of, table_of, line_of}
use Rattle.lin_parts.specs.Rules.{IsCluster}
use Rattle.lin_parts.specs.declared.parts.Parts.{Parts}
use Rattle.lin_parts.specs.declared.parts.Line.{Line}
use Rattle.lin_parts.specs.declared.parts.Entry.{Entry}
use Rattle.lin_parts.specs.declared.parts.Entry.TheVariants.{Event}
use Rattle.lin_schedule.specs.Ahead.{resolving_lines}
use Rattle.lin_schedule.specs.Carriers.{can_collide}
use Rattle.lin_schedule.specs.Occurs.{is_own}
use Rattle.lin_schedule.specs.Rounds.{back_from}
use Rattle.lin_schedule.specs.Spacing.{IsGap, AreGaps, HasNoOwn, pair, one, with_gap, extremes, next_from, gaps_in, spread}
use Rattle.lin_schedule.specs.Spacing.{least_of, most_of, gaps_of, line_before, least_before, most_before, gaps_after}
use Rattle.lin_schedule.specs.Walker.{Position}
use Rattle.lin_schedule.specs.declared.spacing.Extremes.{Extremes}
use Rattle.lin_schedule.proofs.Ahead.{line_at}
use Rattle.lin_schedule.proofs.Clusters.{table-length, event-table}
use Rattle.lin_schedule.proofs.Distances.{Path, arrived, onward, AreBounds, gaps-within, gap-met}
use Rattle.lin_schedule.proofs.Rounds.{back_from-back, back_from-far, back_from-near, back_from-lt, back_from-next, back_from-start}
use Rattle.lin_schedule.proofs.Steps.{step, IsOnWalk, main, inside, IsFree, event-there, colliding-event, step-collided, step-inside, step-end}
use Rattle.lin_schedule.proofs.Stretches.{next-other, next-own, gaps-other, gaps-own}
use Rattle.lin_schedule.proofs.Times.{next, next-lt, no_line}

-- ---- gaps among which some are

-- gaps of which the shortest is at most x, and the longest at least y
record Holds (gaps : Option Extremes) (x y : ℕ) : Type 0 where
  found : Extremes
  is : gaps ≡ Some found
  low : found.shortest ≤ x
  high : y ≤ found.longest

some-same : (a b : Extremes) → Some a ≡ Some b → a ≡ b
some-same a b e = cc

with_gap-new : (gaps : Option Extremes) (x y : ℕ) → Holds (with_gap gaps (pair x y)) x y
with_gap-new None x y = record { found = pair x y; is = refl; low = omega arith; high = omega arith }
with_gap-new (Some g) x y = record {
  found = pair (min g.shortest x) (max g.longest y);
  is = refl;
  low = omega arith;
  high = omega arith;
}

with_gap-kept : (gaps : Option Extremes) (times : Extremes) (x y : ℕ) → Holds gaps x y → Holds (with_gap gaps times) x y
with_gap-kept None times x y holds = absurd (none-some holds.found holds.is)
with_gap-kept (Some g) times x y holds =
    let same : g ≡ holds.found = some-same g holds.found holds.is in
    let s : g.shortest ≡ holds.found.shortest = ap (λ (e : Extremes). e.shortest) same in
    let l : g.longest ≡ holds.found.longest = ap (λ (e : Extremes). e.longest) same in
    let low = holds.low in
    let high = holds.high in
    record {
      found = pair (min g.shortest times.shortest) (max g.longest times.longest);
      is = refl;
      low = omega arith;
      high = omega arith;
    }

spread-kept : (gaps low high : Option Extremes) (x y : ℕ) → Holds gaps x y → Holds (spread gaps low high) x y
spread-kept gaps (Some low) (Some high) x y holds = with_gap-kept gaps (pair low.shortest high.longest) x y holds
spread-kept gaps (Some low) None x y holds = holds
spread-kept gaps None high x y holds = holds

spread-new : (gaps low high : Option Extremes) (x y u v : ℕ) → Holds low x u → Holds high v y → Holds (spread gaps low high) x y
spread-new gaps None high x y u v below above = absurd (none-some below.found below.is)
spread-new gaps (Some low) None x y u v below above = absurd (none-some above.found above.is)
spread-new gaps (Some low) (Some high) x y u v below above =
    let new : Holds (with_gap gaps (pair low.shortest high.longest)) low.shortest high.longest = with_gap-new gaps low.shortest high.longest in
    let s : low.shortest ≡ below.found.shortest = ap (λ (e : Extremes). e.shortest) (some-same low below.found below.is) in
    let l : high.longest ≡ above.found.longest = ap (λ (e : Extremes). e.longest) (some-same high above.found above.is) in
    let low_le = below.low in
    let high_le = above.high in
    let new_low = new.low in
    let new_high = new.high in
    record { found = new.found; is = new.is; low = omega arith; high = omega arith }

-- ---- the gaps of lines in turn

-- from a place of lines, where so much is between their end and the next own slot
abbrev gap_at : ℕ → List Line → ℕ → ℕ → ℕ
gap_at f lines place after = (get_or lines place no_line).delay_us + next_from f (drop (suc place) lines) after

inside-within : (f : ℕ) (lines : List Line) (place after : ℕ) → place < length lines → is_own f (get_or lines place no_line).entry ≡ true
    → Holds (extremes (gaps_in f lines after)) (gap_at f lines place after) (gap_at f lines place after)
inside-within f [] place after lt own = absurd (omega arith)
inside-within f (line ∷ lines) zero after lt own =
    let gap : ℕ = line.delay_us + next_from f lines after in
    subst (λ (times : List ℕ). Holds (extremes times) gap gap) (sym (gaps-own f line lines after own))
    (with_gap-new (extremes (gaps_in f lines after)) gap gap)
inside-within f (line ∷ lines) (suc place) after lt own =
    let gap : ℕ = gap_at f lines place after in
    let later : Holds (extremes (gaps_in f lines after)) gap gap = inside-within f lines place after (omega arith) own in
    elim (cases_Bool (is_own f line.entry)) [
      | inl here ↦
          subst (λ (times : List ℕ). Holds (extremes times) gap gap) (sym (gaps-own f line lines after here))
          (with_gap-kept (extremes (gaps_in f lines after)) (one (line.delay_us + next_from f lines after)) gap gap later)
      | inr other ↦ subst (λ (times : List ℕ). Holds (extremes times) gap gap) (sym (gaps-other f line lines after other)) later
    ]

-- ---- the ways from a main slot

least-own : (c : Parts) (f : ℕ) (line : Line) (after : ℕ) → is_own f line.entry ≡ true → least_of c f line after ≡ 0
least-own c f line after own =
    ap (λ (b : Bool). if b then 0 else line.delay_us + (if can_collide c line.entry then min after (next_from f (resolving_lines c line.entry) after) else after)) own

most-own : (c : Parts) (f : ℕ) (line : Line) (after : ℕ) → is_own f line.entry ≡ true → most_of c f line after ≡ 0
most-own c f line after own =
    ap (λ (b : Bool). if b then 0 else line.delay_us + (if can_collide c line.entry then max after (next_from f (resolving_lines c line.entry) after) else after)) own

least-other : (c : Parts) (f : ℕ) (line : Line) (after : ℕ) → is_own f line.entry ≡ false
    → least_of c f line after ≡ line.delay_us + (if can_collide c line.entry then min after (next_from f (resolving_lines c line.entry) after) else after)
least-other c f line after other =
    ap (λ (b : Bool). if b then 0 else line.delay_us + (if can_collide c line.entry then min after (next_from f (resolving_lines c line.entry) after) else after)) other

most-other : (c : Parts) (f : ℕ) (line : Line) (after : ℕ) → is_own f line.entry ≡ false
    → most_of c f line after ≡ line.delay_us + (if can_collide c line.entry then max after (next_from f (resolving_lines c line.entry) after) else after)
most-other c f line after other =
    ap (λ (b : Bool). if b then 0 else line.delay_us + (if can_collide c line.entry then max after (next_from f (resolving_lines c line.entry) after) else after)) other

shorter-straight : (can : Bool) (a b : ℕ) → (if can then min a b else a) ≤ a
shorter-straight true a b = omega arith
shorter-straight false a b = omega arith

shorter-round : (can : Bool) (a b : ℕ) → can ≡ true → (if can then min a b else a) ≤ b
shorter-round true a b is = omega arith
shorter-round false a b is = absurd (false≢true is)

longer-straight : (can : Bool) (a b : ℕ) → a ≤ (if can then max a b else a)
longer-straight true a b = omega arith
longer-straight false a b = omega arith

longer-round : (can : Bool) (a b : ℕ) → can ≡ true → b ≤ (if can then max a b else a)
longer-round true a b is = omega arith
longer-round false a b is = absurd (false≢true is)

shorter-one : (can : Bool) (a b : ℕ) → ((if can then min a b else a) ≡ a) ⊎ ((can ≡ true) × ((if can then min a b else a) ≡ b))
shorter-one true a b = elim (cases_lt b a) [ inl less ↦ inr (refl, omega arith) | inr more ↦ inl (omega arith) ]
shorter-one false a b = inl refl

longer-one : (can : Bool) (a b : ℕ) → ((if can then max a b else a) ≡ a) ⊎ ((can ≡ true) × ((if can then max a b else a) ≡ b))
longer-one true a b = elim (cases_lt a b) [ inl less ↦ inr (refl, omega arith) | inr more ↦ inl (omega arith) ]
longer-one false a b = inl refl

-- an own entry can't collide
own-plain : (c : Parts) (f : ℕ) (entry : Entry) → is_own f entry ≡ true → can_collide c entry ≡ true → ⊥
own-plain c f entry own can =
    let found = colliding-event c entry can in
    false≢true (sym (ap (is_own f) found.1) ∙ own)

module _ (c : Parts) (rules : IsCluster c) (t : ℕ) (lt : t < length c.tables) (f own : ℕ) (own_lt : own < length (table_of c t))
    (own_is : is_own f (line_of c t own).entry ≡ true) where
  abbrev slots : ℕ
  slots = length (table_of c t)

  abbrev at_main : ℕ → Position
  at_main i = record { place = (t, i); back = None }

  -- the turn of a main slot, among those before the slot `own`
  record Turn (i : ℕ) : Type 0 where
    b : ℕ
    b_lt : b < slots
    is : back_from slots own (suc b) ≡ i
    next_is : back_from slots own (next (table_of c t) i) ≡ b

  back-own : back_from slots own slots ≡ own
  back-own = let far : own < slots = own_lt in omega (arith, back_from-far slots own slots far)

  turn : (i : ℕ) → i < slots → Turn i
  turn i i_lt = elim (cases_lt 0 (back_from slots own i)) [
    | inl some ↦
        let b : ℕ = back_from slots own i - 1 in
        let place_lt = back_from-lt slots own i own_lt i_lt in
        let one_more : suc b ≡ back_from slots own i = omega arith in
        let before = back_from-next (table_of c t) own i own_lt i_lt some in
        record {
          b = b;
          b_lt = omega arith;
          is = ap (back_from slots own) one_more ∙ back_from-back slots own i own_lt i_lt;
          next_is = omega (arith, before);
        }
    | inr none ↦
        let start = back_from-start (table_of c t) own i own_lt i_lt (omega arith) in
        let here : i ≡ own = start.0 in
        let all : suc (slots - 1) ≡ slots = omega (arith, own_lt) in
        record {
          b = slots - 1;
          b_lt = omega (arith, own_lt);
          is = ap (back_from slots own) all ∙ back-own ∙ sym here;
          next_is = start.1;
        }
  ]

  abbrev least : ℕ → ℕ
  least = least_before c t f own

  abbrev most : ℕ → ℕ
  most = most_before c t f own

  -- the times at a main slot, by those at the slot behind it
  least-main : (i : ℕ) → i < slots → least (back_from slots own i) ≡ least_of c f (line_of c t i) (least (back_from slots own (next (table_of c t) i)))
  least-main i i_lt = elim (cases_lt 0 (back_from slots own i)) [
    | inl some ↦
        let b : ℕ = back_from slots own i - 1 in
        let one_more : back_from slots own i ≡ suc b = omega arith in
        let before = back_from-next (table_of c t) own i own_lt i_lt some in
        let behind : back_from slots own (next (table_of c t) i) ≡ b = omega (arith, before) in
        let here : back_from slots own (suc b) ≡ i = ap (back_from slots own) (sym one_more) ∙ back_from-back slots own i own_lt i_lt in
        ap least one_more
        ∙ ap (λ (x : ℕ). least_of c f (line_of c t x) (least b)) here
        ∙ ap (λ (x : ℕ). least_of c f (line_of c t i) (least x)) (sym behind)
    | inr none ↦
        let nought : back_from slots own i ≡ 0 = omega arith in
        let start = back_from-start (table_of c t) own i own_lt i_lt nought in
        let i_own : is_own f (line_of c t i).entry ≡ true = ap (λ (x : ℕ). is_own f (line_of c t x).entry) start.0 ∙ own_is in
        ap least nought ∙ sym (least-own c f (line_of c t i) (least (back_from slots own (next (table_of c t) i))) i_own)
  ]

  most-main : (i : ℕ) → i < slots → most (back_from slots own i) ≡ most_of c f (line_of c t i) (most (back_from slots own (next (table_of c t) i)))
  most-main i i_lt = elim (cases_lt 0 (back_from slots own i)) [
    | inl some ↦
        let b : ℕ = back_from slots own i - 1 in
        let one_more : back_from slots own i ≡ suc b = omega arith in
        let before = back_from-next (table_of c t) own i own_lt i_lt some in
        let behind : back_from slots own (next (table_of c t) i) ≡ b = omega (arith, before) in
        let here : back_from slots own (suc b) ≡ i = ap (back_from slots own) (sym one_more) ∙ back_from-back slots own i own_lt i_lt in
        ap most one_more
        ∙ ap (λ (x : ℕ). most_of c f (line_of c t x) (most b)) here
        ∙ ap (λ (x : ℕ). most_of c f (line_of c t i) (most x)) (sym behind)
    | inr none ↦
        let nought : back_from slots own i ≡ 0 = omega arith in
        let start = back_from-start (table_of c t) own i own_lt i_lt nought in
        let i_own : is_own f (line_of c t i).entry ≡ true = ap (λ (x : ℕ). is_own f (line_of c t x).entry) start.0 ∙ own_is in
        ap most nought ∙ sym (most-own c f (line_of c t i) (most (back_from slots own (next (table_of c t) i))) i_own)
  ]

  -- the times at each position of a walk
  abbrev along : (ℕ → ℕ) → Position → ℕ
  along times w =
      option_map_or (λ back. next_from f (drop w.place.1 (table_of c w.place.0)) (times (back_from slots own back.1))) w.back
      (times (back_from slots own w.place.1))

  along-next : (times : ℕ → ℕ) (i : ℕ) → along times (step c (at_main i) false) ≡ times (back_from slots own (next (table_of c t) i))
  along-next times i = refl

  along-round : (times : ℕ → ℕ) (i e : ℕ) → (line_of c t i).entry ≡ Event e
      → along times (step c (at_main i) true)
      ≡ next_from f (resolving_lines c (line_of c t i).entry) (times (back_from slots own (next (table_of c t) i)))
  along-round times i e is =
      ap (along times) (step-collided c t i e is)
      ∙ ap (λ (entry : Entry). next_from f (resolving_lines c entry) (times (back_from slots own (next (table_of c t) i)))) (sym is)

  -- behind a place of an excursion
  along-beyond : (times : ℕ → ℕ) (r place : ℕ) (back : ℕ × ℕ) (collides : Bool) → place < length (table_of c r)
      → along times (step c (record { place = (r, place); back = Some back }) collides)
      ≡ next_from f (drop (suc place) (table_of c r)) (times (back_from slots own back.1))
  along-beyond times r place back collides place_lt =
      elim (cases_lt (suc place) (length (table_of c r))) [
        | inl more ↦ ap (along times) (step-inside c r place back collides more)
        | inr last ↦
            let is : suc place ≡ length (table_of c r) = omega arith in
            let none : drop (suc place) (table_of c r) ≡ [] = ap (λ (x : ℕ). drop x (table_of c r)) is ∙ drop-length (table_of c r) in
            ap (along times) (step-end c r place back collides last)
            ∙ sym (ap (λ (lines : List Line). next_from f lines (times (back_from slots own back.1))) none)
      ]

  -- at a place of an excursion
  inside-own : (r place after : ℕ) → place < length (table_of c r) → is_own f (line_of c r place).entry ≡ true
      → next_from f (drop place (table_of c r)) after ≡ 0
  inside-own r place after place_lt here =
      ap (λ (lines : List Line). next_from f lines after) (drop-cons (table_of c r) place no_line place_lt)
      ∙ next-own f (line_of c r place) (drop (suc place) (table_of c r)) after here

  inside-other : (r place after : ℕ) → place < length (table_of c r) → is_own f (line_of c r place).entry ≡ false
      → next_from f (drop place (table_of c r)) after ≡ (line_of c r place).delay_us + next_from f (drop (suc place) (table_of c r)) after
  inside-other r place after place_lt other =
      ap (λ (lines : List Line). next_from f lines after) (drop-cons (table_of c r) place no_line place_lt)
      ∙ next-other f (line_of c r place) (drop (suc place) (table_of c r)) after other

  -- ---- no gap is outside

  -- a gap from a main slot, and from a slot of the excursion that it begins
  gaps-kept : (line : Line) (low high : ℕ) (gaps : Option Extremes) (x y : ℕ) → Holds gaps x y → Holds (gaps_of c f line low high gaps) x y
  gaps-kept line low high gaps x y holds =
      elim (is_own f line.entry)
      as (λ b. Holds (if b then with_gap gaps (pair (line.delay_us + low) (line.delay_us + high))
      else if can_collide c line.entry
      then spread gaps (extremes (gaps_in f (resolving_lines c line.entry) low)) (extremes (gaps_in f (resolving_lines c line.entry) high))
      else gaps) x y) [
        | true ↦ with_gap-kept gaps (pair (line.delay_us + low) (line.delay_us + high)) x y holds
        | false ↦
            elim (can_collide c line.entry)
            as (λ b. Holds (if b
            then spread gaps (extremes (gaps_in f (resolving_lines c line.entry) low)) (extremes (gaps_in f (resolving_lines c line.entry) high))
            else gaps) x y) [
              | true ↦ spread-kept gaps (extremes (gaps_in f (resolving_lines c line.entry) low)) (extremes (gaps_in f (resolving_lines c line.entry) high)) x y holds
              | false ↦ holds
            ]
      ]

  gaps-upto : (b d x y : ℕ) → Holds (gaps_after c t f own b) x y → Holds (gaps_after c t f own (b + d)) x y
  gaps-upto b zero x y holds = subst (λ (n : ℕ). Holds (gaps_after c t f own n) x y) (let e : b ≡ b + 0 = omega arith in e) holds
  gaps-upto b (suc d) x y holds =
      let more : suc (b + d) ≡ b + suc d = omega arith in
      subst (λ (n : ℕ). Holds (gaps_after c t f own n) x y) more
      (gaps-kept (line_before c t own (suc (b + d))) (least (b + d)) (most (b + d)) (gaps_after c t f own (b + d)) x y
      (gaps-upto b d x y holds))

  gaps-all : (b x y : ℕ) → b < slots → Holds (gaps_after c t f own (suc b)) x y → Holds (gaps_after c t f own slots) x y
  gaps-all b x y b_lt holds =
      let all : suc b + (slots - suc b) ≡ slots = omega arith in
      subst (λ (n : ℕ). Holds (gaps_after c t f own n) x y) all (gaps-upto (suc b) (slots - suc b) x y holds)

  -- those of an own main slot
  gaps-main : (i : ℕ) → i < slots → is_own f (line_of c t i).entry ≡ true
      → Holds (gaps_after c t f own slots)
      ((line_of c t i).delay_us + least (back_from slots own (next (table_of c t) i)))
      ((line_of c t i).delay_us + most (back_from slots own (next (table_of c t) i)))
  gaps-main i i_lt here =
      let its : Turn i = turn i i_lt in
      let low : ℕ = (line_of c t i).delay_us + least its.b in
      let high : ℕ = (line_of c t i).delay_us + most its.b in
      let former : Option Extremes = gaps_after c t f own its.b in
      let of_i : gaps_of c f (line_of c t i) (least its.b) (most its.b) former ≡ with_gap former (pair low high) =
      ap (λ (b : Bool). if b then with_gap former (pair low high)
      else if can_collide c (line_of c t i).entry
      then spread former (extremes (gaps_in f (resolving_lines c (line_of c t i).entry) (least its.b))) (extremes (gaps_in f (resolving_lines c (line_of c t i).entry) (most its.b)))
      else former) here in
      let is : gaps_after c t f own (suc its.b) ≡ with_gap former (pair low high) =
      ap (λ (x : ℕ). gaps_of c f (line_of c t x) (least its.b) (most its.b) former) its.is ∙ of_i in
      subst (λ (b : ℕ). Holds (gaps_after c t f own slots) ((line_of c t i).delay_us + least b) ((line_of c t i).delay_us + most b)) (sym its.next_is)
      (gaps-all its.b low high its.b_lt
      (subst (λ (gaps : Option Extremes). Holds gaps low high) (sym is) (with_gap-new former low high)))

  -- those of an own slot of a resolving table
  gaps-round : (j : ℕ) → j < slots → can_collide c (line_of c t j).entry ≡ true → (place : ℕ)
      → place < length (resolving_lines c (line_of c t j).entry) → is_own f (get_or (resolving_lines c (line_of c t j).entry) place no_line).entry ≡ true
      → Holds (gaps_after c t f own slots)
      (gap_at f (resolving_lines c (line_of c t j).entry) place (least (back_from slots own (next (table_of c t) j))))
      (gap_at f (resolving_lines c (line_of c t j).entry) place (most (back_from slots own (next (table_of c t) j))))
  gaps-round j j_lt can place place_lt here =
      let its : Turn j = turn j j_lt in
      let entry : Entry = (line_of c t j).entry in
      let lines : List Line = resolving_lines c entry in
      let low : ℕ = gap_at f lines place (least its.b) in
      let high : ℕ = gap_at f lines place (most its.b) in
      let former : Option Extremes = gaps_after c t f own its.b in
      let lows : Option Extremes = extremes (gaps_in f lines (least its.b)) in
      let highs : Option Extremes = extremes (gaps_in f lines (most its.b)) in
      let plain : is_own f entry ≡ false = ap (is_own f) (colliding-event c entry can).1 in
      let of_j : gaps_of c f (line_of c t j) (least its.b) (most its.b) former ≡ spread former lows highs =
      ap (λ (b : Bool). if b then with_gap former (pair ((line_of c t j).delay_us + least its.b) ((line_of c t j).delay_us + most its.b))
      else if can_collide c entry then spread former lows highs else former) plain
      ∙ ap (λ (b : Bool). if b then spread former lows highs else former) can in
      let is : gaps_after c t f own (suc its.b) ≡ spread former lows highs =
      ap (λ (x : ℕ). gaps_of c f (line_of c t x) (least its.b) (most its.b) former) its.is ∙ of_j in
      subst (λ (b : ℕ). Holds (gaps_after c t f own slots) (gap_at f lines place (least b)) (gap_at f lines place (most b))) (sym its.next_is)
      (gaps-all its.b low high its.b_lt
      (subst (λ (gaps : Option Extremes). Holds gaps low high) (sym is)
      (spread-new former lows highs low high low high (inside-within f lines place (least its.b) place_lt here)
      (inside-within f lines place (most its.b) place_lt here))))

  module _ (found : Extremes) (is : gaps_after c t f own slots ≡ Some found) where
    low-of : (x y : ℕ) → Holds (gaps_after c t f own slots) x y → found.shortest ≤ x
    low-of x y holds =
        let same : found.shortest ≡ holds.found.shortest = ap (λ (e : Extremes). e.shortest) (some-same found holds.found (sym is ∙ holds.is)) in
        let low = holds.low in
        omega arith

    high-of : (x y : ℕ) → Holds (gaps_after c t f own slots) x y → y ≤ found.longest
    high-of x y holds =
        let same : found.longest ≡ holds.found.longest = ap (λ (e : Extremes). e.longest) (some-same found holds.found (sym is ∙ holds.is)) in
        let high = holds.high in
        omega arith

    here-at : (w : Position) → IsOnWalk c t w → is_own f (line_at c w).entry ≡ true → (along least w ≡ 0) × (along most w ≡ 0)
    here-at w (main i i_lt) here = (
      least-main i i_lt ∙ least-own c f (line_of c t i) (least (back_from slots own (next (table_of c t) i))) here,
      most-main i i_lt ∙ most-own c f (line_of c t i) (most (back_from slots own (next (table_of c t) i))) here,
    )
    here-at w (inside j e place j_lt event can place_lt) here =
        let r : ℕ = (event_of c e).table in (
          inside-own r place (least (back_from slots own (next (table_of c t) j))) place_lt here,
          inside-own r place (most (back_from slots own (next (table_of c t) j))) place_lt here,
        )

    least-in : (w : Position) → IsOnWalk c t w → (collides : Bool) → IsFree c w collides → is_own f (line_at c w).entry ≡ false
        → along least w ≤ (line_at c w).delay_us + along least (step c w collides)
    least-in w (main i i_lt) false free other =
        let behind : ℕ = least (back_from slots own (next (table_of c t) i)) in
        let is_here = least-main i i_lt ∙ least-other c f (line_of c t i) behind other in
        let short = shorter-straight (can_collide c (line_of c t i).entry) behind (next_from f (resolving_lines c (line_of c t i).entry) behind) in
        omega (arith, is_here, short, along-next least i)
    least-in w (main i i_lt) true free other =
        let behind : ℕ = least (back_from slots own (next (table_of c t) i)) in
        let is_here = least-main i i_lt ∙ least-other c f (line_of c t i) behind other in
        let short = shorter-round (can_collide c (line_of c t i).entry) behind (next_from f (resolving_lines c (line_of c t i).entry) behind) (free refl) in
        let event = colliding-event c (line_of c t i).entry (free refl) in
        omega (arith, is_here, short, along-round least i event.0 event.1)
    least-in w (inside j e place j_lt event can place_lt) collides free other =
        let r : ℕ = (event_of c e).table in
        let back : ℕ × ℕ = (t, next (table_of c t) j) in
        let behind : ℕ = least (back_from slots own back.1) in
        omega (arith, inside-other r place behind place_lt other, along-beyond least r place back collides place_lt)

    most-in : (w : Position) → IsOnWalk c t w → (collides : Bool) → IsFree c w collides → is_own f (line_at c w).entry ≡ false
        → (line_at c w).delay_us + along most (step c w collides) ≤ along most w
    most-in w (main i i_lt) false free other =
        let behind : ℕ = most (back_from slots own (next (table_of c t) i)) in
        let is_here = most-main i i_lt ∙ most-other c f (line_of c t i) behind other in
        let long = longer-straight (can_collide c (line_of c t i).entry) behind (next_from f (resolving_lines c (line_of c t i).entry) behind) in
        omega (arith, is_here, long, along-next most i)
    most-in w (main i i_lt) true free other =
        let behind : ℕ = most (back_from slots own (next (table_of c t) i)) in
        let is_here = most-main i i_lt ∙ most-other c f (line_of c t i) behind other in
        let long = longer-round (can_collide c (line_of c t i).entry) behind (next_from f (resolving_lines c (line_of c t i).entry) behind) (free refl) in
        let event = colliding-event c (line_of c t i).entry (free refl) in
        omega (arith, is_here, long, along-round most i event.0 event.1)
    most-in w (inside j e place j_lt event can place_lt) collides free other =
        let r : ℕ = (event_of c e).table in
        let back : ℕ × ℕ = (t, next (table_of c t) j) in
        let behind : ℕ = most (back_from slots own back.1) in
        omega (arith, inside-other r place behind place_lt other, along-beyond most r place back collides place_lt)

    -- an own slot of an excursion
    round-of : (j e place : ℕ) → j < slots → (line_of c t j).entry ≡ Event e → can_collide c (Event e) ≡ true
        → place < length (table_of c (event_of c e).table) → is_own f (line_of c (event_of c e).table place).entry ≡ true
        → Holds (gaps_after c t f own slots)
        (gap_at f (table_of c (event_of c e).table) place (least (back_from slots own (next (table_of c t) j))))
        (gap_at f (table_of c (event_of c e).table) place (most (back_from slots own (next (table_of c t) j))))
    round-of j e place j_lt event can place_lt here =
        let lines_are : resolving_lines c (line_of c t j).entry ≡ table_of c (event_of c e).table = ap (resolving_lines c) event in
        subst (λ (lines : List Line). Holds (gaps_after c t f own slots)
        (gap_at f lines place (least (back_from slots own (next (table_of c t) j))))
        (gap_at f lines place (most (back_from slots own (next (table_of c t) j))))) lines_are
        (gaps-round j j_lt (ap (can_collide c) event ∙ can) place
        (subst (λ (lines : List Line). place < length lines) (sym lines_are) place_lt)
        (subst (λ (lines : List Line). is_own f (get_or lines place no_line).entry ≡ true) (sym lines_are) here))

    shortest-in : (w : Position) → IsOnWalk c t w → (collides : Bool) → IsFree c w collides → is_own f (line_at c w).entry ≡ true
        → found.shortest ≤ (line_at c w).delay_us + along least (step c w collides)
    shortest-in w (main i i_lt) false free here =
        low-of ((line_of c t i).delay_us + least (back_from slots own (next (table_of c t) i)))
        ((line_of c t i).delay_us + most (back_from slots own (next (table_of c t) i))) (gaps-main i i_lt here)
    shortest-in w (main i i_lt) true free here = absurd (own-plain c f (line_of c t i).entry here (free refl))
    shortest-in w (inside j e place j_lt event can place_lt) collides free here =
        let r : ℕ = (event_of c e).table in
        let back : ℕ × ℕ = (t, next (table_of c t) j) in
        let low = low-of (gap_at f (table_of c r) place (least (back_from slots own back.1))) (gap_at f (table_of c r) place (most (back_from slots own back.1)))
        (round-of j e place j_lt event can place_lt here) in
        omega (arith, low, along-beyond least r place back collides place_lt)

    longest-in : (w : Position) → IsOnWalk c t w → (collides : Bool) → IsFree c w collides → is_own f (line_at c w).entry ≡ true
        → (line_at c w).delay_us + along most (step c w collides) ≤ found.longest
    longest-in w (main i i_lt) false free here =
        high-of ((line_of c t i).delay_us + least (back_from slots own (next (table_of c t) i)))
        ((line_of c t i).delay_us + most (back_from slots own (next (table_of c t) i))) (gaps-main i i_lt here)
    longest-in w (main i i_lt) true free here = absurd (own-plain c f (line_of c t i).entry here (free refl))
    longest-in w (inside j e place j_lt event can place_lt) collides free here =
        let r : ℕ = (event_of c e).table in
        let back : ℕ × ℕ = (t, next (table_of c t) j) in
        let high = high-of (gap_at f (table_of c r) place (least (back_from slots own back.1))) (gap_at f (table_of c r) place (most (back_from slots own back.1)))
        (round-of j e place j_lt event can place_lt here) in
        omega (arith, high, along-beyond most r place back collides place_lt)

    within : AreBounds c rules t lt f (along least) (along most) found.shortest found.longest
    within = record {
      here = here-at;
      least_in = least-in;
      most_in = most-in;
      shortest_in = shortest-in;
      longest_in = longest-in;
    }

  -- ---- walks have the shortest and the longest one

  -- on from a main slot, straight and through the resolving table
  path-straight : (i time : ℕ) → i < slots → is_own f (line_of c t i).entry ≡ false → Path c f (at_main (next (table_of c t) i)) time
      → Path c f (at_main i) ((line_of c t i).delay_us + time)
  path-straight i time i_lt other path = onward (at_main i) false time (λ no. absurd (false≢true no)) other path

  path-own : (w : Position) (time : ℕ) → is_own f (line_at c w).entry ≡ true → time ≡ 0 → Path c f w time
  path-own w time here none = subst (Path c f w) (sym none) (arrived w here)

  -- inside an excursion
  path-here : (e place after : ℕ) (back : ℕ × ℕ) → place < length (table_of c (event_of c e).table)
      → Path c f (step c (record { place = ((event_of c e).table, place); back = Some back }) false)
      (next_from f (drop (suc place) (table_of c (event_of c e).table)) after)
      → Path c f (record { place = ((event_of c e).table, place); back = Some back }) (next_from f (drop place (table_of c (event_of c e).table)) after)
  path-here e place after back place_lt behind =
      let r : ℕ = (event_of c e).table in
      let w : Position = record { place = (r, place); back = Some back } in
      elim (cases_Bool (is_own f (line_of c r place).entry)) [
        | inl here ↦ path-own w (next_from f (drop place (table_of c r)) after) here (inside-own r place after place_lt here)
        | inr other ↦
            subst (Path c f w) (sym (inside-other r place after place_lt other))
            (onward w false (next_from f (drop (suc place) (table_of c r)) after) (λ no. absurd (false≢true no)) other behind)
      ]

  path-behind : (m e place after : ℕ) (back : ℕ × ℕ) → place + suc m ≡ length (table_of c (event_of c e).table)
      → Path c f (record { place = back; back = None }) after
      → Path c f (step c (record { place = ((event_of c e).table, place); back = Some back }) false)
      (next_from f (drop (suc place) (table_of c (event_of c e).table)) after)
  path-behind zero e place after back many path =
      let r : ℕ = (event_of c e).table in
      let is : suc place ≡ length (table_of c r) = omega (arith, many) in
      let none : drop (suc place) (table_of c r) ≡ [] = ap (λ (x : ℕ). drop x (table_of c r)) is ∙ drop-length (table_of c r) in
      let end : step c (record { place = (r, place); back = Some back }) false ≡ record { place = back; back = None } =
      step-end c r place back false (omega (arith, is)) in
      subst (λ (w : Position). Path c f w (next_from f (drop (suc place) (table_of c r)) after)) (sym end)
      (subst (λ (lines : List Line). Path c f (record { place = back; back = None }) (next_from f lines after)) (sym none) path)
  path-behind (suc m) e place after back many path =
      let r : ℕ = (event_of c e).table in
      let on : step c (record { place = (r, place); back = Some back }) false ≡ record { place = (r, suc place); back = Some back } =
      step-inside c r place back false (omega (arith, many)) in
      subst (λ (w : Position). Path c f w (next_from f (drop (suc place) (table_of c r)) after)) (sym on)
      (path-here e (suc place) after back (omega (arith, many)) (path-behind m e (suc place) after back (omega (arith, many)) path))

  -- from the start of the resolving table
  path-round : (i after : ℕ) → i < slots → can_collide c (line_of c t i).entry ≡ true
      → Path c f (at_main (next (table_of c t) i)) after
      → Path c f (step c (at_main i) true) (next_from f (resolving_lines c (line_of c t i).entry) after)
  path-round i after i_lt can path =
      let event = colliding-event c (line_of c t i).entry can in
      let e : ℕ = event.0 in
      let r : ℕ = (event_of c e).table in
      let there = event-there c rules t i e lt i_lt event.1 in
      let some = (table-length c rules r (event-table c rules e there)).0 in
      let lines_are : resolving_lines c (line_of c t i).entry ≡ table_of c r = ap (resolving_lines c) event.1 in
      subst (λ (w : Position). Path c f w (next_from f (resolving_lines c (line_of c t i).entry) after)) (sym (step-collided c t i e event.1))
      (subst (λ (lines : List Line). Path c f (record { place = (r, 0); back = Some (t, next (table_of c t) i) }) (next_from f lines after)) (sym lines_are)
      (path-here e 0 after (t, next (table_of c t) i) some
      (path-behind (length (table_of c r) - 1) e 0 after (t, next (table_of c t) i) (omega (arith, some)) path)))

  -- the slot that a time before the slot `own` stands for
  behind-of : (b : ℕ) → suc b < slots → back_from slots own (next (table_of c t) (back_from slots own (suc b))) ≡ b
  behind-of b b_lt =
      let i : ℕ = back_from slots own (suc b) in
      let i_lt = back_from-lt slots own (suc b) own_lt b_lt in
      let its : back_from slots own i ≡ suc b = back_from-back slots own (suc b) own_lt b_lt in
      let before = back_from-next (table_of c t) own i own_lt i_lt (omega (arith, its)) in
      omega (arith, before, its)

  next-of : (b : ℕ) → suc b < slots → next (table_of c t) (back_from slots own (suc b)) ≡ back_from slots own b
  next-of b b_lt =
      let i : ℕ = back_from slots own (suc b) in
      let i_lt = back_from-lt slots own (suc b) own_lt b_lt in
      sym (back_from-back slots own (next (table_of c t) i) own_lt (next-lt (table_of c t) i i_lt)) ∙ ap (back_from slots own) (behind-of b b_lt)

  path-start : Path c f (at_main (back_from slots own 0)) 0
  path-start =
      let here : back_from slots own 0 ≡ own = omega (arith, back_from-near slots own 0 (omega arith)) in
      path-own (at_main (back_from slots own 0)) 0 (ap (λ (x : ℕ). is_own f (line_of c t x).entry) here ∙ own_is) refl

  path-least : (b : ℕ) → b < slots → Path c f (at_main (back_from slots own b)) (least b)
  path-least zero b_lt = path-start
  path-least (suc b) b_lt =
      let i : ℕ = back_from slots own (suc b) in
      let line : Line = line_of c t i in
      let i_lt = back_from-lt slots own (suc b) own_lt b_lt in
      let round : ℕ = next_from f (resolving_lines c line.entry) (least b) in
      let behind : Path c f (at_main (next (table_of c t) i)) (least b) =
      subst (λ (x : ℕ). Path c f (at_main x) (least b)) (sym (next-of b b_lt)) (path-least b (omega arith)) in
      elim (cases_Bool (is_own f line.entry)) [
        | inl here ↦ path-own (at_main i) (least (suc b)) here (least-own c f line (least b) here)
        | inr other ↦ elim (shorter-one (can_collide c line.entry) (least b) round) [
          | inl straight ↦
              subst (Path c f (at_main i)) (sym (least-other c f line (least b) other ∙ ap (λ (x : ℕ). line.delay_us + x) straight))
              (path-straight i (least b) i_lt other behind)
          | inr turned ↦
              subst (Path c f (at_main i)) (sym (least-other c f line (least b) other ∙ ap (λ (x : ℕ). line.delay_us + x) turned.1))
              (onward (at_main i) true round (λ yes. turned.0) other (path-round i (least b) i_lt turned.0 behind))
        ]
      ]

  path-most : (b : ℕ) → b < slots → Path c f (at_main (back_from slots own b)) (most b)
  path-most zero b_lt = path-start
  path-most (suc b) b_lt =
      let i : ℕ = back_from slots own (suc b) in
      let line : Line = line_of c t i in
      let i_lt = back_from-lt slots own (suc b) own_lt b_lt in
      let round : ℕ = next_from f (resolving_lines c line.entry) (most b) in
      let behind : Path c f (at_main (next (table_of c t) i)) (most b) =
      subst (λ (x : ℕ). Path c f (at_main x) (most b)) (sym (next-of b b_lt)) (path-most b (omega arith)) in
      elim (cases_Bool (is_own f line.entry)) [
        | inl here ↦ path-own (at_main i) (most (suc b)) here (most-own c f line (most b) here)
        | inr other ↦ elim (longer-one (can_collide c line.entry) (most b) round) [
          | inl straight ↦
              subst (Path c f (at_main i)) (sym (most-other c f line (most b) other ∙ ap (λ (x : ℕ). line.delay_us + x) straight))
              (path-straight i (most b) i_lt other behind)
          | inr turned ↦
              subst (Path c f (at_main i)) (sym (most-other c f line (most b) other ∙ ap (λ (x : ℕ). line.delay_us + x) turned.1))
              (onward (at_main i) true round (λ yes. turned.0) other (path-round i (most b) i_lt turned.0 behind))
        ]
      ]

  -- ---- gaps that walks have

  abbrev AreMet : Option Extremes → Type 0
  AreMet gaps = (found : Extremes) → gaps ≡ Some found → IsGap c t f found.shortest × IsGap c t f found.longest

  met-one : (gap g : ℕ) → IsGap c t f gap → gap ≡ g → IsGap c t f g
  met-one gap g is same = subst (IsGap c t f) same is

  met-none : AreMet None
  met-none found is = absurd (none-some found is)

  met-with : (gaps : Option Extremes) (x y : ℕ) → AreMet gaps → IsGap c t f x → IsGap c t f y → AreMet (with_gap gaps (pair x y))
  met-with None x y met is_x is_y found is =
      let same : pair x y ≡ found = some-same (pair x y) found is in
      (met-one x found.shortest is_x (ap (λ (e : Extremes). e.shortest) same), met-one y found.longest is_y (ap (λ (e : Extremes). e.longest) same))
  met-with (Some g) x y met is_x is_y found is =
      let former = met g refl in
      let same : pair (min g.shortest x) (max g.longest y) ≡ found = some-same (pair (min g.shortest x) (max g.longest y)) found is in
      let low : min g.shortest x ≡ found.shortest = ap (λ (e : Extremes). e.shortest) same in
      let high : max g.longest y ≡ found.longest = ap (λ (e : Extremes). e.longest) same in (
        elim (cases_lt g.shortest x) [
          | inl less ↦ met-one g.shortest found.shortest former.0 (omega (arith, low))
          | inr more ↦ met-one x found.shortest is_x (omega (arith, low))
        ],
        elim (cases_lt g.longest y) [
          | inl less ↦ met-one y found.longest is_y (omega (arith, high))
          | inr more ↦ met-one g.longest found.longest former.1 (omega (arith, high))
        ],
      )

  met-spread : (gaps low high : Option Extremes) → AreMet gaps → AreMet low → AreMet high → AreMet (spread gaps low high)
  met-spread gaps (Some low) (Some high) met below above =
      met-with gaps low.shortest high.longest met (below low refl).0 (above high refl).1
  met-spread gaps (Some low) None met below above = met
  met-spread gaps None high met below above = met

  -- those of the slots of an excursion from a main slot
  met-inside : (m j e place after : ℕ) → j < slots → (line_of c t j).entry ≡ Event e → can_collide c (Event e) ≡ true
      → place + m ≡ length (table_of c (event_of c e).table) → Path c f (at_main (next (table_of c t) j)) after
      → AreMet (extremes (gaps_in f (drop place (table_of c (event_of c e).table)) after))
  met-inside zero j e place after j_lt event can many path =
      let lines : List Line = table_of c (event_of c e).table in
      let all : place ≡ length lines = omega (arith, many) in
      let none : drop place lines ≡ [] = ap (λ (x : ℕ). drop x lines) all ∙ drop-length lines in
      subst (λ (xs : List Line). AreMet (extremes (gaps_in f xs after))) (sym none) met-none
  met-inside (suc m) j e place after j_lt event can many path =
      let r : ℕ = (event_of c e).table in
      let lines : List Line = table_of c r in
      let line : Line = line_of c r place in
      let rest : List Line = drop (suc place) lines in
      let back : ℕ × ℕ = (t, next (table_of c t) j) in
      let w : Position = record { place = (r, place); back = Some back } in
      let place_lt : place < length lines = omega (arith, many) in
      let later : AreMet (extremes (gaps_in f rest after)) = met-inside m j e (suc place) after j_lt event can (omega (arith, many)) path in
      subst (λ (xs : List Line). AreMet (extremes (gaps_in f xs after))) (sym (drop-cons lines place no_line place_lt))
      (elim (cases_Bool (is_own f line.entry)) [
        | inl here ↦
            let gap : ℕ = line.delay_us + next_from f rest after in
            let is : IsGap c t f gap =
            gap-met c rules t lt f w (inside j e place j_lt event can place_lt) here false (λ no. absurd (false≢true no)) (next_from f rest after)
            (path-behind m e place after back many path) in
            subst (λ (times : List ℕ). AreMet (extremes times)) (sym (gaps-own f line rest after here))
            (met-with (extremes (gaps_in f rest after)) gap gap later is is)
        | inr other ↦ subst (λ (times : List ℕ). AreMet (extremes times)) (sym (gaps-other f line rest after other)) later
      ])

  met-round : (i after : ℕ) → i < slots → can_collide c (line_of c t i).entry ≡ true → Path c f (at_main (next (table_of c t) i)) after
      → AreMet (extremes (gaps_in f (resolving_lines c (line_of c t i).entry) after))
  met-round i after i_lt can path =
      let event = colliding-event c (line_of c t i).entry can in
      let e : ℕ = event.0 in
      let lines : List Line = table_of c (event_of c e).table in
      let lines_are : resolving_lines c (line_of c t i).entry ≡ lines = ap (resolving_lines c) event.1 in
      subst (λ (xs : List Line). AreMet (extremes (gaps_in f xs after))) (sym lines_are)
      (met-inside (length lines) i e 0 after i_lt event.1 (sym (ap (can_collide c) event.1) ∙ can) (omega arith) path)

  met-main : (i low high : ℕ) (gaps : Option Extremes) → i < slots → Path c f (at_main (next (table_of c t) i)) low
      → Path c f (at_main (next (table_of c t) i)) high → AreMet gaps → AreMet (gaps_of c f (line_of c t i) low high gaps)
  met-main i low high gaps i_lt low_path high_path met =
      let line : Line = line_of c t i in
      let lines : List Line = resolving_lines c line.entry in
      let lows : Option Extremes = extremes (gaps_in f lines low) in
      let highs : Option Extremes = extremes (gaps_in f lines high) in
      let own_gaps : Option Extremes = with_gap gaps (pair (line.delay_us + low) (line.delay_us + high)) in
      let on : IsOnWalk c t (at_main i) = main i i_lt in
      elim (cases_Bool (is_own f line.entry)) [
        | inl here ↦
            let is : gaps_of c f line low high gaps ≡ own_gaps =
            ap (λ (b : Bool). if b then own_gaps else if can_collide c line.entry then spread gaps lows highs else gaps) here in
            subst AreMet (sym is)
            (met-with gaps (line.delay_us + low) (line.delay_us + high) met
            (gap-met c rules t lt f (at_main i) on here false (λ no. absurd (false≢true no)) low low_path)
            (gap-met c rules t lt f (at_main i) on here false (λ no. absurd (false≢true no)) high high_path))
        | inr other ↦
            let plain : gaps_of c f line low high gaps ≡ (if can_collide c line.entry then spread gaps lows highs else gaps) =
            ap (λ (b : Bool). if b then own_gaps else if can_collide c line.entry then spread gaps lows highs else gaps) other in
            elim (cases_Bool (can_collide c line.entry)) [
              | inl can ↦
                  subst AreMet (sym (plain ∙ ap (λ (b : Bool). if b then spread gaps lows highs else gaps) can))
                  (met-spread gaps lows highs met (met-round i low i_lt can low_path) (met-round i high i_lt can high_path))
              | inr cannot ↦ subst AreMet (sym (plain ∙ ap (λ (b : Bool). if b then spread gaps lows highs else gaps) cannot)) met
            ]
      ]

  -- the slot behind the main slot that is b + 1 before the slot `own`
  slot-before : (b : ℕ) → b < slots → (back_from slots own (suc b) < slots) × (next (table_of c t) (back_from slots own (suc b)) ≡ back_from slots own b)
  slot-before b b_lt = elim (cases_lt (suc b) slots) [
    | inl inner ↦ (back_from-lt slots own (suc b) own_lt inner, next-of b inner)
    | inr outer ↦
        let all : suc b ≡ slots = omega arith in
        let here : back_from slots own (suc b) ≡ own = ap (back_from slots own) all ∙ back-own in
        let nought : back_from slots own own ≡ 0 = omega (arith, back_from-near slots own own (omega arith)) in
        let start = back_from-start (table_of c t) own own own_lt own_lt nought in
        let behind : back_from slots own (next (table_of c t) own) ≡ b = omega (arith, start.1, all) in (
          omega (arith, here, own_lt),
          ap (next (table_of c t)) here
              ∙ sym (back_from-back slots own (next (table_of c t) own) own_lt (next-lt (table_of c t) own own_lt))
              ∙ ap (back_from slots own) behind,
        )
  ]

  met : (b : ℕ) → b ≤ slots → AreMet (gaps_after c t f own b)
  met zero le = met-none
  met (suc b) le =
      let place = slot-before b (omega arith) in
      let low : Path c f (at_main (next (table_of c t) (back_from slots own (suc b)))) (least b) =
      subst (λ (x : ℕ). Path c f (at_main x) (least b)) (sym place.1) (path-least b (omega arith)) in
      let high : Path c f (at_main (next (table_of c t) (back_from slots own (suc b)))) (most b) =
      subst (λ (x : ℕ). Path c f (at_main x) (most b)) (sym place.1) (path-most b (omega arith)) in
      met-main (back_from slots own (suc b)) (least b) (most b) (gaps_after c t f own b) place.0 low high (met b (omega arith))

  -- ---- the shortest and the longest one

  are-gaps : (found : Extremes) → gaps_after c t f own slots ≡ Some found → AreGaps c t f found.shortest found.longest
  are-gaps found is =
      let both = met slots (omega arith) found is in
      record {
        shortest_met = both.0;
        longest_met = both.1;
        bounds = gaps-within c rules t lt f (along least) (along most) found.shortest found.longest (within found is);
      }

  -- there is one, that of the slot `own` at least
  some-gap : gaps_after c t f own slots ≡ None → ⊥
  some-gap none =
      let holds = gaps-main own own_lt own_is in
      none-some holds.found (sym none ∙ holds.is)

  -- so they are what was asked for
  pub answered : (gaps : Option Extremes) → gaps ≡ gaps_after c t f own slots
      → MatchOption gaps (HasNoOwn c t f) (λ times. AreGaps c t f times.shortest times.longest)
  answered None is = absurd (some-gap (sym is))
  answered (Some found) is = are-gaps found (sym is)
