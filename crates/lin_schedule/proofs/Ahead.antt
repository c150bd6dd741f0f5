-- The times ahead of the slots of a walk.
use Rattle.std.proofs.Common.{◌≡◌, ℕ, zero, suc, ◌+◌, ◌-◌, ◌<◌, ◌≤◌, max, Bool, true, false, List, [], ◌∷◌, length, Some, None, refl, ap, sym, ◌∙◌, arith, inl, inr, drop, ◌⊎◌}
use Rattle.std.specs.Prelude.{if◌then◌else◌, ◌&&◌, not}
use Rattle.std.specs.Option.{option_map_or}
use Rattle.std.proofs.lemmas.Bool.{cases_lt, false≢true}
use Rattle.std.proofs.Math.Nat.{le-max_left, le-max_right}
use Rattle.std.proofs.Math.Seq.{drop-cons, drop-length}
use Rattle.lin_parts.specs.Cluster.{event_of, table_of, line_of}
use Rattle.lin_parts.specs.Rules.{IsCluster}
use Rattle.lin_parts.specs.declared.parts.Parts.{Parts}
use Rattle.lin_parts.specs.declared.parts.Line.{Line}
use Rattle.lin_parts.specs.declared.parts.Entry.{Entry}
use Rattle.lin_parts.specs.declared.parts.Entry.TheVariants.{Event}
use Rattle.lin_schedule.specs.Ahead.{left, through, resolving_lines, AreTimesAhead}
use Rattle.lin_schedule.specs.Carriers.{Carriers, carries, can_collide}
use Rattle.lin_schedule.specs.Walker.{Position}
use Rattle.lin_schedule.proofs.Steps.{step, IsOnWalk, main, inside, IsFree, step-collided, step-inside, step-end, resolving-plain, event-there, colliding-event}
use Rattle.lin_schedule.proofs.Times.{next, next-lt, no_line}

-- the line of the slot at a position
abbrev pub line_at : Parts → Position → Line
line_at c w = line_of c w.place.0 w.place.1

-- from the start of the slot at a position to the end of the n-th slot that carries, where this is
-- known of the main slots
abbrev pub ahead : Parts → Carriers → (ℕ → ℕ → ℕ) → Position → ℕ → ℕ
ahead c k times w n =
    option_map_or (λ back. through k (drop w.place.1 (table_of c w.place.0)) n (times back.1)) w.back (times w.place.1 n)

-- how many carrying slots are still wanted after a slot
abbrev pub remaining : Carriers → Entry → Bool → ℕ → ℕ
remaining k entry collides n = if carries k entry && not collides then n - 1 else n

remaining-free : (k : Carriers) (entry : Entry) (n : ℕ) → remaining k entry false n ≡ left k entry n
remaining-free k entry n = elim (carries k entry) as (λ b. (if b && not false then n - 1 else n) ≡ (if b then n - 1 else n)) [ true ↦ refl | false ↦ refl ]

remaining-collided : (k : Carriers) (entry : Entry) (n : ℕ) → remaining k entry true n ≡ n
remaining-collided k entry n = elim (carries k entry) as (λ b. (if b && not true then n - 1 else n) ≡ n) [ true ↦ refl | false ↦ refl ]

-- the longer way where there are two
longer-straight : (can : Bool) (a b : ℕ) → a ≤ (if can then max a b else a)
longer-straight true a b = le-max_left a b
longer-straight false a b = omega arith

longer-round : (can : Bool) (a b : ℕ) → can ≡ true → b ≤ (if can then max a b else a)
longer-round true a b is = le-max_right a b
longer-round false a b is = absurd (false≢true is)

longer-one : (can : Bool) (a b : ℕ) → ((if can then max a b else a) ≡ a) ⊎ ((can ≡ true) × ((if can then max a b else a) ≡ b))
longer-one true a b = elim (cases_lt a b) [ inl less ↦ inr (refl, grind arith) | inr more ↦ inl (grind arith) ]
longer-one false a b = inl refl

module _ (c : Parts) (rules : IsCluster c) (t : ℕ) (lt : t < length c.tables) (k : Carriers) (most : ℕ) (times : ℕ → ℕ → ℕ)
    (known : AreTimesAhead c t k most times) where
  -- the way over the next main slot, and the way through an excursion
  ahead-next : (i n : ℕ) → ahead c k times (step c (record { place = (t, i); back = None }) false) n ≡ times (next (table_of c t) i) n
  ahead-next i n = refl

  pub ahead-round : (i n e : ℕ) → (line_of c t i).entry ≡ Event e
      → ahead c k times (step c (record { place = (t, i); back = None }) true) n
      ≡ through k (resolving_lines c (line_of c t i).entry) n (times (next (table_of c t) i))
  ahead-round i n e is =
      ap (λ w. ahead c k times w n) (step-collided c t i e is)
      ∙ ap (λ (entry : Entry). through k (resolving_lines c entry) n (times (next (table_of c t) i))) (sym is)

  -- behind a place of an excursion
  pub ahead-beyond : (r place m : ℕ) (back : ℕ × ℕ) (collides : Bool) → place < length (table_of c r)
      → ahead c k times (step c (record { place = (r, place); back = Some back }) collides) m
      ≡ through k (drop (suc place) (table_of c r)) m (times back.1)
  ahead-beyond r place m back collides place_lt =
      elim (cases_lt (suc place) (length (table_of c r))) [
        | inl more ↦ ap (λ w. ahead c k times w m) (step-inside c r place back collides more)
        | inr last ↦
            let is : suc place ≡ length (table_of c r) = omega arith in
            let none : drop (suc place) (table_of c r) ≡ [] = ap (λ (x : ℕ). drop x (table_of c r)) is ∙ drop-length (table_of c r) in
            ap (λ w. ahead c k times w m) (step-end c r place back collides last)
            ∙ sym (ap (λ (lines : List Line). through k lines m (times back.1)) none)
      ]

  -- a place of an excursion
  ahead-inside : (r place n : ℕ) (back : ℕ × ℕ) (collides : Bool) → place < length (table_of c r) → 1 ≤ n
      → ahead c k times (record { place = (r, place); back = Some back }) n
      ≡ (line_of c r place).delay_us
      + ahead c k times (step c (record { place = (r, place); back = Some back }) collides) (left k (line_of c r place).entry n)
  ahead-inside r place zero back collides place_lt some = absurd (omega arith)
  ahead-inside r place (suc n) back collides place_lt some =
      ap (λ (lines : List Line). through k lines (suc n) (times back.1)) (drop-cons (table_of c r) place no_line place_lt)
      ∙ ap (λ (x : ℕ). (line_of c r place).delay_us + x)
      (sym (ahead-beyond r place (left k (line_of c r place).entry (suc n)) back collides place_lt))

  -- no way is longer
  pub ahead-most : (w : Position) → IsOnWalk c t w → (n : ℕ) → 1 ≤ n → n ≤ most → (collides : Bool) → IsFree c w collides
      → (line_at c w).delay_us + ahead c k times (step c w collides) (remaining k (line_at c w).entry collides n) ≤ ahead c k times w n
  ahead-most w (main i i_lt) n some few false free =
      let next_times : ℕ → ℕ = times (next (table_of c t) i) in
      let entry : Entry = (line_of c t i).entry in
      let longer = longer-straight (can_collide c entry) (next_times (left k entry n)) (through k (resolving_lines c entry) n next_times) in
      rw (remaining-free k entry n, known.ahead i n i_lt some few) (omega arith)
  ahead-most w (main i i_lt) n some few true free =
      let next_times : ℕ → ℕ = times (next (table_of c t) i) in
      let entry : Entry = (line_of c t i).entry in
      let found = colliding-event c entry (free refl) in
      let longer = longer-round (can_collide c entry) (next_times (left k entry n)) (through k (resolving_lines c entry) n next_times) (free refl) in
      rw (remaining-collided k entry n, ahead-round i n found.0 found.1, known.ahead i n i_lt some few) (omega arith)
  ahead-most w (inside j e place j_lt is can place_lt) n some few true free =
      absurd (false≢true (sym (resolving-plain c rules e (event-there c rules t j e lt j_lt is) place place_lt) ∙ free refl))
  ahead-most w (inside j e place j_lt is can place_lt) n some few false free =
      let entry : Entry = (line_of c (event_of c e).table place).entry in
      let same = ahead-inside (event_of c e).table place n (t, next (table_of c t) j) false place_lt some in
      rw (remaining-free k entry n) (omega (arith, same))

  -- one way is as long
  pub record Way (w : Position) (n : ℕ) : Type 0 where
    pub collides : Bool
    pub free : IsFree c w collides
    pub is : ahead c k times w n
        ≡ (line_at c w).delay_us + ahead c k times (step c w collides) (remaining k (line_at c w).entry collides n)

  way-main : (i n : ℕ) → i < length (table_of c t) → 1 ≤ n → n ≤ most → Way (record { place = (t, i); back = None }) n
  way-main i n i_lt some few =
      let next_times : ℕ → ℕ = times (next (table_of c t) i) in
      let entry : Entry = (line_of c t i).entry in
      let d : ℕ = (line_of c t i).delay_us in
      let straight : ℕ = next_times (left k entry n) in
      let round : ℕ = through k (resolving_lines c entry) n next_times in
      elim (longer-one (can_collide c entry) straight round) [
        | inl is ↦ record {
          collides = false;
          free = λ no. absurd (false≢true no);
          is = known.ahead i n i_lt some few ∙ ap (λ (x : ℕ). d + x) is
              ∙ ap (λ (x : ℕ). d + next_times x) (sym (remaining-free k entry n));
        }
        | inr is ↦
            let found = colliding-event c entry is.0 in
            record {
              collides = true;
              free = λ yes. is.0;
              is = known.ahead i n i_lt some few ∙ ap (λ (x : ℕ). d + x) is.1
                  ∙ ap (λ (x : ℕ). d + x) (sym (ahead-round i n found.0 found.1))
                  ∙ ap (λ (x : ℕ). d + ahead c k times (step c (record { place = (t, i); back = None }) true) x) (sym (remaining-collided k entry n));
            }
      ]

  pub ahead-way : (w : Position) → IsOnWalk c t w → (n : ℕ) → 1 ≤ n → n ≤ most → Way w n
  ahead-way w (main i i_lt) n some few = way-main i n i_lt some few
  ahead-way w (inside j e place j_lt is can place_lt) n some few =
      let r : ℕ = (event_of c e).table in
      let entry : Entry = (line_of c r place).entry in
      let back : ℕ × ℕ = (t, next (table_of c t) j) in
      record {
        collides = false;
        free = λ no. absurd (false≢true no);
        is = ahead-inside r place n back false place_lt some
            ∙ ap (λ (x : ℕ). (line_of c r place).delay_us + ahead c k times (step c (record { place = (r, place); back = Some back }) false) x)
            (sym (remaining-free k entry n));
      }

  through-done : (lines : List Line) (after : ℕ → ℕ) → after 0 ≡ 0 → through k lines 0 after ≡ 0
  through-done [] after done = done
  through-done (line ∷ lines) after done = refl

  -- where none is wanted any more, no time lies ahead
  pub ahead-done : (w : Position) → IsOnWalk c t w → ahead c k times w 0 ≡ 0
  ahead-done w (main i i_lt) = known.done i i_lt
  ahead-done w (inside j e place j_lt is can place_lt) =
      through-done (drop place (table_of c (event_of c e).table)) (times (next (table_of c t) j)) (known.done (next (table_of c t) j) (next-lt (table_of c t) j j_lt))
