-- The times between slots of a frame's own on walks: their bounds, and walks that have them.
use Rattle.std.proofs.Common.{◌≡◌, ℕ, ◌+◌, ◌<◌, ◌≤◌, Bool, true, false, List, [], ◌∷◌, ◌++◌, length, refl, ap, sym, ◌∙◌, subst, arith, inl, inr, cond}
use Rattle.std.proofs.lemmas.Bool.{cases_Bool, false≢true}
use Rattle.std.proofs.lemmas.List.Elements.{All-head, All-tail}
use Rattle.std.proofs.lemmas.List.Sums.{sum_by-cons}
use Rattle.lin_parts.specs.Rules.{IsCluster}
use Rattle.lin_parts.specs.declared.parts.Parts.{Parts}
use Rattle.lin_schedule.specs.Carriers.{can_collide}
use Rattle.lin_schedule.specs.Occurs.{is_own}
use Rattle.lin_schedule.specs.Spacing.{IsGap, own_in}
use Rattle.lin_schedule.specs.Walk.{Passed, walk, IsUndisturbed, walk_time}
use Rattle.lin_schedule.specs.Walker.{Position}
use Rattle.lin_schedule.proofs.Ahead.{line_at}
use Rattle.lin_schedule.proofs.Clusters.{cluster-AreWalkable}
use Rattle.lin_schedule.proofs.Reached.{IsReached, undisturbed-more, reached}
use Rattle.lin_schedule.proofs.Steps.{at, step, IsOnWalk, IsFree, at-step, on-step}
use Rattle.lin_schedule.proofs.Waited.{passed_at, time_of-cons, cons-head, cons-tail, on-walk}

own_in-cons : (f : ℕ) (slot : Passed) (slots : List Passed) → own_in f (slot ∷ slots) ≡ cond (is_own f slot.line.entry) 1 0 + own_in f slots
own_in-cons f slot slots = sum_by-cons (λ (s : Passed). cond (is_own f s.line.entry) 1 0) slot slots

own_in-other : (f : ℕ) (slot : Passed) (slots : List Passed) → is_own f slot.line.entry ≡ false → own_in f (slot ∷ slots) ≡ own_in f slots
own_in-other f slot slots is =
    let e : own_in f (slot ∷ slots) ≡ 0 + own_in f slots =
    own_in-cons f slot slots ∙ ap (λ (b : Bool). cond b 1 0 + own_in f slots) is in
    omega (arith, e)

none-other : (f : ℕ) (slot : Passed) (slots : List Passed) → own_in f (slot ∷ slots) ≡ 0 → is_own f slot.line.entry ≡ false
none-other f slot slots none = elim (cases_Bool (is_own f slot.line.entry)) [
  | inl own ↦
      let e : own_in f (slot ∷ slots) ≡ 1 + own_in f slots =
      own_in-cons f slot slots ∙ ap (λ (b : Bool). cond b 1 0 + own_in f slots) own in
      absurd (omega (arith, e, none))
  | inr other ↦ other
]

-- slots on a walk up to the next one of the frame's own, and their time
pub data Path (c : Parts) (f : ℕ) : Position → ℕ → Type 0 where
  arrived : (w : Position) → is_own f (line_at c w).entry ≡ true → Path c f w 0
  onward : (w : Position) (collides : Bool) (time : ℕ) → IsFree c w collides → is_own f (line_at c w).entry ≡ false
      → Path c f (step c w collides) time → Path c f w ((line_at c w).delay_us + time)

module _ (c : Parts) (rules : IsCluster c) (t : ℕ) (lt : t < length c.tables) (f : ℕ) where
  -- for each position bounds of the time until the next slot of the frame's own, and bounds of the
  -- times between these
  pub record AreBounds (least most : Position → ℕ) (shortest longest : ℕ) : Type 0 where
    pub here : (w : Position) → IsOnWalk c t w → is_own f (line_at c w).entry ≡ true → (least w ≡ 0) × (most w ≡ 0)
    pub least_in : (w : Position) → IsOnWalk c t w → (collides : Bool) → IsFree c w collides → is_own f (line_at c w).entry ≡ false
        → least w ≤ (line_at c w).delay_us + least (step c w collides)
    pub most_in : (w : Position) → IsOnWalk c t w → (collides : Bool) → IsFree c w collides → is_own f (line_at c w).entry ≡ false
        → (line_at c w).delay_us + most (step c w collides) ≤ most w
    pub shortest_in : (w : Position) → IsOnWalk c t w → (collides : Bool) → IsFree c w collides → is_own f (line_at c w).entry ≡ true
        → shortest ≤ (line_at c w).delay_us + least (step c w collides)
    pub longest_in : (w : Position) → IsOnWalk c t w → (collides : Bool) → IsFree c w collides → is_own f (line_at c w).entry ≡ true
        → (line_at c w).delay_us + most (step c w collides) ≤ longest

  module _ (least most : Position → ℕ) (shortest longest : ℕ) (bounds : AreBounds least most shortest longest) where
    -- what has passed since the former own slot, and what is ahead
    since-own : (collisions : List Bool) (between : List Passed) (former : Passed) (earlier : List Passed)
        → walk c t collisions ≡ between ++ former ∷ earlier → IsUndisturbed c (walk c t collisions)
        → is_own f former.line.entry ≡ true → own_in f between ≡ 0
        → (shortest ≤ walk_time (between ++ former ∷ []) + least (at c t collisions))
        × (walk_time (between ++ former ∷ []) + most (at c t collisions) ≤ longest)
    since-own [] [] former earlier is free own none = absurd (cc)
    since-own [] (slot ∷ between) former earlier is free own none = absurd (cc)
    since-own (collides ∷ before) [] former earlier is free own none =
        let w : Position = at c t before in
        let here : IsFree c w collides =
        All-head (λ (slot : Passed). slot.collides ≡ true → can_collide c slot.line.entry ≡ true)
        (passed_at c w collides) (walk c t before) free in
        let on : IsOnWalk c t w = on-walk c rules t lt before (All-tail (λ (slot : Passed). slot.collides ≡ true → can_collide c slot.line.entry ≡ true)
        (passed_at c w collides) (walk c t before) free) in
        let same : passed_at c w collides ≡ former = cons-head (passed_at c w collides) former (walk c t before) earlier is in
        let delay : (line_at c w).delay_us ≡ former.line.delay_us = ap (λ (s : Passed). s.line.delay_us) same in
        let was : is_own f (line_at c w).entry ≡ true = ap (λ (s : Passed). is_own f s.line.entry) same ∙ own in
        let moved : step c w collides ≡ at c t (collides ∷ before) = at-step c (cluster-AreWalkable c rules) t lt before collides w on refl in
        let least_same = ap least moved in
        let most_same = ap most moved in
        let low = bounds.shortest_in w on collides here was in
        let high = bounds.longest_in w on collides here was in
        (omega (arith, time_of-cons former [], low, delay, least_same), omega (arith, time_of-cons former [], high, delay, most_same))
    since-own (collides ∷ before) (slot ∷ between) former earlier is free own none =
        let w : Position = at c t before in
        let all_before = All-tail (λ (s : Passed). s.collides ≡ true → can_collide c s.line.entry ≡ true)
        (passed_at c w collides) (walk c t before) free in
        let here : IsFree c w collides =
        All-head (λ (s : Passed). s.collides ≡ true → can_collide c s.line.entry ≡ true)
        (passed_at c w collides) (walk c t before) free in
        let on : IsOnWalk c t w = on-walk c rules t lt before all_before in
        let same : passed_at c w collides ≡ slot = cons-head (passed_at c w collides) slot (walk c t before) (between ++ former ∷ earlier) is in
        let rest : walk c t before ≡ between ++ former ∷ earlier = cons-tail (passed_at c w collides) slot (walk c t before) (between ++ former ∷ earlier) is in
        let delay : (line_at c w).delay_us ≡ slot.line.delay_us = ap (λ (s : Passed). s.line.delay_us) same in
        let moved : step c w collides ≡ at c t (collides ∷ before) = at-step c (cluster-AreWalkable c rules) t lt before collides w on refl in
        let other : is_own f slot.line.entry ≡ false = none-other f slot between none in
        let was : is_own f (line_at c w).entry ≡ false = ap (λ (s : Passed). is_own f s.line.entry) same ∙ other in
        let fewer : own_in f between ≡ 0 = sym (own_in-other f slot between other) ∙ none in
        let sofar = since-own before between former earlier rest all_before own fewer in
        let least_same = ap least moved in
        let most_same = ap most moved in
        let low = bounds.least_in w on collides here was in
        let high = bounds.most_in w on collides here was in
        let low_sofar = sofar.0 in
        let high_sofar = sofar.1 in (
          omega (arith, time_of-cons slot (between ++ former ∷ []), low_sofar, low, delay, least_same),
          omega (arith, time_of-cons slot (between ++ former ∷ []), high_sofar, high, delay, most_same),
        )

    gap-within : (collisions : List Bool) (next : Passed) (between : List Passed) (former : Passed) (earlier : List Passed)
        → walk c t collisions ≡ next ∷ (between ++ former ∷ earlier) → IsUndisturbed c (walk c t collisions)
        → is_own f next.line.entry ≡ true → is_own f former.line.entry ≡ true → own_in f between ≡ 0
        → (shortest ≤ walk_time (between ++ former ∷ [])) × (walk_time (between ++ former ∷ []) ≤ longest)
    gap-within [] next between former earlier is free next_own own none = absurd (cc)
    gap-within (collides ∷ before) next between former earlier is free next_own own none =
        let w : Position = at c t before in
        let all_before = All-tail (λ (s : Passed). s.collides ≡ true → can_collide c s.line.entry ≡ true)
        (passed_at c w collides) (walk c t before) free in
        let on : IsOnWalk c t w = on-walk c rules t lt before all_before in
        let same : passed_at c w collides ≡ next = cons-head (passed_at c w collides) next (walk c t before) (between ++ former ∷ earlier) is in
        let rest : walk c t before ≡ between ++ former ∷ earlier = cons-tail (passed_at c w collides) next (walk c t before) (between ++ former ∷ earlier) is in
        let was : is_own f (line_at c w).entry ≡ true = ap (λ (s : Passed). is_own f s.line.entry) same ∙ next_own in
        let none_ahead = bounds.here w on was in
        let least_none = none_ahead.0 in
        let most_none = none_ahead.1 in
        let sofar = since-own before between former earlier rest all_before own none in
        let low = sofar.0 in
        let high = sofar.1 in
        (omega (arith, low, least_none), omega (arith, high, most_none))

    -- no gap is outside the bounds
    pub gaps-within : (time : ℕ) → IsGap c t f time → (shortest ≤ time) × (time ≤ longest)
    gaps-within time gap =
        let both = gap-within gap.collisions gap.next gap.between gap.former gap.earlier gap.is gap.undisturbed gap.next_own gap.former_own gap.none_between in
        let low = both.0 in
        let high = both.1 in
        let passed = gap.passed in
        (omega (arith, low, passed), omega (arith, high, passed))

  -- a walk goes along a path
  gap-along : (w : Position) (time : ℕ) → Path c f w time → (collisions : List Bool) (between : List Passed) (former : Passed) (earlier : List Passed)
      → w ≡ at c t collisions → IsOnWalk c t w → walk c t collisions ≡ between ++ former ∷ earlier → IsUndisturbed c (walk c t collisions)
      → is_own f former.line.entry ≡ true → own_in f between ≡ 0 → (total : ℕ) → total ≡ walk_time (between ++ former ∷ []) + time
      → IsGap c t f total
  gap-along w time (arrived v own) collisions between former earlier stands on is free former_own none total sum = record {
    collisions = false ∷ collisions;
    next = passed_at c (at c t collisions) false;
    between = between;
    former = former;
    earlier = earlier;
    is = ap (λ (xs : List Passed). passed_at c (at c t collisions) false ∷ xs) is;
    undisturbed = undisturbed-more c rules t lt collisions false free (λ no. absurd (false≢true no));
    next_own = subst (λ (p : Position). is_own f (line_at c p).entry ≡ true) stands own;
    former_own = former_own;
    none_between = none;
    passed = omega (arith, sum);
  }
  gap-along w time (onward v collides more may other path) collisions between former earlier stands on is free former_own none total sum =
      let slot : Passed = passed_at c (at c t collisions) collides in
      let here : IsFree c (at c t collisions) collides = subst (λ (p : Position). IsFree c p collides) stands may in
      let slot_other : is_own f slot.line.entry ≡ false = subst (λ (p : Position). is_own f (line_at c p).entry ≡ false) stands other in
      let delay : (line_at c w).delay_us ≡ slot.line.delay_us = ap (λ (p : Position). (line_at c p).delay_us) stands in
      gap-along (step c w collides) more path (collides ∷ collisions) (slot ∷ between) former earlier
      (at-step c (cluster-AreWalkable c rules) t lt collisions collides w on stands)
      (on-step c rules t lt w on collides may)
      (ap (λ (xs : List Passed). slot ∷ xs) is)
      (undisturbed-more c rules t lt collisions collides free here)
      former_own
      (own_in-other f slot between slot_other ∙ none)
      total
      (omega (arith, sum, delay, time_of-cons slot (between ++ former ∷ [])))

  -- some walk has the time of an own slot and a path behind it
  pub gap-met : (w : Position) → IsOnWalk c t w → is_own f (line_at c w).entry ≡ true → (collides : Bool) → IsFree c w collides → (time : ℕ)
      → Path c f (step c w collides) time → IsGap c t f ((line_at c w).delay_us + time)
  gap-met w on own collides may time path =
      let r : IsReached c t w = reached c rules t lt w on in
      let former : Passed = passed_at c (at c t r.collisions) collides in
      let stands : w ≡ at c t r.collisions = r.is in
      let delay : (line_at c w).delay_us ≡ former.line.delay_us = ap (λ (p : Position). (line_at c p).delay_us) stands in
      gap-along (step c w collides) time path (collides ∷ r.collisions) [] former (walk c t r.collisions)
      (at-step c (cluster-AreWalkable c rules) t lt r.collisions collides w on stands)
      (on-step c rules t lt w on collides may)
      refl
      (undisturbed-more c rules t lt r.collisions collides r.undisturbed (subst (λ (p : Position). IsFree c p collides) stands may))
      (subst (λ (p : Position). is_own f (line_at c p).entry ≡ true) stands own)
      refl
      ((line_at c w).delay_us + time)
      (omega (arith, delay, time_of-cons former []))
