-- How long walks wait, where the times ahead are known.
use Rattle.std.proofs.Common.{◌≡◌, ℕ, suc, ◌+◌, ◌-◌, ◌<◌, ◌≤◌, Bool, true, false, List, [], ◌∷◌, ◌++◌, length, refl, ap, sym, ◌∙◌, subst, arith, inl, inr, cond}
use Rattle.std.specs.Prelude.{if◌then◌else◌}
use Rattle.std.proofs.lemmas.Bool.{cases_Bool}
use Rattle.std.proofs.lemmas.List.Elements.{All-head, All-tail}
use Rattle.std.proofs.lemmas.List.Sums.{sum_by-cons}
use Rattle.lin_parts.specs.Rules.{IsCluster}
use Rattle.lin_parts.specs.declared.parts.Parts.{Parts}
use Rattle.lin_schedule.specs.Ahead.{AreTimesAhead}
use Rattle.lin_schedule.specs.Carriers.{Carriers, can_collide}
use Rattle.lin_schedule.specs.Walk.{Passed, walk, IsUndisturbed, is_carried, carried_in, walk_time}
use Rattle.lin_schedule.specs.Walker.{Position}
use Rattle.lin_schedule.proofs.Ahead.{line_at, ahead, remaining, ahead-most, ahead-way}
use Rattle.lin_schedule.proofs.Clusters.{cluster-AreWalkable, table-start, table-delays, event-table}
use Rattle.lin_schedule.proofs.Steps.{at, step, IsOnWalk, main, inside, IsFree, at-step, at-start, on-step, event-there}

-- a slot more
abbrev pub passed_at : Parts → Position → Bool → Passed
passed_at c w collides = record { line = line_at c w; collides = collides }

pub time_of-cons : (slot : Passed) (slots : List Passed) → walk_time (slot ∷ slots) ≡ slot.line.delay_us + walk_time slots
time_of-cons slot slots = sum_by-cons (λ (s : Passed). s.line.delay_us) slot slots

carried_in-cons : (k : Carriers) (slot : Passed) (slots : List Passed)
    → carried_in k (slot ∷ slots) ≡ (if is_carried k slot then 1 else 0) + carried_in k slots
carried_in-cons k slot slots = sum_by-cons (λ (s : Passed). cond (is_carried k s) 1 0) slot slots

pub carried_in-yes : (k : Carriers) (slot : Passed) (slots : List Passed) → is_carried k slot ≡ true
    → carried_in k (slot ∷ slots) ≡ suc (carried_in k slots)
carried_in-yes k slot slots is =
    let e : carried_in k (slot ∷ slots) ≡ 1 + carried_in k slots =
    carried_in-cons k slot slots ∙ ap (λ (b : Bool). (if b then 1 else 0) + carried_in k slots) is in
    omega (arith, e)

pub carried_in-no : (k : Carriers) (slot : Passed) (slots : List Passed) → is_carried k slot ≡ false
    → carried_in k (slot ∷ slots) ≡ carried_in k slots
carried_in-no k slot slots is =
    let e : carried_in k (slot ∷ slots) ≡ 0 + carried_in k slots =
    carried_in-cons k slot slots ∙ ap (λ (b : Bool). (if b then 1 else 0) + carried_in k slots) is in
    omega (arith, e)

-- two lists that are one have one first element and one rest
pub cons-head : (x y : Passed) (xs ys : List Passed) → x ∷ xs ≡ y ∷ ys → x ≡ y
cons-head x y xs ys e = cc

pub cons-tail : (x y : Passed) (xs ys : List Passed) → x ∷ xs ≡ y ∷ ys → xs ≡ ys
cons-tail x y xs ys e = cc

module _ (c : Parts) (rules : IsCluster c) (t : ℕ) (lt : t < length c.tables) where
  -- a walk is at a position of the table
  pub on-walk : (collisions : List Bool) → IsUndisturbed c (walk c t collisions) → IsOnWalk c t (at c t collisions)
  on-walk [] free = subst (IsOnWalk c t) (at-start c t) (main 0 (table-start c rules t lt).1)
  on-walk (collides ∷ earlier) free =
      let before : IsOnWalk c t (at c t earlier) =
      on-walk earlier (All-tail (λ (slot : Passed). slot.collides ≡ true → can_collide c slot.line.entry ≡ true)
      (passed_at c (at c t earlier) collides) (walk c t earlier) free) in
      let here : IsFree c (at c t earlier) collides =
      All-head (λ (slot : Passed). slot.collides ≡ true → can_collide c slot.line.entry ≡ true)
      (passed_at c (at c t earlier) collides) (walk c t earlier) free in
      subst (IsOnWalk c t) (at-step c (cluster-AreWalkable c rules) t lt earlier collides (at c t earlier) before refl)
      (on-step c rules t lt (at c t earlier) before collides here)

  -- no delay is 0
  pub delay-some : (w : Position) → IsOnWalk c t w → 1 ≤ (line_at c w).delay_us
  delay-some w (main i i_lt) = table-delays c rules t lt i i_lt
  delay-some w (inside j e place j_lt is can place_lt) =
      let there = event-there c rules t j e lt j_lt is in
      table-delays c rules _ (event-table c rules e there) place place_lt

  module _ (k : Carriers) (n : ℕ) (some : 1 ≤ n) (times : ℕ → ℕ → ℕ) (known : AreTimesAhead c t k n times) where
    -- the longest time from the slot in which a write stands
    pub record IsGreatest (worst : ℕ) : Type 0 where
      pub most : (w : Position) → IsOnWalk c t w → (collides : Bool) → IsFree c w collides
          → (line_at c w).delay_us + ahead c k times (step c w collides) n ≤ worst

    -- what has passed and what lies ahead is no longer than that
    pub waited-most : (worst : ℕ) → IsGreatest worst → (collisions : List Bool) (later : List Passed) (written : Passed) (earlier : List Passed)
        → walk c t collisions ≡ later ++ written ∷ earlier → IsUndisturbed c (walk c t collisions) → (wanted : ℕ) → 1 ≤ wanted
        → carried_in k later + wanted ≡ n
        → walk_time (later ++ written ∷ []) + ahead c k times (at c t collisions) wanted ≤ worst
    waited-most worst greatest [] [] written earlier is free wanted more number = absurd (cc)
    waited-most worst greatest [] (slot ∷ later) written earlier is free wanted more number = absurd (cc)
    waited-most worst greatest (collides ∷ before) [] written earlier is free wanted more number =
        let w : Position = at c t before in
        let here : IsFree c w collides =
        All-head (λ (slot : Passed). slot.collides ≡ true → can_collide c slot.line.entry ≡ true)
        (passed_at c w collides) (walk c t before) free in
        let on : IsOnWalk c t w = on-walk before (All-tail (λ (slot : Passed). slot.collides ≡ true → can_collide c slot.line.entry ≡ true)
        (passed_at c w collides) (walk c t before) free) in
        let bound = greatest.most w on collides here in
        let same : passed_at c w collides ≡ written = cons-head (passed_at c w collides) written (walk c t before) earlier is in
        let delay : (line_at c w).delay_us ≡ written.line.delay_us = ap (λ (s : Passed). s.line.delay_us) same in
        let all : wanted ≡ n = omega arith in
        let stands : ahead c k times (step c w collides) n ≡ ahead c k times (at c t (collides ∷ before)) wanted =
        ap (λ (p : Position). ahead c k times p n) (at-step c (cluster-AreWalkable c rules) t lt before collides w on refl)
        ∙ ap (λ (x : ℕ). ahead c k times (at c t (collides ∷ before)) x) (sym all) in
        omega (arith, time_of-cons written [], bound, delay, stands)
    waited-most worst greatest (collides ∷ before) (slot ∷ later) written earlier is free wanted more number =
        let w : Position = at c t before in
        let all_before = All-tail (λ (s : Passed). s.collides ≡ true → can_collide c s.line.entry ≡ true)
        (passed_at c w collides) (walk c t before) free in
        let here : IsFree c w collides =
        All-head (λ (s : Passed). s.collides ≡ true → can_collide c s.line.entry ≡ true)
        (passed_at c w collides) (walk c t before) free in
        let on : IsOnWalk c t w = on-walk before all_before in
        let same : passed_at c w collides ≡ slot = cons-head (passed_at c w collides) slot (walk c t before) (later ++ written ∷ earlier) is in
        let rest : walk c t before ≡ later ++ written ∷ earlier = cons-tail (passed_at c w collides) slot (walk c t before) (later ++ written ∷ earlier) is in
        let delay : (line_at c w).delay_us ≡ slot.line.delay_us = ap (λ (s : Passed). s.line.delay_us) same in
        let moved : step c w collides ≡ at c t (collides ∷ before) = at-step c (cluster-AreWalkable c rules) t lt before collides w on refl in
        elim (cases_Bool (is_carried k slot)) [
          | inl does ↦
              let count : carried_in k (slot ∷ later) ≡ suc (carried_in k later) = carried_in-yes k slot later does in
              let former = waited-most worst greatest before later written earlier rest all_before (suc wanted) (omega arith) (omega (arith, count)) in
              let most = ahead-most c rules t lt k n times known w on (suc wanted) (omega arith) (omega (arith, count)) collides here in
              let was : is_carried k (passed_at c w collides) ≡ true = ap (is_carried k) same ∙ does in
              let left_is : remaining k (line_at c w).entry collides (suc wanted) ≡ suc wanted - 1 = ap (λ (b : Bool). if b then suc wanted - 1 else suc wanted) was in
              let left_is_2 : remaining k (line_at c w).entry collides (suc wanted) ≡ wanted = omega (arith, left_is) in
              let stands : ahead c k times (step c w collides) (remaining k (line_at c w).entry collides (suc wanted)) ≡ ahead c k times (at c t (collides ∷ before)) wanted =
              ap (λ (x : ℕ). ahead c k times (step c w collides) x) left_is_2
              ∙ ap (λ (p : Position). ahead c k times p wanted) moved in
              omega (arith, time_of-cons slot (later ++ written ∷ []), former, most, delay, stands)
          | inr passes ↦
              let count : carried_in k (slot ∷ later) ≡ carried_in k later = carried_in-no k slot later passes in
              let former = waited-most worst greatest before later written earlier rest all_before wanted more (omega (arith, count)) in
              let most = ahead-most c rules t lt k n times known w on wanted more (omega (arith, count)) collides here in
              let was : is_carried k (passed_at c w collides) ≡ false = ap (is_carried k) same ∙ passes in
              let left_is : remaining k (line_at c w).entry collides wanted ≡ wanted = ap (λ (b : Bool). if b then wanted - 1 else wanted) was in
              let stands : ahead c k times (step c w collides) (remaining k (line_at c w).entry collides wanted) ≡ ahead c k times (at c t (collides ∷ before)) wanted =
              ap (λ (x : ℕ). ahead c k times (step c w collides) x) left_is
              ∙ ap (λ (p : Position). ahead c k times p wanted) moved in
              omega (arith, time_of-cons slot (later ++ written ∷ []), former, most, delay, stands)
        ]

    -- where carrying slots are wanted, some time lies ahead
    pub ahead-some : (w : Position) → IsOnWalk c t w → (wanted : ℕ) → 1 ≤ wanted → wanted ≤ n → 1 ≤ ahead c k times w wanted
    ahead-some w on wanted more few =
        let way = ahead-way c rules t lt k n times known w on wanted more few in
        let delay = delay-some w on in
        omega (arith, way.is, delay)
