-- Walks reach each position of their table, and wait as long as the times ahead say.
use Rattle.std.proofs.Common.{◌≡◌, ℕ, zero, suc, ◌+◌, ◌-◌, ◌<◌, ◌≤◌, Bool, true, false, List, [], ◌∷◌, ◌++◌, length, Some, None, refl, ap, sym, ◌∙◌, subst, arith, inl, inr}
use Rattle.std.specs.Prelude.{if◌then◌else◌, nat_lt}
use Rattle.std.proofs.lemmas.Bool.{cases_Bool, false≢true}
use Rattle.std.proofs.lemmas.Bool.Decides.{Decides-ltb}
use Rattle.std.proofs.lemmas.List.Elements.{All-cons, All-nil, All-head, All-tail}
use Rattle.lin_parts.specs.Cluster.{event_of, table_of, line_of}
use Rattle.lin_parts.specs.Rules.{IsCluster}
use Rattle.lin_parts.specs.declared.parts.Parts.{Parts}
use Rattle.lin_parts.specs.declared.parts.Entry.TheVariants.{Event}
use Rattle.lin_schedule.specs.Ahead.{AreTimesAhead}
use Rattle.lin_schedule.specs.Carriers.{Carriers, can_collide}
use Rattle.lin_schedule.specs.Walk.{Passed, walk, IsUndisturbed, is_carried, carried_in, walk_time, IsWaiting, IsWait, IsLongestWait}
use Rattle.lin_schedule.specs.Walker.{Position}
use Rattle.lin_schedule.proofs.Ahead.{line_at, ahead, remaining, Way, ahead-way, ahead-done, ahead-most}
use Rattle.lin_schedule.proofs.Clusters.{cluster-AreWalkable}
use Rattle.lin_schedule.proofs.Steps.{at, step, IsOnWalk, main, inside, IsFree, at-step, at-start, step-collided, step-inside}
use Rattle.lin_schedule.proofs.Times.{next}
use Rattle.lin_schedule.proofs.Waited.{passed_at, time_of-cons, carried_in-yes, carried_in-no, cons-head, cons-tail, on-walk, delay-some, ahead-some, IsGreatest, waited-most}

-- some walk is at a position
pub record IsReached (c : Parts) (t : ℕ) (w : Position) : Type 0 where
  pub collisions : List Bool
  pub undisturbed : IsUndisturbed c (walk c t collisions)
  pub is : w ≡ at c t collisions

-- the longest time from the slot in which a write stands, at some position
pub record IsMet (c : Parts) (t : ℕ) (k : Carriers) (n : ℕ) (times : ℕ → ℕ → ℕ) (worst : ℕ) : Type 0 where
  pub place : Position
  pub on : IsOnWalk c t place
  pub collides : Bool
  pub free : IsFree c place collides
  pub is : worst ≡ (line_at c place).delay_us + ahead c k times (step c place collides) n

module _ (c : Parts) (rules : IsCluster c) (t : ℕ) (lt : t < length c.tables) where
  -- a walk that has one slot more
  pub undisturbed-more : (collisions : List Bool) (collides : Bool) → IsUndisturbed c (walk c t collisions) → IsFree c (at c t collisions) collides
      → IsUndisturbed c (walk c t (collides ∷ collisions))
  undisturbed-more collisions collides before here =
      All-cons (λ (slot : Passed). slot.collides ≡ true → can_collide c slot.line.entry ≡ true)
      (passed_at c (at c t collisions) collides) (walk c t collisions) here before

  pub reached-step : (w : Position) → IsOnWalk c t w → IsReached c t w → (collides : Bool) → IsFree c w collides → IsReached c t (step c w collides)
  reached-step w on reached collides free = record {
    collisions = collides ∷ reached.collisions;
    undisturbed = undisturbed-more reached.collisions collides reached.undisturbed (subst (λ (p : Position). IsFree c p collides) reached.is free);
    is = at-step c (cluster-AreWalkable c rules) t lt reached.collisions collides w on reached.is;
  }

  reached-main : (i : ℕ) → i < length (table_of c t) → IsReached c t (record { place = (t, i); back = None })
  reached-main zero i_lt = record {
    collisions = [];
    undisturbed = All-nil (λ (slot : Passed). slot.collides ≡ true → can_collide c slot.line.entry ≡ true);
    is = at-start c t;
  }
  reached-main (suc i) i_lt =
      let before = reached-main i (omega arith) in
      let on : IsOnWalk c t (record { place = (t, i); back = None }) = main i (omega arith) in
      let test : nat_lt (suc i) (length (table_of c t)) ≡ true = (Decides-ltb (suc i) (length (table_of c t))).1 i_lt in
      let is : next (table_of c t) i ≡ suc i = ap (λ (b : Bool). if b then suc i else 0) test in
      subst (λ (x : ℕ). IsReached c t (record { place = (t, x); back = None })) is
      (reached-step (record { place = (t, i); back = None }) on before false (λ no. absurd (false≢true no)))

  reached-inside : (j e : ℕ) → j < length (table_of c t) → (line_of c t j).entry ≡ Event e → can_collide c (Event e) ≡ true
      → (place : ℕ) → place < length (table_of c (event_of c e).table)
      → IsReached c t (record { place = ((event_of c e).table, place); back = Some (t, next (table_of c t) j) })
  reached-inside j e j_lt is can zero place_lt =
      let on : IsOnWalk c t (record { place = (t, j); back = None }) = main j j_lt in
      subst (IsReached c t) (step-collided c t j e is)
      (reached-step (record { place = (t, j); back = None }) on (reached-main j j_lt) true (λ yes. ap (can_collide c) is ∙ can))
  reached-inside j e j_lt is can (suc place) place_lt =
      let before = reached-inside j e j_lt is can place (omega arith) in
      let on : IsOnWalk c t (record { place = ((event_of c e).table, place); back = Some (t, next (table_of c t) j) }) =
      inside j e place j_lt is can (omega arith) in
      subst (IsReached c t) (step-inside c (event_of c e).table place (t, next (table_of c t) j) false place_lt)
      (reached-step (record { place = ((event_of c e).table, place); back = Some (t, next (table_of c t) j) }) on before false
      (λ no. absurd (false≢true no)))

  pub reached : (w : Position) → IsOnWalk c t w → IsReached c t w
  reached w (main i i_lt) = reached-main i i_lt
  reached w (inside j e place j_lt is can place_lt) = reached-inside j e j_lt is can place place_lt

  module _ (k : Carriers) (n : ℕ) (some : 1 ≤ n) (times : ℕ → ℕ → ℕ) (known : AreTimesAhead c t k n times) where
    -- the slot that a walk has next on the longest way, and what lies ahead of the one after it
    record Next (collisions : List Bool) (wanted : ℕ) : Type 0 where
      collides : Bool
      undisturbed : IsUndisturbed c (walk c t (collides ∷ collisions))
      some_delay : 1 ≤ (line_at c (at c t collisions)).delay_us
      carrying : is_carried k (passed_at c (at c t collisions) collides) ≡ true
          → ahead c k times (at c t collisions) (suc wanted)
          ≡ (line_at c (at c t collisions)).delay_us + ahead c k times (at c t (collides ∷ collisions)) wanted
      idle : is_carried k (passed_at c (at c t collisions) collides) ≡ false
          → ahead c k times (at c t collisions) (suc wanted)
          ≡ (line_at c (at c t collisions)).delay_us + ahead c k times (at c t (collides ∷ collisions)) (suc wanted)

    next-slot : (collisions : List Bool) → IsUndisturbed c (walk c t collisions) → (wanted : ℕ) → suc wanted ≤ n → Next collisions wanted
    next-slot collisions free wanted few =
        let w : Position = at c t collisions in
        let on : IsOnWalk c t w = on-walk c rules t lt collisions free in
        let way : Way c rules t lt k n times known w (suc wanted) = ahead-way c rules t lt k n times known w on (suc wanted) (omega arith) few in
        let moved : step c w way.collides ≡ at c t (way.collides ∷ collisions) = at-step c (cluster-AreWalkable c rules) t lt collisions way.collides w on refl in
        let d : ℕ = (line_at c w).delay_us in
        record {
          collides = way.collides;
          undisturbed = undisturbed-more collisions way.collides free way.free;
          some_delay = delay-some c rules t lt w on;
          carrying = λ yes.
              let e : remaining k (line_at c w).entry way.collides (suc wanted) ≡ suc wanted - 1 = ap (λ (b : Bool). if b then suc wanted - 1 else suc wanted) yes in
              let left_is : remaining k (line_at c w).entry way.collides (suc wanted) ≡ wanted = omega (arith, e) in
              way.is
              ∙ ap (λ (x : ℕ). d + ahead c k times (step c w way.collides) x) left_is
              ∙ ap (λ (p : Position). d + ahead c k times p wanted) moved;
          idle = λ no.
              let left_is : remaining k (line_at c w).entry way.collides (suc wanted) ≡ suc wanted = ap (λ (b : Bool). if b then suc wanted - 1 else suc wanted) no in
              way.is
              ∙ ap (λ (x : ℕ). d + ahead c k times (step c w way.collides) x) left_is
              ∙ ap (λ (p : Position). d + ahead c k times p (suc wanted)) moved;
        }

    -- a walk that goes on waiting ends its wait after the time that lies ahead
    meets : (fuel : ℕ) (collisions : List Bool) (later : List Passed) (written : Passed) (earlier : List Passed)
        → walk c t collisions ≡ later ++ written ∷ earlier → IsUndisturbed c (walk c t collisions) → (wanted : ℕ)
        → carried_in k later + suc wanted ≡ n → ahead c k times (at c t collisions) (suc wanted) ≤ fuel
        → IsWait c t k n (walk_time (later ++ written ∷ []) + ahead c k times (at c t collisions) (suc wanted))
    meets zero collisions later written earlier is free wanted number enough =
        let ahead_is = ahead-some c rules t lt k n some times known (at c t collisions) (on-walk c rules t lt collisions free) (suc wanted) (omega arith) (omega arith) in
        absurd (omega arith)
    meets (suc fuel) collisions later written earlier is free zero number enough =
        let w : Position = at c t collisions in
        let more = next-slot collisions free zero (omega arith) in
        let slot : Passed = passed_at c w more.collides in
        let walked : walk c t (more.collides ∷ collisions) ≡ (slot ∷ later) ++ written ∷ earlier = ap (λ (slots : List Passed). slot ∷ slots) is in
        let delay = more.some_delay in
        let sum = time_of-cons slot (later ++ written ∷ []) in
        elim (cases_Bool (is_carried k slot)) [
          | inl does ↦
              let stands = more.carrying does in
              let none : ahead c k times (at c t (more.collides ∷ collisions)) 0 ≡ 0 =
              ahead-done c rules t lt k n times known (at c t (more.collides ∷ collisions)) (on-walk c rules t lt (more.collides ∷ collisions) more.undisturbed) in
              record {
                last = slot;
                between = later;
                waited = record {
                  collisions = more.collides ∷ collisions;
                  written = written;
                  earlier = earlier;
                  is = walked;
                  undisturbed = more.undisturbed;
                  passed = omega (arith, stands, none, sum);
                };
                ends = does;
                number = omega arith;
              }
          | inr passes ↦
              let stands = more.idle passes in
              let count = carried_in-no k slot later passes in
              let whole : walk_time ((slot ∷ later) ++ written ∷ []) + ahead c k times (at c t (more.collides ∷ collisions)) 1
              ≡ walk_time (later ++ written ∷ []) + ahead c k times w 1 = omega (arith, stands, sum) in
              subst (λ (x : ℕ). IsWait c t k n x) whole
              (meets fuel (more.collides ∷ collisions) (slot ∷ later) written earlier walked more.undisturbed zero
              (omega (arith, count)) (omega (arith, stands, delay)))
        ]
    meets (suc fuel) collisions later written earlier is free (suc wanted) number enough =
        let w : Position = at c t collisions in
        let more = next-slot collisions free (suc wanted) (omega arith) in
        let slot : Passed = passed_at c w more.collides in
        let walked : walk c t (more.collides ∷ collisions) ≡ (slot ∷ later) ++ written ∷ earlier = ap (λ (slots : List Passed). slot ∷ slots) is in
        let delay = more.some_delay in
        let sum = time_of-cons slot (later ++ written ∷ []) in
        elim (cases_Bool (is_carried k slot)) [
          | inl does ↦
              let stands = more.carrying does in
              let count = carried_in-yes k slot later does in
              let whole : walk_time ((slot ∷ later) ++ written ∷ []) + ahead c k times (at c t (more.collides ∷ collisions)) (suc wanted)
              ≡ walk_time (later ++ written ∷ []) + ahead c k times w (suc (suc wanted)) = omega (arith, stands, sum) in
              subst (λ (x : ℕ). IsWait c t k n x) whole
              (meets fuel (more.collides ∷ collisions) (slot ∷ later) written earlier walked more.undisturbed wanted
              (omega (arith, count)) (omega (arith, stands, delay)))
          | inr passes ↦
              let stands = more.idle passes in
              let count = carried_in-no k slot later passes in
              let whole : walk_time ((slot ∷ later) ++ written ∷ []) + ahead c k times (at c t (more.collides ∷ collisions)) (suc (suc wanted))
              ≡ walk_time (later ++ written ∷ []) + ahead c k times w (suc (suc wanted)) = omega (arith, stands, sum) in
              subst (λ (x : ℕ). IsWait c t k n x) whole
              (meets fuel (more.collides ∷ collisions) (slot ∷ later) written earlier walked more.undisturbed (suc wanted)
              (omega (arith, count)) (omega (arith, stands, delay)))
        ]

    -- the greatest time from the slot in which a write stands is the longest wait
    pub longest-met : (worst : ℕ) → IsMet c t k n times worst → IsWait c t k n worst
    longest-met worst met =
        let from = reached met.place met.on in
        let before : List Bool = from.collisions in
        let free : IsFree c (at c t before) met.collides = subst (λ (p : Position). IsFree c p met.collides) from.is met.free in
        let slot : Passed = passed_at c (at c t before) met.collides in
        let undisturbed : IsUndisturbed c (walk c t (met.collides ∷ before)) = undisturbed-more before met.collides from.undisturbed free in
        let moved : step c met.place met.collides ≡ at c t (met.collides ∷ before) =
        at-step c (cluster-AreWalkable c rules) t lt before met.collides met.place met.on from.is in
        let delay : (line_at c met.place).delay_us ≡ (line_at c (at c t before)).delay_us = ap (λ (p : Position). (line_at c p).delay_us) from.is in
        let less : suc (n - 1) ≡ n = omega arith in
        let lies : ahead c k times (step c met.place met.collides) n ≡ ahead c k times (at c t (met.collides ∷ before)) (suc (n - 1)) =
        ap (λ (p : Position). ahead c k times p n) moved ∙ ap (λ (x : ℕ). ahead c k times (at c t (met.collides ∷ before)) x) (sym less) in
        let is = met.is in
        let whole : walk_time (slot ∷ []) + ahead c k times (at c t (met.collides ∷ before)) (suc (n - 1)) ≡ worst =
        omega (arith, time_of-cons slot [], delay, lies, is) in
        subst (λ (x : ℕ). IsWait c t k n x) whole
        (meets (ahead c k times (at c t (met.collides ∷ before)) (suc (n - 1))) (met.collides ∷ before) [] slot (walk c t before) refl undisturbed (n - 1)
        (omega arith) (omega arith))

    -- and no wait is longer
    waited-end : (worst : ℕ) → IsGreatest c rules t lt k n some times known worst → (other : ℕ) (last : Passed) (between : List Passed)
        (collisions : List Bool) (written : Passed) (earlier : List Passed) → walk c t collisions ≡ (last ∷ between) ++ written ∷ earlier
        → IsUndisturbed c (walk c t collisions) → other ≡ walk_time ((last ∷ between) ++ written ∷ [])
        → suc (carried_in k between) ≡ n → other ≤ worst
    waited-end worst greatest other last between [] written earlier is free passed number = absurd (cc)
    waited-end worst greatest other last between (collides ∷ before) written earlier is free passed number =
        let w : Position = at c t before in
        let all_before = All-tail (λ (s : Passed). s.collides ≡ true → can_collide c s.line.entry ≡ true) (passed_at c w collides) (walk c t before) free in
        let here : IsFree c w collides =
        All-head (λ (s : Passed). s.collides ≡ true → can_collide c s.line.entry ≡ true) (passed_at c w collides) (walk c t before) free in
        let on : IsOnWalk c t w = on-walk c rules t lt before all_before in
        let same : passed_at c w collides ≡ last = cons-head (passed_at c w collides) last (walk c t before) (between ++ written ∷ earlier) is in
        let rest : walk c t before ≡ between ++ written ∷ earlier = cons-tail (passed_at c w collides) last (walk c t before) (between ++ written ∷ earlier) is in
        let delay : (line_at c w).delay_us ≡ last.line.delay_us = ap (λ (s : Passed). s.line.delay_us) same in
        let former = waited-most c rules t lt k n some times known worst greatest before between written earlier rest all_before 1 (omega arith) (omega arith) in
        let most = ahead-most c rules t lt k n times known w on 1 (omega arith) some collides here in
        omega (arith, time_of-cons last (between ++ written ∷ []), former, most, delay)

    longest-most : (worst : ℕ) → IsGreatest c rules t lt k n some times known worst → (other : ℕ) → IsWait c t k n other → other ≤ worst
    longest-most worst greatest other wait =
        waited-end worst greatest other wait.last wait.between wait.waited.collisions wait.waited.written wait.waited.earlier wait.waited.is
        wait.waited.undisturbed wait.waited.passed wait.number

    -- nor does one go on until then
    longest-over : (worst : ℕ) → IsGreatest c rules t lt k n some times known worst → (other : ℕ) → IsWaiting c t k n other → other < worst
    longest-over worst greatest other waiting =
        let few = waiting.few in
        let passed = waiting.waited.passed in
        let wanted : ℕ = n - carried_in k waiting.later in
        let bound = waited-most c rules t lt k n some times known worst greatest waiting.waited.collisions waiting.later waiting.waited.written
        waiting.waited.earlier waiting.waited.is waiting.waited.undisturbed wanted (omega arith) (omega arith) in
        let lies = ahead-some c rules t lt k n some times known (at c t waiting.waited.collisions)
        (on-walk c rules t lt waiting.waited.collisions waiting.waited.undisturbed) wanted (omega arith) (omega arith) in
        omega (arith, bound, lies, passed)

    pub longest-wait : (worst : ℕ) → IsGreatest c rules t lt k n some times known worst → IsMet c t k n times worst → IsLongestWait c t k n worst
    longest-wait worst greatest met = record {
      met = longest-met worst met;
      longest = longest-most worst greatest;
      over = longest-over worst greatest;
    }
