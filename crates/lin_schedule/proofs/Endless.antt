-- Where no slot of a table is sure, some walk waits for ever.
use Rattle.std.proofs.Common.{◌≡◌, ℕ, zero, suc, ◌+◌, ◌<◌, ◌≤◌, Bool, true, false, List, [], ◌∷◌, ◌++◌, length, get_or, Some, None, refl, ap, sym, ◌∙◌, subst, arith, inl, inr, cond}
use Rattle.std.specs.Prelude.{◌&&◌, ◌||◌, not, nat_lt}
use Rattle.std.proofs.lemmas.Bool.{cases_Bool, cases_lt, false≢true, true≢false, ltb-false, and_left, and_right}
use Rattle.std.proofs.lemmas.List.Sums.{sum_by-cons}
use Rattle.lin_parts.specs.Cluster.{event_of, table_of, line_of}
use Rattle.lin_parts.specs.Rules.{IsCluster}
use Rattle.lin_parts.specs.declared.parts.Parts.{Parts}
use Rattle.lin_parts.specs.declared.parts.Line.{Line}
use Rattle.lin_parts.specs.declared.parts.Entry.{Entry}
use Rattle.lin_parts.specs.declared.parts.Entry.TheVariants.{Event}
use Rattle.lin_schedule.specs.Ahead.{resolving_lines}
use Rattle.lin_schedule.specs.Carriers.{Carriers, carries, can_collide}
use Rattle.lin_schedule.specs.Rounds.{carriers_in, is_sure}
use Rattle.lin_schedule.specs.Walk.{Passed, walk, IsUndisturbed, is_carried, carried_in, walk_time, IsEndless}
use Rattle.lin_schedule.specs.Walker.{Position}
use Rattle.lin_schedule.proofs.Clusters.{cluster-AreWalkable, table-length, table-start, event-table}
use Rattle.lin_schedule.proofs.Reached.{reached, undisturbed-more}
use Rattle.lin_schedule.proofs.Steps.{at, step, IsOnWalk, main, inside, IsFree, at-step, event-there, colliding-event, step-collided, step-inside, step-end}
use Rattle.lin_schedule.proofs.Times.{next, next-lt, no_line}
use Rattle.lin_schedule.proofs.Waited.{passed_at, time_of-cons, carried_in-no, delay-some}

-- where none of the lines carries it, no place does
carriers_in-none : (k : Carriers) (lines : List Line) (place : ℕ) → place < length lines → carriers_in k lines ≡ 0
    → carries k (get_or lines place no_line).entry ≡ false
carriers_in-none k [] place lt none = absurd (omega arith)
carriers_in-none k (line ∷ lines) zero lt none = elim (cases_Bool (carries k line.entry)) [
  | inl does ↦
      let e = sum_by-cons (λ (l : Line). cond (carries k l.entry) 1 0) line lines in
      let one = ap (λ (b : Bool). cond b 1 0 + carriers_in k lines) does in
      absurd (let no : ⊥ = omega (arith, e, one) in no)
  | inr passes ↦ passes
]
carriers_in-none k (line ∷ lines) (suc place) lt none =
    let e = sum_by-cons (λ (l : Line). cond (carries k l.entry) 1 0) line lines in
    let rest : carriers_in k lines ≡ 0 = omega (arith, e) in
    carriers_in-none k lines place (omega arith) rest

-- a slot that is not sure
unsure-cases : (carrying can : Bool) (carriers : ℕ) → (carrying && (not can || nat_lt 0 carriers)) ≡ false → carrying ≡ true
    → (can ≡ true) × (carriers ≡ 0)
unsure-cases true true carriers is does = (refl, (let none = ltb-false 0 carriers is in omega arith))
unsure-cases true false carriers is does = absurd (true≢false is)
unsure-cases false can carriers is does = absurd (false≢true does)

-- a position from which a walk need not carry it
data IsIdle (c : Parts) (t : ℕ) (k : Carriers) : Position → Type 0 where
  idle_main : (i : ℕ) → i < length (table_of c t) → IsIdle c t k (record { place = (t, i); back = None })
  idle_inside : (j e place : ℕ) → j < length (table_of c t) → (line_of c t j).entry ≡ Event e
      → can_collide c (Event e) ≡ true → place < length (table_of c (event_of c e).table)
      → carriers_in k (table_of c (event_of c e).table) ≡ 0
      → IsIdle c t k (record { place = ((event_of c e).table, place); back = Some (t, next (table_of c t) j) })

idle-on : (c : Parts) (t : ℕ) (k : Carriers) (w : Position) → IsIdle c t k w → IsOnWalk c t w
idle-on c t k w (idle_main i i_lt) = main i i_lt
idle-on c t k w (idle_inside j e place j_lt is can place_lt none) = inside j e place j_lt is can place_lt

module _ (c : Parts) (rules : IsCluster c) (t : ℕ) (lt : t < length c.tables) (k : Carriers)
    (unsure : (i : ℕ) → i < length (table_of c t) → is_sure c k (line_of c t i).entry ≡ false) where
  record IdleStep (w : Position) : Type 0 where
    collides : Bool
    free : IsFree c w collides
    none : is_carried k (passed_at c w collides) ≡ false
    idle : IsIdle c t k (step c w collides)

  idle-collided : (i e : ℕ) → i < length (table_of c t) → (line_of c t i).entry ≡ Event e → can_collide c (line_of c t i).entry ≡ true
      → carriers_in k (resolving_lines c (line_of c t i).entry) ≡ 0 → IdleStep (record { place = (t, i); back = None })
  idle-collided i e i_lt is can none =
      let there = event-there c rules t i e lt i_lt is in
      let some = (table-length c rules (event_of c e).table (event-table c rules e there)).0 in
      record {
        collides = true;
        free = λ yes. can;
        none = and_right (carries k (line_of c t i).entry) false refl;
        idle = subst (IsIdle c t k) (sym (step-collided c t i e is))
            (idle_inside i e 0 i_lt is (sym (ap (can_collide c) is) ∙ can) some
            (sym (ap (λ (entry : Entry). carriers_in k (resolving_lines c entry)) is) ∙ none));
      }

  idle-step : (w : Position) → IsIdle c t k w → IdleStep w
  idle-step w (idle_main i i_lt) = elim (cases_Bool (carries k (line_of c t i).entry)) [
    | inl does ↦
        let both = unsure-cases (carries k (line_of c t i).entry) (can_collide c (line_of c t i).entry)
        (carriers_in k (resolving_lines c (line_of c t i).entry)) (unsure i i_lt) does in
        let found = colliding-event c (line_of c t i).entry both.0 in
        idle-collided i found.0 i_lt found.1 both.0 both.1
    | inr passes ↦ record {
      collides = false;
      free = λ no. absurd (false≢true no);
      none = and_left (carries k (line_of c t i).entry) true passes;
      idle = idle_main (next (table_of c t) i) (next-lt (table_of c t) i i_lt);
    }
  ]
  idle-step w (idle_inside j e place j_lt is can place_lt none) =
      let r : ℕ = (event_of c e).table in
      let back : ℕ × ℕ = (t, next (table_of c t) j) in
      record {
        collides = false;
        free = λ no. absurd (false≢true no);
        none = and_left (carries k (line_of c r place).entry) true (carriers_in-none k (table_of c r) place place_lt none);
        idle = elim (cases_lt (suc place) (length (table_of c r))) [
          | inl more ↦
              subst (IsIdle c t k) (sym (step-inside c r place back false more)) (idle_inside j e (suc place) j_lt is can more none)
          | inr last ↦
              subst (IsIdle c t k) (sym (step-end c r place back false last)) (idle_main (next (table_of c t) j) (next-lt (table_of c t) j j_lt))
        ];
      }

  -- a walk that has waited so long
  record IsIdling (time : ℕ) : Type 0 where
    collisions : List Bool
    later : List Passed
    written : Passed
    earlier : List Passed
    is : walk c t collisions ≡ later ++ written ∷ earlier
    undisturbed : IsUndisturbed c (walk c t collisions)
    none : carried_in k later ≡ 0
    long : time ≤ walk_time (later ++ written ∷ [])
    idle : IsIdle c t k (at c t collisions)

  idling-first : IsIdling 0
  idling-first =
      let i_lt : 0 < length (table_of c t) = (table-start c rules t lt).1 in
      let start = reached c rules t lt (record { place = (t, 0); back = None }) (main 0 i_lt) in
      let before : List Bool = start.collisions in
      let here : IsIdle c t k (at c t before) = subst (IsIdle c t k) start.is (idle_main 0 i_lt) in
      let more : IdleStep (at c t before) = idle-step (at c t before) here in
      record {
        collisions = more.collides ∷ before;
        later = [];
        written = passed_at c (at c t before) more.collides;
        earlier = walk c t before;
        is = refl;
        undisturbed = undisturbed-more c rules t lt before more.collides start.undisturbed more.free;
        none = refl;
        long = omega arith;
        idle = subst (IsIdle c t k)
            (at-step c (cluster-AreWalkable c rules) t lt before more.collides (at c t before) (idle-on c t k (at c t before) here) refl) more.idle;
      }

  idling : (time : ℕ) → IsIdling time
  idling zero = idling-first
  idling (suc time) =
      let former : IsIdling time = idling time in
      let w : Position = at c t former.collisions in
      let more : IdleStep w = idle-step w former.idle in
      let on : IsOnWalk c t w = idle-on c t k w former.idle in
      let slot : Passed = passed_at c w more.collides in
      let long = former.long in
      let none = former.none in
      let delay = delay-some c rules t lt w on in
      record {
        collisions = more.collides ∷ former.collisions;
        later = slot ∷ former.later;
        written = former.written;
        earlier = former.earlier;
        is = ap (λ (slots : List Passed). slot ∷ slots) former.is;
        undisturbed = undisturbed-more c rules t lt former.collisions more.collides former.undisturbed more.free;
        none = carried_in-no k slot former.later more.none ∙ none;
        long = omega (arith, time_of-cons slot (former.later ++ former.written ∷ []), long, delay);
        idle = subst (IsIdle c t k) (at-step c (cluster-AreWalkable c rules) t lt former.collisions more.collides w on refl) more.idle;
      }

  pub endless : (n : ℕ) → 1 ≤ n → IsEndless c t k n
  endless n some time =
      let long : IsIdling time = idling time in
      let none = long.none in (
        walk_time (long.later ++ long.written ∷ []),
        (
          long.long,
          record {
            later = long.later;
            waited = record {
              collisions = long.collisions;
              written = long.written;
              earlier = long.earlier;
              is = long.is;
              undisturbed = long.undisturbed;
              passed = refl;
            };
            few = omega arith;
          },
        ),
      )
