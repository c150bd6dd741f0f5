-- The greatest time from a slot of a table is the longest wait.
use Rattle.std.proofs.Common.{◌≡◌, ℕ, zero, suc, ◌+◌, ◌<◌, ◌≤◌, max, Bool, true, false, List, [], ◌∷◌, length, get_or, Some, None, refl, ap, sym, ◌∙◌, arith, inl, inr, drop, ◌⊎◌}
use Rattle.std.specs.Prelude.{if◌then◌else◌}
use Rattle.std.proofs.lemmas.Bool.{cases_lt, false≢true}
use Rattle.std.proofs.Math.Nat.{le-max_left, le-max_right}
use Rattle.lin_parts.specs.Cluster.{event_of, table_of, line_of}
use Rattle.lin_parts.specs.Rules.{IsCluster}
use Rattle.lin_parts.specs.declared.parts.Parts.{Parts}
use Rattle.lin_parts.specs.declared.parts.Line.{Line}
use Rattle.lin_parts.specs.declared.parts.Entry.{Entry}
use Rattle.lin_parts.specs.declared.parts.Entry.TheVariants.{Event}
use Rattle.lin_schedule.specs.Ahead.{through, longest_inside, longest_from, next_entry, resolving_lines, AreTimesAhead}
use Rattle.lin_schedule.specs.Carriers.{Carriers, can_collide}
use Rattle.lin_schedule.specs.Rounds.{greatest}
use Rattle.lin_schedule.specs.Walk.{IsLongestWait}
use Rattle.lin_schedule.specs.Walker.{Position}
use Rattle.lin_schedule.proofs.Ahead.{line_at, ahead, ahead-round, ahead-beyond}
use Rattle.lin_schedule.proofs.Clusters.{table-length, event-table}
use Rattle.lin_schedule.proofs.Reached.{IsMet, longest-wait}
use Rattle.lin_schedule.proofs.Steps.{step, IsOnWalk, main, inside, IsFree, resolving-plain, event-there, colliding-event}
use Rattle.lin_schedule.proofs.Times.{next, no_line}
use Rattle.lin_schedule.proofs.Waited.{IsGreatest}

-- ---- the greatest number

greatest-most : (f : ℕ → ℕ) (n i : ℕ) → i < n → f i ≤ greatest f n
greatest-most f zero i lt = absurd (omega arith)
greatest-most f (suc n) i lt = elim (cases_lt i n) [
  | inl earlier ↦ let before = greatest-most f n i earlier in omega arith
  | inr last ↦
      let is : i ≡ n = omega arith in
      let same = ap f is in
      omega arith
]

record IsOneOf (f : ℕ → ℕ) (n : ℕ) : Type 0 where
  i : ℕ
  i_lt : i < n
  is : greatest f n ≡ f i

max-cases : (a b : ℕ) → (max a b ≡ a) ⊎ (max a b ≡ b)
max-cases a b = elim (cases_lt a b) [ inl less ↦ inr (omega arith) | inr more ↦ inl (omega arith) ]

greatest-one : (f : ℕ → ℕ) (n : ℕ) → IsOneOf f (suc n)
greatest-one f zero = record { i = 0; i_lt = omega arith; is = (let e : max 0 (f 0) ≡ f 0 = omega arith in e) }
greatest-one f (suc n) =
    let before : IsOneOf f (suc n) = greatest-one f n in
    let before_lt = before.i_lt in
    elim (max-cases (greatest f (suc n)) (f (suc n))) [
      | inl former ↦ record { i = before.i; i_lt = omega arith; is = former ∙ before.is }
      | inr latter ↦ record { i = suc n; i_lt = omega arith; is = latter }
    ]

-- ---- the longest inside an excursion

abbrev pub from_place : Carriers → List Line → ℕ → (ℕ → ℕ) → ℕ → ℕ
from_place k lines n after place = (get_or lines place no_line).delay_us + through k (drop (suc place) lines) n after

longest_inside-most : (k : Carriers) (lines : List Line) (n : ℕ) (after : ℕ → ℕ) (place : ℕ) → place < length lines
    → from_place k lines n after place ≤ longest_inside k lines n after
longest_inside-most k [] n after place lt = absurd (omega arith)
longest_inside-most k (line ∷ lines) n after zero lt = le-max_left (line.delay_us + through k lines n after) (longest_inside k lines n after)
longest_inside-most k (line ∷ lines) n after (suc place) lt =
    let rest = longest_inside-most k lines n after place (omega arith) in
    let right = le-max_right (line.delay_us + through k lines n after) (longest_inside k lines n after) in
    omega arith

record IsPlaceOf (k : Carriers) (lines : List Line) (n : ℕ) (after : ℕ → ℕ) : Type 0 where
  place : ℕ
  place_lt : place < length lines
  is : longest_inside k lines n after ≡ from_place k lines n after place

longest_inside-one : (k : Carriers) (line : Line) (lines : List Line) (n : ℕ) (after : ℕ → ℕ) → IsPlaceOf k (line ∷ lines) n after
longest_inside-one k line [] n after = record {
  place = 0;
  place_lt = omega arith;
  is = (let e : max (line.delay_us + after n) 0 ≡ line.delay_us + after n = omega arith in e);
}
longest_inside-one k line (second ∷ lines) n after =
    let rest : IsPlaceOf k (second ∷ lines) n after = longest_inside-one k second lines n after in
    let rest_lt = rest.place_lt in
    elim (max-cases (line.delay_us + through k (second ∷ lines) n after) (longest_inside k (second ∷ lines) n after)) [
      | inl first ↦ record { place = 0; place_lt = omega arith; is = first }
      | inr later ↦ record { place = suc rest.place; place_lt = omega arith; is = later ∙ rest.is }
    ]

longest_inside-some : (k : Carriers) (lines : List Line) (n : ℕ) (after : ℕ → ℕ) → 1 ≤ length lines → IsPlaceOf k lines n after
longest_inside-some k [] n after some = absurd (omega arith)
longest_inside-some k (line ∷ lines) n after some = longest_inside-one k line lines n after

-- ---- the longest from a main slot

abbrev pub longer : Bool → ℕ → ℕ → ℕ → ℕ → ℕ
longer can delay straight round inner = if can then max (delay + max straight round) inner else delay + straight

longer-straight : (can : Bool) (d straight round inner : ℕ) → d + straight ≤ longer can d straight round inner
longer-straight true d straight round inner = omega arith
longer-straight false d straight round inner = omega arith

longer-round : (can : Bool) (d straight round inner : ℕ) → can ≡ true → d + round ≤ longer can d straight round inner
longer-round true d straight round inner is = omega arith
longer-round false d straight round inner is = absurd (false≢true is)

longer-inner : (can : Bool) (d straight round inner : ℕ) → can ≡ true → inner ≤ longer can d straight round inner
longer-inner true d straight round inner is = omega arith
longer-inner false d straight round inner is = absurd (false≢true is)

longer-one : (can : Bool) (d straight round inner : ℕ)
    → (longer can d straight round inner ≡ d + straight)
    ⊎ (((can ≡ true) × (longer can d straight round inner ≡ d + round)) ⊎ ((can ≡ true) × (longer can d straight round inner ≡ inner)))
longer-one false d straight round inner = inl refl
longer-one true d straight round inner = elim (max-cases (d + max straight round) inner) [
  | inr within ↦ inr (inr (refl, within))
  | inl without ↦ elim (max-cases straight round) [
    | inl one ↦ inl (without ∙ ap (λ (x : ℕ). d + x) one)
    | inr other ↦ inr (inl (refl, without ∙ ap (λ (x : ℕ). d + x) other))
  ]
]

module _ (c : Parts) (rules : IsCluster c) (t : ℕ) (lt : t < length c.tables) (k : Carriers) (n : ℕ) (some : 1 ≤ n)
    (times : ℕ → ℕ → ℕ) (known : AreTimesAhead c t k n times) where
  abbrev from_slot : ℕ → ℕ
  from_slot i = longest_from c k (line_of c t i) n (times (next_entry (table_of c t) i))

  -- the parts of it
  main-straight : (i : ℕ) → (line_of c t i).delay_us + times (next (table_of c t) i) n ≤ from_slot i
  main-straight i =
      longer-straight (can_collide c (line_of c t i).entry) (line_of c t i).delay_us (times (next (table_of c t) i) n)
      (through k (resolving_lines c (line_of c t i).entry) n (times (next (table_of c t) i)))
      (longest_inside k (resolving_lines c (line_of c t i).entry) n (times (next (table_of c t) i)))

  main-round : (i : ℕ) → can_collide c (line_of c t i).entry ≡ true
      → (line_of c t i).delay_us + through k (resolving_lines c (line_of c t i).entry) n (times (next (table_of c t) i)) ≤ from_slot i
  main-round i can =
      longer-round (can_collide c (line_of c t i).entry) (line_of c t i).delay_us (times (next (table_of c t) i) n)
      (through k (resolving_lines c (line_of c t i).entry) n (times (next (table_of c t) i)))
      (longest_inside k (resolving_lines c (line_of c t i).entry) n (times (next (table_of c t) i))) can

  main-inner : (i : ℕ) → can_collide c (line_of c t i).entry ≡ true
      → longest_inside k (resolving_lines c (line_of c t i).entry) n (times (next (table_of c t) i)) ≤ from_slot i
  main-inner i can =
      longer-inner (can_collide c (line_of c t i).entry) (line_of c t i).delay_us (times (next (table_of c t) i) n)
      (through k (resolving_lines c (line_of c t i).entry) n (times (next (table_of c t) i)))
      (longest_inside k (resolving_lines c (line_of c t i).entry) n (times (next (table_of c t) i))) can

  greatest-bound : (w : Position) → IsOnWalk c t w → (collides : Bool) → IsFree c w collides
      → (line_at c w).delay_us + ahead c k times (step c w collides) n ≤ greatest from_slot (length (table_of c t))
  greatest-bound w (main i i_lt) false free =
      let top = greatest-most from_slot (length (table_of c t)) i i_lt in
      let part = main-straight i in
      omega (arith, top, part)
  greatest-bound w (main i i_lt) true free =
      let top = greatest-most from_slot (length (table_of c t)) i i_lt in
      let part = main-round i (free refl) in
      let found = colliding-event c (line_of c t i).entry (free refl) in
      let moved = ahead-round c rules t lt k n times known i n found.0 found.1 in
      omega (arith, top, part, moved)
  greatest-bound w (inside j e place j_lt is can place_lt) true free =
      absurd (false≢true (sym (resolving-plain c rules e (event-there c rules t j e lt j_lt is) place place_lt) ∙ free refl))
  greatest-bound w (inside j e place j_lt is can place_lt) false free =
      let r : ℕ = (event_of c e).table in
      let after : ℕ → ℕ = times (next (table_of c t) j) in
      let top = greatest-most from_slot (length (table_of c t)) j j_lt in
      let can_here : can_collide c (line_of c t j).entry ≡ true = ap (can_collide c) is ∙ can in
      let part = main-inner j can_here in
      let lines_is : longest_inside k (resolving_lines c (line_of c t j).entry) n after ≡ longest_inside k (table_of c r) n after =
      ap (λ (entry : Entry). longest_inside k (resolving_lines c entry) n after) is in
      let here = longest_inside-most k (table_of c r) n after place place_lt in
      let beyond = ahead-beyond c rules t lt k n times known r place n (t, next (table_of c t) j) false place_lt in
      omega (arith, top, part, lines_is, here, beyond)

  pub greatest-IsGreatest : IsGreatest c rules t lt k n some times known (greatest from_slot (length (table_of c t)))
  greatest-IsGreatest = record { most = greatest-bound }

  met-inside : (i e : ℕ) → i < length (table_of c t) → (line_of c t i).entry ≡ Event e → can_collide c (line_of c t i).entry ≡ true → (worst : ℕ)
      → worst ≡ longest_inside k (resolving_lines c (line_of c t i).entry) n (times (next (table_of c t) i)) → IsMet c t k n times worst
  met-inside i e i_lt is can worst worst_is =
      let r : ℕ = (event_of c e).table in
      let after : ℕ → ℕ = times (next (table_of c t) i) in
      let there = event-there c rules t i e lt i_lt is in
      let found = longest_inside-some k (table_of c r) n after (table-length c rules r (event-table c rules e there)).0 in
      record {
        place = record { place = (r, found.place); back = Some (t, next (table_of c t) i) };
        on = inside i e found.place i_lt is (sym (ap (can_collide c) is) ∙ can) found.place_lt;
        collides = false;
        free = λ no. absurd (false≢true no);
        is = worst_is
            ∙ ap (λ (entry : Entry). longest_inside k (resolving_lines c entry) n after) is
            ∙ found.is
            ∙ ap (λ (x : ℕ). (line_of c r found.place).delay_us + x)
            (sym (ahead-beyond c rules t lt k n times known r found.place n (t, next (table_of c t) i) false found.place_lt));
      }

  met-at : (i : ℕ) → i < length (table_of c t) → (worst : ℕ) → worst ≡ from_slot i → IsMet c t k n times worst
  met-at i i_lt worst worst_is =
      let d : ℕ = (line_of c t i).delay_us in
      let after : ℕ → ℕ = times (next (table_of c t) i) in
      let entry : Entry = (line_of c t i).entry in
      elim (longer-one (can_collide c entry) d (after n) (through k (resolving_lines c entry) n after)
      (longest_inside k (resolving_lines c entry) n after)) [
        | inl straight ↦ record {
          place = record { place = (t, i); back = None };
          on = main i i_lt;
          collides = false;
          free = λ no. absurd (false≢true no);
          is = worst_is ∙ straight;
        }
        | inr ways ↦ elim ways [
          | inl round ↦
              let found = colliding-event c entry round.0 in
              record {
                place = record { place = (t, i); back = None };
                on = main i i_lt;
                collides = true;
                free = λ yes. round.0;
                is = worst_is ∙ round.1 ∙ ap (λ (x : ℕ). d + x) (sym (ahead-round c rules t lt k n times known i n found.0 found.1));
              }
          | inr inner ↦
              let found = colliding-event c entry inner.0 in
              met-inside i found.0 i_lt found.1 inner.0 worst (worst_is ∙ inner.1)
        ]
      ]

  greatest-met : (slots : ℕ) → slots ≡ length (table_of c t) → 1 ≤ slots → IsMet c t k n times (greatest from_slot slots)
  greatest-met zero is more = absurd (omega arith)
  greatest-met (suc slots) is more =
      let found = greatest-one from_slot slots in
      let found_lt = found.i_lt in
      met-at found.i (omega arith) (greatest from_slot (suc slots)) found.is

  pub greatest-wait : IsLongestWait c t k n (greatest from_slot (length (table_of c t)))
  greatest-wait =
      longest-wait c rules t lt k n some times known (greatest from_slot (length (table_of c t))) greatest-IsGreatest
      (greatest-met (length (table_of c t)) refl (table-length c rules t lt).0)
