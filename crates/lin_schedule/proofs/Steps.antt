-- The slots of a walk, by positions in place of times.
use Rattle.std.proofs.Common.{◌≡◌, ℕ, suc, ◌<◌, ◌≤◌, Bool, true, false, List, [], ◌∷◌, length, Some, None, refl, ap, sym, ◌∙◌, subst, arith, inl, inr}
use Rattle.std.specs.Prelude.{nat_lt, if◌then◌else◌, map, All}
use Rattle.std.specs.Option.{option_map_or}
use Rattle.std.proofs.lemmas.Bool.{cases_lt, true≢false, false≢true}
use Rattle.std.proofs.lemmas.List.Elements.{All-get_or}
use Rattle.std.proofs.lemmas.Bool.Decides.{Decides-ltb, nat_tests}
use Rattle.lin_parts.specs.Cluster.{event_of, table_of, line_of}
use Rattle.lin_parts.specs.declared.parts.Parts.{Parts}
use Rattle.lin_frame.specs.declared.sums.SumKind.TheVariants.{Enhanced}
use Rattle.lin_parts.specs.Rules.{IsCluster, IsEntry, is_event}
use Rattle.lin_parts.specs.declared.parts.EventFrame.{EventFrame}
use Rattle.lin_parts.specs.declared.parts.Line.{Line}
use Rattle.lin_parts.specs.declared.parts.Entry.{Entry}
use Rattle.lin_parts.specs.declared.parts.Entry.TheVariants.{Frame, Sporadic, Event, MasterReq, SlaveResp, Fixed, Quiet}
use Rattle.lin_schedule.specs.Carriers.{can_collide}
use Rattle.lin_schedule.specs.Schedule.{Slot, resolving, standing}
use Rattle.lin_schedule.specs.Walker.{Position, position_of}
use Rattle.lin_schedule.proofs.Standings.{AreWalkable, Stands-main, Stands-place, position-start, position_after_main, position_after_place}
use Rattle.lin_schedule.proofs.Times.{next, next-lt, no_line}
use Rattle.lin_schedule.proofs.Clusters.{table-length, line-entry, event-table}

-- the position of a table's walk after slots with these collisions, the newest first
abbrev pub at : Parts → ℕ → List Bool → Position
at c t collisions = position_of c (standing c t (map Slot collisions))

-- the position after a slot
abbrev pub step : Parts → Position → Bool → Position
step c w collides =
    option_map_or (λ back. position_after_place c w.place back)
    w.back
    (position_after_main (if collides then resolving c (line_of c w.place.0 w.place.1).entry else None)
    (w.place.0, next (table_of c w.place.0) w.place.1))

-- the positions of a table's walk: a main slot, or a place of an excursion from the main slot j
pub data IsOnWalk (c : Parts) (t : ℕ) : Position → Type 0 where
  main : (i : ℕ) → i < length (table_of c t) → IsOnWalk c t (record { place = (t, i); back = None })
  inside : (j e place : ℕ) → j < length (table_of c t) → (line_of c t j).entry ≡ Event e
      → can_collide c (Event e) ≡ true → place < length (table_of c (event_of c e).table)
      → IsOnWalk c t (record { place = ((event_of c e).table, place); back = Some (t, next (table_of c t) j) })

-- the next position is that of the next slot
at-main : (c : Parts) → AreWalkable c → (t : ℕ) → t < length c.tables → (collisions : List Bool) (collides : Bool) (i : ℕ) (w : Position)
    → w ≡ record { place = (t, i); back = None } → w ≡ at c t collisions → step c w collides ≡ at c t (collides ∷ collisions)
at-main c h t lt collisions collides i w is stands =
    rw is (Stands-main c h t (map Slot collisions) collides t i lt (sym is ∙ stands))

at-place : (c : Parts) (t : ℕ) (collisions : List Bool) (collides : Bool) (place back : ℕ × ℕ) (w : Position)
    → w ≡ record { place = place; back = Some back } → w ≡ at c t collisions → step c w collides ≡ at c t (collides ∷ collisions)
at-place c t collisions collides place back w is stands =
    rw is (Stands-place c t (map Slot collisions) collides place back (sym is ∙ stands))

pub at-step : (c : Parts) → AreWalkable c → (t : ℕ) → t < length c.tables → (collisions : List Bool) (collides : Bool) (w : Position)
    → IsOnWalk c t w → w ≡ at c t collisions → step c w collides ≡ at c t (collides ∷ collisions)
at-step c h t lt collisions collides w (main i i_lt) stands = at-main c h t lt collisions collides i w refl stands
at-step c h t lt collisions collides w (inside j e place j_lt is can place_lt) stands =
    at-place c t collisions collides ((event_of c e).table, place) (t, next (table_of c t) j) w refl stands

-- a walk begins at its table's start
pub at-start : (c : Parts) (t : ℕ) → record { place = (t, 0); back = None } ≡ at c t []
at-start c t = position-start c t

-- in a resolving table nothing can collide
no_event : EventFrame
no_event = record { name = []; pid = 0x80; model = Enhanced; table = 0; frames = [] }

plain-entry : (c : Parts) (entry : Entry) → is_event entry ≡ false → can_collide c entry ≡ false
plain-entry c (Event e) is = absurd (true≢false is)
plain-entry c (Frame f) is = refl
plain-entry c (Sporadic s) is = refl
plain-entry c MasterReq is = refl
plain-entry c SlaveResp is = refl
plain-entry c (Fixed b) is = refl
plain-entry c Quiet is = refl

pub resolving-plain : (c : Parts) → IsCluster c → (e : ℕ) → e < length c.events → (place : ℕ)
    → place < length (table_of c (event_of c e).table)
    → can_collide c (line_of c (event_of c e).table place).entry ≡ false
unfolding no_event
resolving-plain c rules e lt place place_lt =
    let lines : All (λ line. is_event line.entry ≡ false) (table_of c (event_of c e).table) =
    All-get_or (λ (event : EventFrame). All (λ line. is_event line.entry ≡ false) (table_of c event.table)) c.events e no_event lt rules.events.resolving in
    plain-entry c (line_of c (event_of c e).table place).entry
    (All-get_or (λ (line : Line). is_event line.entry ≡ false) (table_of c (event_of c e).table) place no_line place_lt lines)

-- the event-triggered frame of an entry is there, and its table
pub event-there : (c : Parts) → IsCluster c → (t j e : ℕ) → t < length c.tables → j < length (table_of c t)
    → (line_of c t j).entry ≡ Event e → e < length c.events
event-there c rules t j e t_lt j_lt is = subst (IsEntry c) is (line-entry c rules (t, j) (t_lt, j_lt))

-- an entry in whose slot answers can collide
pub colliding-event : (c : Parts) (entry : Entry) → can_collide c entry ≡ true → (e : ℕ) × (entry ≡ Event e)
colliding-event c (Event e) can = (e, refl)
colliding-event c (Frame f) can = absurd (false≢true can)
colliding-event c (Sporadic s) can = absurd (false≢true can)
colliding-event c MasterReq can = absurd (false≢true can)
colliding-event c SlaveResp can = absurd (false≢true can)
colliding-event c (Fixed b) can = absurd (false≢true can)
colliding-event c Quiet can = absurd (false≢true can)

-- after a main slot, without a collision and with one
pub step-main : (c : Parts) (t i : ℕ) → step c (record { place = (t, i); back = None }) false ≡ record { place = (t, next (table_of c t) i); back = None }
step-main c t i = refl

pub step-collided : (c : Parts) (t i e : ℕ) → (line_of c t i).entry ≡ Event e
    → step c (record { place = (t, i); back = None }) true
    ≡ record { place = ((event_of c e).table, 0); back = Some (t, next (table_of c t) i) }
step-collided c t i e is =
    ap (λ (entry : Entry). position_after_main (resolving c entry) (t, next (table_of c t) i)) is

-- after a place of an excursion, inside and at its end
pub step-inside : (c : Parts) (r place : ℕ) (back : ℕ × ℕ) (collides : Bool) → suc place < length (table_of c r)
    → step c (record { place = (r, place); back = Some back }) collides ≡ record { place = (r, suc place); back = Some back }
step-inside c r place back collides lt =
    let test : nat_lt (suc place) (length (table_of c r)) ≡ true = (Decides-ltb (suc place) (length (table_of c r))).1 lt in
    rw test refl

pub step-end : (c : Parts) (r place : ℕ) (back : ℕ × ℕ) (collides : Bool) → length (table_of c r) ≤ suc place
    → step c (record { place = (r, place); back = Some back }) collides ≡ record { place = back; back = None }
step-end c r place back collides le =
    let test : nat_lt (suc place) (length (table_of c r)) ≡ false = grind (arith, nat_tests) in
    rw test refl

-- what may collide in the slot of a position
abbrev pub IsFree : Parts → Position → Bool → Type 0
IsFree c w collides = collides ≡ true → can_collide c (line_of c w.place.0 w.place.1).entry ≡ true

-- the walk stays on its positions
on-collided : (c : Parts) → IsCluster c → (t i e : ℕ) → t < length c.tables → i < length (table_of c t) → (line_of c t i).entry ≡ Event e
    → can_collide c (line_of c t i).entry ≡ true → IsOnWalk c t (step c (record { place = (t, i); back = None }) true)
on-collided c rules t i e t_lt i_lt is can =
    let there = event-there c rules t i e t_lt i_lt is in
    let some = (table-length c rules (event_of c e).table (event-table c rules e there)).0 in
    subst (IsOnWalk c t) (sym (step-collided c t i e is))
    (inside i e 0 i_lt is (subst (λ (entry : Entry). can_collide c entry ≡ true) is can) some)

pub on-step : (c : Parts) → IsCluster c → (t : ℕ) → t < length c.tables → (w : Position) → IsOnWalk c t w → (collides : Bool) → IsFree c w collides
    → IsOnWalk c t (step c w collides)
on-step c rules t lt w (main i i_lt) false free = main (next (table_of c t) i) (next-lt (table_of c t) i i_lt)
on-step c rules t lt w (main i i_lt) true free =
    let found = colliding-event c (line_of c t i).entry (free refl) in
    on-collided c rules t i found.0 lt i_lt found.1 (free refl)
on-step c rules t lt w (inside j e place j_lt is can place_lt) collides free =
    let r : ℕ = (event_of c e).table in
    elim (cases_lt (suc place) (length (table_of c r))) [
      | inl more ↦
          subst (IsOnWalk c t) (sym (step-inside c r place (t, next (table_of c t) j) collides more))
          (inside j e (suc place) j_lt is can more)
      | inr last ↦
          subst (IsOnWalk c t) (sym (step-end c r place (t, next (table_of c t) j) collides last))
          (main (next (table_of c t) j) (next-lt (table_of c t) j j_lt))
    ]
