-- Lanes, as the log grows and as one of them changes.
use Rattle.std.proofs.Common.{◌≡◌, ◌≢◌, ◌<◌, ◌≤◌, ◌+◌, ◌⊎◌, ℕ, zero, suc, List, [], ◌∷◌, ◌++◌, length, drop, map, Some, slice_set, slice_index_or, vec_len, refl, sym, ap, length-append, append-nil, ◌∙◌, inl, inr, arith, Bool, true, false, Result, Ok, Err, OnOk}
use Rattle.std.specs.List.{slice_get}
use Rattle.std.proofs.lemmas.Option.{slice_get_read}
use Rattle.std.proofs.lemmas.List.{drop-append-le}
use Rattle.lin_core.specs.Core.{CoreData, entry_with_reply, IsAlike, IsStepped}
use Rattle.lin_core.specs.Replies.{may}
use Rattle.lin_core.specs.declared.hold.Hold.{Hold}
use Rattle.lin_core.specs.declared.port.PortId.TheVariants.{Bus}
use Rattle.lin_core.specs.declared.log.LogEntry.{LogEntry}
use Rattle.lin_core.specs.declared.port.PortId.{PortId}
use Rattle.lin_core.specs.declared.step.Step.{Step}
use Rattle.lin_threads.specs.declared.ports.lane.Lane.{Lane}
use Rattle.lin_threads.specs.declared.ports.pump.Pump.{Pump}
use mathlib.Core.List.{IsPrefix}
use Rattle.rtrb.specs.Ring.{sent}
use Rattle.lin_threads.specs.Lanes.{steps_from_ring, port_of, lane_wiring, SameLane, Serves, AllServe, FirstTold, AreInPortOrder, IsTold, OnlyOwn, Served}
use Rattle.lin_threads.proofs.PortLemmas.{logged-own, logged-other, told_more, port_at-no_bus}

-- what a list has after a write at one place
pub slice_get-set : {X : Type 0} (xs : List X) (i : ℕ) (y : X) (j : ℕ) (z : X) → slice_get (slice_set xs i y) j ≡ Some z → ((j ≡ i) × (z ≡ y)) ⊎ ((j ≢ i) × (slice_get xs j ≡ Some z))
slice_get-set [] i y j z e = absurd (cc)
slice_get-set (x ∷ xs) zero y zero z e = inl (refl, cc)
slice_get-set (x ∷ xs) zero y (suc j) z e = inr ((λ q. absurd (omega (arith, q))), e)
slice_get-set (x ∷ xs) (suc i) y zero z e = inr ((λ q. absurd (omega (arith, q))), e)
slice_get-set (x ∷ xs) (suc i) y (suc j) z e = elim (slice_get-set xs i y j z e) [
  | inl h ↦ inl (ap suc h.0, h.1)
  | inr h ↦ inr ((λ q. h.0 (omega (arith, q))), h.1)
]

pub slice_get-set_same : {X : Type 0} (xs : List X) (i : ℕ) (x y : X) → slice_get xs i ≡ Some x → slice_get (slice_set xs i y) i ≡ Some y
slice_get-set_same [] i x y e = absurd (cc)
slice_get-set_same (a ∷ xs) zero x y e = refl
slice_get-set_same (a ∷ xs) (suc i) x y e = slice_get-set_same xs i x y e

-- either the place that was written, or another with what it had
pub slice_get-kept : {X : Type 0} (xs : List X) (i : ℕ) (y : X) (j : ℕ) (z : X) → slice_get xs j ≡ Some z → (j ≡ i) ⊎ ((j ≢ i) × (slice_get (slice_set xs i y) j ≡ Some z))
slice_get-kept [] i y j z e = absurd (cc)
slice_get-kept (x ∷ xs) zero y zero z e = inl refl
slice_get-kept (x ∷ xs) zero y (suc j) z e = inr ((λ q. absurd (omega (arith, q))), e)
slice_get-kept (x ∷ xs) (suc i) y zero z e = inr ((λ q. absurd (omega (arith, q))), e)
slice_get-kept (x ∷ xs) (suc i) y (suc j) z e = elim (slice_get-kept xs i y j z e) [
  | inl h ↦ inl (ap suc h)
  | inr h ↦ inr ((λ q. h.0 (omega (arith, q))), h.1)
]

pub port_of-same : (a b : Lane) → SameLane a b → port_of b ≡ port_of a
port_of-same a b h = ap (λ w. w.port) h.wiring

-- what a lane keeps of the log, whatever it is that stands in front of `base`
pub serves_own : (base : ℕ) (log : List LogEntry) (e : LogEntry) (a b : Lane) → Serves base log a → e.port ≡ port_of a → port_of b ≡ port_of a
    → steps_from_ring b.number b.steps ≡ steps_from_ring a.number a.steps ++ e.step ∷ [] → b.seen ≡ a.seen → b.part ≡ a.part → b.given ≡ a.given → sent b.notes ≡ sent a.notes
    → Serves base (log ++ e ∷ []) b
serves_own base log e a b s by port got seen part given told_ = record {
  steps = rw (port, drop-append-le base log (e ∷ []) (let p = s.after in let q = s.within in omega arith))
      (logged-own (drop base log) e (port_of a) by ∙ ap (λ xs. xs ++ e.step ∷ []) s.steps ∙ sym got);
  after = rw seen s.after;
  within = rw seen (let h = s.within in omega (arith, length-append log (e ∷ [])));
  whole = λ z. absurd (let h = s.within in let q = length-append log (e ∷ []) in omega arith);
  notes = rw (port, seen, part) (told_ ∙ s.notes ∙ sym (told_more (port_of a) base a.seen a.part log e s.within s.whole));
  given = given ∙ s.given ∙ ap length (sym told_);
}

-- another port's step was logged
pub serves_other : (base : ℕ) (log : List LogEntry) (e : LogEntry) (a : Lane) → e.port ≢ port_of a → Serves base log a → Serves base (log ++ e ∷ []) a
serves_other base log e a by s = record {
  steps = rw (drop-append-le base log (e ∷ []) (let p = s.after in let q = s.within in omega arith))
      (logged-other (drop base log) e (port_of a) by ∙ s.steps);
  after = s.after;
  within = let h = s.within in omega (arith, length-append log (e ∷ []));
  whole = λ z. absurd (let h = s.within in let q = length-append log (e ∷ []) in omega arith);
  notes = s.notes ∙ sym (told_more (port_of a) base a.seen a.part log e s.within s.whole);
  given = s.given;
}

pub served_others : {E : Type 0} (base : ℕ) (port : PortId) (old new : CoreData) (r : Result Bool E) (l : Lane) → port_of l ≢ port → Served port old new r → Serves base old.log l → Serves base new.log l
served_others base port old new (Ok true) l n h s = rw h.log (serves_other base old.log (entry_with_reply old port h.step) l (λ q. n (sym q)) s)
served_others base port old new (Ok false) l n h s = rw h s
served_others base port old new (Err e) l n h s = rw h s

pub all_serve : (base : ℕ) (log new : List LogEntry) (lanes : List Lane) (i : ℕ) (lane : Lane) → AllServe base log lanes → Serves base new lane
    → ((j : ℕ) (l : Lane) → j ≢ i → slice_get lanes j ≡ Some l → Serves base log l → Serves base new l) → AllServe base new (slice_set lanes i lane)
all_serve base log new lanes i lane all here there j l at = elim (slice_get-set lanes i lane j l at) [
  | inl h ↦ rw h.1 here
  | inr h ↦ there j l h.0 h.1 (all j l h.1)
]

pub map-set_at : {X Y : Type 0} (f : X → Y) (xs : List X) (i : ℕ) (x y : X) → slice_get xs i ≡ Some x → f y ≡ f x → map f (slice_set xs i y) ≡ map f xs
map-set_at f [] i x y e h = absurd (cc)
map-set_at f (a ∷ xs) zero x y e h = (let k : a ≡ x = cc in ap (λ z. z ∷ map f xs) (h ∙ ap f (sym k)))
map-set_at f (a ∷ xs) (suc i) x y e h = ap (λ zs. f a ∷ zs) (map-set_at f xs i x y e h)

pub same_wirings : (lanes : List Lane) (i : ℕ) (old lane : Lane) → slice_get lanes i ≡ Some old → lane_wiring lane ≡ lane_wiring old → map lane_wiring (slice_set lanes i lane) ≡ map lane_wiring lanes
same_wirings lanes i old lane at same = map-set_at lane_wiring lanes i old lane at same

pub in_order : (nodes : ℕ) (lanes : List Lane) (i : ℕ) (old lane : Lane) → slice_get lanes i ≡ Some old → SameLane old lane → AreInPortOrder nodes lanes → AreInPortOrder nodes (slice_set lanes i lane)
in_order nodes lanes i old lane at same order j l here = elim (slice_get-set lanes i lane j l here) [
  | inl h ↦ rw (h.0, h.1) (port_of-same old lane same ∙ order i old at)
  | inr h ↦ order j l h.1
]

longer : (base : ℕ) (log : List LogEntry) (e : LogEntry) → base ≤ length log → base ≤ length (log ++ e ∷ [])
longer base log e h = omega (arith, length-append log (e ∷ []))

pub served_longer : {E : Type 0} (base : ℕ) (port : PortId) (old new : CoreData) (r : Result Bool E) → base ≤ length old.log → Served port old new r → base ≤ length new.log
served_longer base port old new (Ok true) h s = rw s.log (longer base old.log (entry_with_reply old port s.step) h)
served_longer base port old new (Ok false) h s = rw s h
served_longer base port old new (Err e) h s = rw s h

-- an item of a list with one more at its end
slice_get-end : {X : Type 0} (xs : List X) (x : X) (i : ℕ) (y : X) → slice_get (xs ++ x ∷ []) i ≡ Some y → (slice_get xs i ≡ Some y) ⊎ (y ≡ x)
slice_get-end [] x zero y h = inr (cc)
slice_get-end [] x (suc i) y h = absurd (cc)
slice_get-end (a ∷ xs) x zero y h = inl h
slice_get-end (a ∷ xs) x (suc i) y h = slice_get-end xs x i y h

pub own_more : (base : ℕ) (log : List LogEntry) (e : LogEntry) → base ≤ length log → may e.port e.step ≡ true → OnlyOwn (drop base log) → OnlyOwn (drop base (log ++ e ∷ []))
own_more base log e h own all i x at =
    let at' : slice_get (drop base log ++ e ∷ []) i ≡ Some x = rw (drop-append-le base log (e ∷ []) h) at at in
    elim (slice_get-end (drop base log) e i x at') [
      | inl p ↦ all i x p
      | inr q ↦ rw q own
    ]

pub served_own : {E : Type 0} (base : ℕ) (port : PortId) (old new : CoreData) (r : Result Bool E) → base ≤ length old.log → Served port old new r → OnlyOwn (drop base old.log) → OnlyOwn (drop base new.log)
served_own base port old new (Ok true) h s own = rw s.log (own_more base old.log (entry_with_reply old port s.step) h s.own own)
served_own base port old new (Ok false) h s own = rw s own
served_own base port old new (Err e) h s own = rw s own

-- a step of the bus
pub bus_longer : (base : ℕ) (old new : CoreData) (step : Step) (r : Result Unit Hold) → base ≤ length old.log → IsStepped old Bus step r new → base ≤ length new.log
bus_longer base old new step (Ok u) h s = rw s.0 (longer base old.log (entry_with_reply old Bus step) h)
bus_longer base old new step (Err e) h s = rw s.0 h

pub bus_serves : (base nodes : ℕ) (lanes : List Lane) (old new : CoreData) (step : Step) (r : Result Unit Hold) → AreInPortOrder nodes lanes → AllServe base old.log lanes → IsStepped old Bus step r new → AllServe base new.log lanes
bus_serves base nodes lanes old new step (Ok u) order all s i l at =
    rw s.0 (serves_other base old.log (entry_with_reply old Bus step) l (λ q. port_at-no_bus nodes i (sym (order i l at) ∙ sym q)) (all i l at))
bus_serves base nodes lanes old new step (Err e) order all s i l at = rw s.0 (all i l at)

pub bus_own : (base : ℕ) (old new : CoreData) (step : Step) (r : Result Unit Hold) → base ≤ length old.log → OnlyOwn (drop base old.log) → IsStepped old Bus step r new → OnlyOwn (drop base new.log)
bus_own base old new step (Ok u) h own s = rw s.0 (own_more base old.log (entry_with_reply old Bus step) h refl own)
bus_own base old new step (Err e) h own s = rw s.0 own

pub bus_alike : (old new : CoreData) (step : Step) (r : Result Unit Hold) → IsStepped old Bus step r new → IsAlike old new
bus_alike old new step (Ok u) s = s.1
bus_alike old new step (Err e) s = s.2

pub bus_prefix : (old new : CoreData) (step : Step) (r : Result Unit Hold) → IsStepped old Bus step r new → IsPrefix old.log new.log
bus_prefix old new step (Ok u) s = (entry_with_reply old Bus step ∷ [], sym s.0)
bus_prefix old new step (Err e) s = ([], append-nil old.log ∙ sym s.0)

-- one more lane was told its notes
pub told_more_lanes : {E : Type 0} (r : Result Unit E) (es : List LogEntry) (lanes : List Lane) (i : ℕ) (lane : Lane) → FirstTold i es lanes → OnOk r (IsTold es lane)
    → OnOk r (FirstTold (i + 1) es (slice_set lanes i lane))
told_more_lanes (Err e) es lanes i lane first told = told
told_more_lanes (Ok u) es lanes i lane first told = λ j l below at. elim (slice_get-set lanes i lane j l at) [
  | inl h ↦ rw h.1 told
  | inr h ↦ first j l (let n = h.0 in omega arith) h.1
]

-- the lane at a place
pub at_lane : (p : Pump) (i : ℕ) (lane : Lane) → i < vec_len p.lanes → lane ≡ slice_index_or p.lanes.items i lane → slice_get p.lanes.items i ≡ Some lane
at_lane p i lane h is = slice_get_read p.lanes.items _ i lane refl (let ok = p.lanes.ok in omega arith) is
