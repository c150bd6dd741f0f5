-- What both ends of a ring say of its lists, and what settled ports keep.
use Rattle.std.proofs.Common.{◌≡◌, ◌≢◌, ◌<◌, ◌≤◌, inl, inr, ℕ, List, [], ◌∷◌, ◌++◌, length, map, drop, Some, slice_set, refl, sym, ap, ◌∙◌, arith, append-nil, length-append, true, false, Bool, Result, Ok, Err, zero, suc, vec_len}
use Rattle.std.specs.List.{slice_get}
use Rattle.std.proofs.lemmas.List.{map-append, length-map, drop-append-le}
use mathlib.Core.List.{IsPrefix}
use Rattle.std.proofs.lemmas.Option.{slice_get_within}
use Rattle.lin_parts.specs.Cluster.{nodes}
use Rattle.lin_core.specs.Core.{CoreData, entry_with_reply, IsHistory, IsStepped}
use Rattle.lin_parts.specs.Sound.{IsSound}
use Rattle.lin_core.specs.declared.hold.Hold.{Hold}
use Rattle.lin_core.specs.declared.log.LogEntry.{LogEntry}
use Rattle.lin_core.specs.declared.port.PortId.{PortId}
use Rattle.lin_core.specs.declared.port.PortId.TheVariants.{Bus}
use Rattle.lin_core.specs.declared.step.Step.{Step}
use Rattle.lin_threads.specs.declared.ports.lane.Lane.{Lane}
use Rattle.lin_threads.specs.declared.ports.Receipt.{Receipt}
use Rattle.lin_threads.specs.Steps.{notes, port_at}
use Rattle.lin_threads.specs.Ports.{Wiring, receipt_wiring, receipt_id, receipt_took}
use Rattle.lin_threads.specs.Lanes.{given_in, SameLane, AreInPortOrder, Serves, Served, lane_wiring, port_of}
use Rattle.lin_threads.specs.Settled.{IsPassedOver, IsSettledIn, KeptLane, LaneSettles, Settles, StaysSettled, TookOnlyNotes}
use Rattle.lin_threads.specs.declared.ports.settling.Settled.{Settled}
use Rattle.lin_threads.specs.declared.ports.settling.Settled.TheVariants.{Whole, Left}
use Rattle.lin_threads.specs.declared.ports.pump.Pump.{Pump}
use Rattle.lin_threads.specs.Pumps.{since, IsWired}
use Rattle.rtrb.specs.Ring.{sent}
use Rattle.lin_threads.proofs.PortLemmas.{logged-other, notes-append, port_at-apart, port_at-no_bus}
use Rattle.lin_threads.proofs.LaneLemmas.{port_of-same, slice_get-kept, slice_get-set_same}
use Rattle.lin_threads.proofs.RoundLemmas.{prefix_trans}
use Rattle.lin_threads.proofs.TellLemmas.{given_first}
use Rattle.lin_threads.proofs.GivenLemmas.{gave_lane, given_set}
use Rattle.lin_threads.proofs.MessageLemmas.{begins-growths}

pub fifo_of : {X Y : Type 0} (f : X → Y) (xs ys zs : List X) (k : ℕ) → xs ++ ys ≡ zs → k ≡ length ys → (rest : List Y) × (map f xs ++ rest ≡ map f zs) × (length rest ≡ k)
fifo_of f xs ys zs k e count = (map f ys, sym (map-append f xs ys) ∙ ap (map f) e, length-map ys f ∙ sym count)

no_rest : {X : Type 0} (xs : List X) → length xs ≡ 0 → xs ≡ []
no_rest [] h = refl
no_rest (x ∷ xs) h = absurd (omega (arith, h))

pub all_popped : {X : Type 0} (xs rest ys : List X) (k : ℕ) → xs ++ rest ≡ ys → length rest ≡ k → k ≡ 0 → xs ≡ ys
all_popped xs rest ys k e count none = sym (append-nil xs) ∙ ap (λ zs. xs ++ zs) (sym (no_rest rest (count ∙ none))) ∙ e

pub some_left : {X : Type 0} (xs rest ys : List X) (k : ℕ) → xs ++ rest ≡ ys → length rest ≡ k → 0 < k → length xs < length ys
some_left xs rest ys k e count some = rw (← e) (let q = length-append xs rest in omega arith)

-- a port is passed over, whatever becomes of one lane that stays the same
pub passed_set : (lanes : List Lane) (i : ℕ) (old lane : Lane) (w : Wiring) → slice_get lanes i ≡ Some old → SameLane old lane → IsPassedOver lanes w → IsPassedOver (slice_set lanes i lane) w
passed_set lanes i old lane w at same h = elim (slice_get-kept lanes i lane h.0 h.1 h.2) [
  | inl e ↦ let found : Some h.1 ≡ Some old = sym h.2 ∙ ap (slice_get lanes) e ∙ at in
      let is : h.1 ≡ old = cc in
      (i, lane, slice_get-set_same lanes i old lane at, same.wiring ∙ ap lane_wiring (sym is) ∙ h.3, same.settled (ap (λ l. l.settled) (sym is) ∙ h.4))
  | inr k ↦ (h.0, h.1, k.1, h.3, h.4)
]

notes_more : (base : ℕ) (log : List LogEntry) (e : LogEntry) (port : PortId) → base ≤ length log → IsPrefix (notes (drop base log) port) (notes (drop base (log ++ e ∷ [])) port)
notes_more base log e port h = (notes (e ∷ []) port, sym (notes-append (drop base log) (e ∷ []) port) ∙ ap (λ es. notes es port) (sym (drop-append-le base log (e ∷ []) h)))

-- another port's entry changes nothing for a settled port
settled_other : (base : ℕ) (log : List LogEntry) (e : LogEntry) (lanes lanes' : List Lane) (r : Receipt) → base ≤ length log → e.port ≢ receipt_id r → IsPassedOver lanes' (receipt_wiring r)
    → IsSettledIn (drop base log) lanes r → IsSettledIn (drop base (log ++ e ∷ [])) lanes' r
settled_other base log e lanes lanes' r h other passed s = record {
  passed = passed;
  whole = rw (drop-append-le base log (e ∷ []) h) (logged-other (drop base log) e (receipt_id r) other ∙ s.whole);
  took = prefix_trans _ _ _ s.took (notes_more base log e (receipt_id r) h);
}

pub settled_lanes : (es : List LogEntry) (lanes lanes' : List Lane) (r : Receipt) → IsPassedOver lanes' (receipt_wiring r) → IsSettledIn es lanes r → IsSettledIn es lanes' r
settled_lanes es lanes lanes' r passed s = record { passed = passed; whole = s.whole; took = s.took }

served_other : {E : Type 0} (base : ℕ) (port : PortId) (old new : CoreData) (res : Result Bool E) (lanes lanes' : List Lane) (r : Receipt) → base ≤ length old.log → Served port old new res
    → port ≢ receipt_id r → IsPassedOver lanes' (receipt_wiring r) → IsSettledIn (drop base old.log) lanes r → IsSettledIn (drop base new.log) lanes' r
served_other base port old new (Ok true) lanes lanes' r h k other passed s = rw k.log (settled_other base old.log (entry_with_reply old port k.step) lanes lanes' r h other passed s)
served_other base port old new (Ok false) lanes lanes' r h k other passed s = rw k (settled_lanes (drop base old.log) lanes lanes' r passed s)
served_other base port old new (Err e) lanes lanes' r h k other passed s = rw k (settled_lanes (drop base old.log) lanes lanes' r passed s)

-- one lane was served: the log has nothing more of it where it is settled
pub served_settled : {E : Type 0} (base nodes i : ℕ) (lanes : List Lane) (old lane : Lane) (core core' : CoreData) (res : Result Bool E) (r : Receipt) → base ≤ length core.log → AreInPortOrder nodes lanes
    → slice_get lanes i ≡ Some old → SameLane old lane → Served (port_of old) core core' res → (old.settled ≡ true → core'.log ≡ core.log)
    → IsSettledIn (drop base core.log) lanes r → IsSettledIn (drop base core'.log) (slice_set lanes i lane) r
served_settled base nodes i lanes old lane core core' res r h order at same k still s =
    let p = s.passed in
    let passed = passed_set lanes i old lane (receipt_wiring r) at same s.passed in
    elim (slice_get-kept lanes i lane p.0 p.1 p.2) [
      | inl e ↦ let found : Some p.1 ≡ Some old = sym p.2 ∙ ap (slice_get lanes) e ∙ at in
          let is : p.1 ≡ old = cc in
          rw (still (ap (λ l. l.settled) (sym is) ∙ p.4)) (settled_lanes (drop base core.log) lanes (slice_set lanes i lane) r passed s)
      | inr e ↦ served_other base (port_of old) core core' res lanes (slice_set lanes i lane) r h k
          (λ q. e.0 (port_at-apart nodes p.0 i (sym (order p.0 p.1 p.2) ∙ ap (λ w. w.port) p.3 ∙ sym q ∙ order i old at))) passed s
    ]

-- a port that is passed over is told nothing more, whichever lane is told
pub settled_given : (nodes i : ℕ) (lanes : List Lane) (old lane : Lane) (w : Wiring) → AreInPortOrder nodes lanes → slice_get lanes i ≡ Some old → SameLane old lane → (old.settled ≡ true → sent lane.notes ≡ sent old.notes)
    → IsPassedOver lanes w → given_in w.port (slice_set lanes i lane) ≡ given_in w.port lanes
settled_given nodes i lanes old lane w order at same still h = elim (slice_get-kept lanes i lane h.0 h.1 h.2) [
  | inl e ↦ let found : Some h.1 ≡ Some old = sym h.2 ∙ ap (slice_get lanes) e ∙ at in
      let is : h.1 ≡ old = cc in
      given_set lanes i old lane w.port at (port_of-same old lane same) (inr (still (ap (λ l. l.settled) (sym is) ∙ h.4)))
  | inr k ↦ given_set lanes i old lane w.port at (port_of-same old lane same)
      (inl (λ q. k.0 (port_at-apart nodes h.0 i (sym (order h.0 h.1 h.2) ∙ ap (λ v. v.port) h.3 ∙ sym q ∙ order i old at))))
]

pub stays_trans : (a b c : Pump) → StaysSettled a b → StaysSettled b c → StaysSettled a c
stays_trans a b c h k r s = let p = h r s in let q = k r p.0 in (q.0, q.1 ∙ p.1)

-- a step of the bus
pub bus_settled : (base nodes : ℕ) (lanes : List Lane) (old new : CoreData) (step : Step) (res : Result Unit Hold) (r : Receipt) → base ≤ length old.log → AreInPortOrder nodes lanes → IsStepped old Bus step res new
    → IsSettledIn (drop base old.log) lanes r → IsSettledIn (drop base new.log) lanes r
bus_settled base nodes lanes old new step (Ok u) r h order k s =
    let p = s.passed in
    rw k.0 (settled_other base old.log (entry_with_reply old Bus step) lanes lanes r h (λ q. port_at-no_bus nodes p.0 (sym (order p.0 p.1 p.2) ∙ ap (λ w. w.port) p.3 ∙ sym q)) s.passed s)
bus_settled base nodes lanes old new step (Err e) r h order k s = rw k.0 s

pub kept_same : (a b : Lane) → KeptLane a b → SameLane a b
kept_same a b k = record { wiring = k.wiring; settled = k.settled }

pub kept_serves : (base : ℕ) (log : List LogEntry) (a b : Lane) → KeptLane a b → Serves base log a → Serves base log b
kept_serves base log a b k s =
    let port : port_of b ≡ port_of a = ap (λ w. w.port) k.wiring in record {
      steps = rw (port, k.steps) s.steps;
      after = rw k.seen s.after;
      within = rw k.seen s.within;
      whole = rw (k.seen, k.part) s.whole;
      notes = rw (port, k.seen, k.part, k.notes) s.notes;
      given = rw (k.given, k.notes) s.given;
    }

took_notes : (p : Pump) (i : ℕ) (lane : Lane) (s : Receipt) → IsSound p.core.cluster → IsHistory p.core → slice_get p.lanes.items i ≡ Some lane → lane_wiring lane ≡ receipt_wiring s
    → IsPrefix (receipt_took s) (sent lane.notes) → TookOnlyNotes p s
took_notes p i lane s sound history at wired h =
    let port : receipt_id s ≡ port_of lane = sym (ap (λ w. w.port) wired) in
    let gave = gave_lane p i lane at in
    let named : IsPrefix (receipt_took s) (notes (since p) (receipt_id s)) = rw port (prefix_trans _ _ _ h (given_first p.base p.core.log lane (p.serves i lane at))) in
    record { named = named; given = rw (port, gave) h; messages = begins-growths p.core p.base (receipt_id s) (receipt_took s) sound history named }

-- what settling says of a lane, it says of the pump with that lane
pub settles_at : (p : Pump) (i : ℕ) (old lane : Lane) (r : Receipt) (res : Settled) → IsSound p.core.cluster → IsHistory p.core → slice_get p.lanes.items i ≡ Some lane → KeptLane old lane → receipt_wiring r ≡ lane_wiring old
    → LaneSettles old lane r res → Settles p r res
settles_at p i old lane r (Whole s) sound history at k w h =
    let wired : lane_wiring lane ≡ receipt_wiring s = k.wiring ∙ sym w ∙ sym h.0.wiring in
    let port : receipt_id s ≡ port_of lane = sym (ap (λ w. w.port) wired) in
    let serves = p.serves i lane at in
    let took = took_notes p i lane s sound history at wired h.1 in
    (h.0, took, record { passed = (i, lane, at, wired, h.3); whole = rw port (serves.steps ∙ h.2); took = took.named })
settles_at p i old lane r (Left s) sound history at k w h =
    let wired : lane_wiring lane ≡ receipt_wiring s = k.wiring ∙ sym w ∙ sym h.0.wiring in
    let port : receipt_id s ≡ port_of lane = sym (ap (λ w. w.port) wired) in
    let serves = p.serves i lane at in
    (h.0, took_notes p i lane s sound history at wired h.1, record { first = rw (port, serves.steps) h.3; shorter = rw (port, serves.steps) h.2 })

slice_get-of_map : {X Y : Type 0} (f : X → Y) (xs : List X) (i : ℕ) (y : Y) → slice_get (map f xs) i ≡ Some y → (x : X) × (slice_get xs i ≡ Some x) × (f x ≡ y)
slice_get-of_map f [] i y h = absurd (cc)
slice_get-of_map f (x ∷ xs) zero y h = (x, refl, cc)
slice_get-of_map f (x ∷ xs) (suc i) y h = slice_get-of_map f xs i y h

-- the lane of a port that the pump serves
found_lane : (p : Pump) (w : Wiring) → IsWired p w → (j : ℕ) × (l : Lane) × (slice_get p.lanes.items j ≡ Some l) × (lane_wiring l ≡ w)
found_lane p w h = let k = slice_get-of_map lane_wiring p.lanes.items h.0 w h.1 in (h.0, k.0, k.1, k.2)

pub wired_at : (p : Pump) (w : Wiring) (i : ℕ) (lane : Lane) → IsWired p w → slice_get p.lanes.items i ≡ Some lane → port_at (nodes p.core.cluster) i ≡ w.port → w ≡ lane_wiring lane
wired_at p w i lane h at port =
    let f = found_lane p w h in
    let e : f.0 ≡ i = port_at-apart (nodes p.core.cluster) f.0 i (sym (p.order f.0 f.1 f.2) ∙ ap (λ v. v.port) f.3 ∙ sym port) in
    let found : Some f.1 ≡ Some lane = sym f.2 ∙ ap (slice_get p.lanes.items) e ∙ at in
    let is : f.1 ≡ lane = cc in
    sym f.3 ∙ ap lane_wiring is

pub wired_none : (p : Pump) (w : Wiring) → IsWired p w → (port : PortId) → port ≡ w.port → ((i : ℕ) → i < vec_len p.lanes → port_at (nodes p.core.cluster) i ≢ port) → ⊥
wired_none p w h port is none =
    let f = found_lane p w h in
    none f.0 (let ok = p.lanes.ok in let q = slice_get_within p.lanes.items f.0 f.1 f.2 in omega arith) (sym (p.order f.0 f.1 f.2) ∙ ap (λ v. v.port) f.3 ∙ sym is)
