-- The notes that were pushed to a port.
use Rattle.std.proofs.Common.{◌≡◌, ◌≢◌, ◌<◌, ℕ, zero, suc, List, [], ◌∷◌, length, Some, if◌then◌else◌, refl, sym, ap, subst, ◌∙◌, arith, vec_len, slice_index_or, slice_set, ◌⊎◌, inl, inr}
use Rattle.std.specs.List.{slice_get}
use Rattle.rtrb.specs.Ring.{sent}
use Rattle.lin_core.specs.declared.port.PortId.{PortId}
use Rattle.std.proofs.lemmas.Option.{slice_get_within}
use mathlib.Core.List.{IsPrefix}
use Rattle.lin_parts.specs.Cluster.{nodes}
use Rattle.lin_threads.specs.declared.ports.pump.Pump.{Pump}
use Rattle.lin_threads.specs.Pumps.{given_to, since}
use Rattle.lin_threads.specs.Steps.{same_port, port_at, notes}
use Rattle.lin_threads.specs.Lanes.{given_in, port_of}
use Rattle.lin_threads.specs.declared.ports.lane.Lane.{Lane}
use Rattle.lin_threads.proofs.PortLemmas.{port_at-apart, same_port-refl, same_port-false}
use Rattle.lin_threads.proofs.LaneLemmas.{at_lane}
use Rattle.lin_threads.proofs.TellLemmas.{given_first}

-- the lane at a place that alone has this port
pub given_at : (lanes : List Lane) (i : ℕ) (lane : Lane) (port : PortId) → slice_get lanes i ≡ Some lane → port_of lane ≡ port
    → ((j : ℕ) (l : Lane) → slice_get lanes j ≡ Some l → port_of l ≡ port → j ≡ i) → given_in port lanes ≡ sent lane.notes
given_at [] i lane port at is alone = absurd (cc)
given_at (l ∷ lanes) zero lane port at is alone =
    let e : l ≡ lane = cc in
    rw (e, is, same_port-refl port) refl
given_at (l ∷ lanes) (suc i) lane port at is alone =
    rw (same_port-false (port_of l) port (λ q. absurd (let z = alone 0 l refl q in omega arith)))
    (given_at lanes i lane port at is (λ j k here q. (let z = alone (suc j) k here q in omega arith)))

pub given_none : (lanes : List Lane) (port : PortId) → ((j : ℕ) (l : Lane) → slice_get lanes j ≡ Some l → port_of l ≢ port) → given_in port lanes ≡ []
given_none [] port none = refl
given_none (l ∷ lanes) port none = rw (same_port-false (port_of l) port (none 0 l refl)) (given_none lanes port (λ j k here. none (suc j) k here))

-- a lane of another port changes, or its notes don't
pub given_set : (lanes : List Lane) (i : ℕ) (old lane : Lane) (port : PortId) → slice_get lanes i ≡ Some old → port_of lane ≡ port_of old → (port_of old ≢ port) ⊎ (sent lane.notes ≡ sent old.notes)
    → given_in port (slice_set lanes i lane) ≡ given_in port lanes
given_set [] i old lane port at same h = absurd (cc)
given_set (l ∷ lanes) zero old lane port at same (inl other) =
    let e : l ≡ old = cc in
    rw (e, same_port-false (port_of lane) port (λ q. other (sym same ∙ q)), same_port-false (port_of old) port other) refl
given_set (l ∷ lanes) zero old lane port at same (inr h) =
    let e : l ≡ old = cc in
    rw (e, same, h) refl
given_set (l ∷ lanes) (suc i) old lane port at same h = ap (λ ns. if same_port (port_of l) port then sent l.notes else ns) (given_set lanes i old lane port at same h)

-- no other lane has this lane's port
pub gave_lane : (p : Pump) (i : ℕ) (lane : Lane) → slice_get p.lanes.items i ≡ Some lane → given_to p (port_of lane) ≡ sent lane.notes
gave_lane p i lane at = given_at p.lanes.items i lane (port_of lane) at refl (λ j l there q. port_at-apart (nodes p.core.cluster) j i (sym (p.order j l there) ∙ q ∙ p.order i lane at))

-- what was given to the port of the lane at a place: so many notes, the first ones of those that the log names
pub given_by : (p : Pump) (port : PortId) (i : ℕ) (lane : Lane) → port_at (nodes p.core.cluster) i ≡ port → i < vec_len p.lanes → lane ≡ slice_index_or p.lanes.items i lane
    → (lane.given ≡ length (given_to p port)) × IsPrefix (given_to p port) (notes (since p) port)
given_by p port i lane is h here =
    let at = at_lane p i lane h here in
    let by : port_of lane ≡ port = p.order i lane at ∙ is in
    let serves = p.serves i lane at in
    let gave : given_to p port ≡ sent lane.notes = ap (given_to p) (sym by) ∙ gave_lane p i lane at in
    (serves.given ∙ ap length (sym gave), rw gave (subst (λ (q : PortId). IsPrefix (sent lane.notes) (notes (since p) q)) by (given_first p.base p.core.log lane serves)))

pub given_out : (p : Pump) (port : PortId) → ((i : ℕ) → i < vec_len p.lanes → port_at (nodes p.core.cluster) i ≢ port) → given_to p port ≡ []
given_out p port none =
    given_none p.lanes.items port (λ j l at q. none j (let ok = p.lanes.ok in let w = slice_get_within p.lanes.items j l at in omega arith) (sym (p.order j l at) ∙ q))
