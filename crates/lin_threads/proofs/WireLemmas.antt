-- Lanes that were just made.
use Rattle.std.proofs.Common.{◌≡◌, ◌<◌, ◌+◌, ℕ, zero, suc, List, [], ◌∷◌, ◌++◌, length, drop, append_assoc, map, nat_lt, Some, refl, sym, ap, ◌∙◌, ◌⊎◌, inl, inr, arith, true, false}
use Rattle.std.specs.List.{slice_get}
use Rattle.std.proofs.lemmas.List.{map-append}
use Rattle.std.proofs.Math.Seq.{take-length, drop-length}
use Rattle.std.proofs.lemmas.Grind.{common_steps}
use Rattle.lin_core.specs.declared.log.LogEntry.{LogEntry}
use Rattle.lin_core.specs.declared.port.PortId.{PortId}
use Rattle.lin_core.specs.declared.port.PortId.TheVariants.{Host, Node}
use Rattle.lin_threads.specs.Steps.{port_at}
use Rattle.lin_threads.specs.Lanes.{Serves, AllServe, AreInPortOrder, OnlyOwn}
use Rattle.lin_threads.specs.Wired.{Each, IsNewLane, AreNewLanes}
use Rattle.lin_threads.specs.declared.ports.lane.Lane.{Lane}

is_below : (i n : ℕ) → i < n → nat_lt i n ≡ true
is_below i n h = grind (arith, common_steps)

is_above : (i n : ℕ) → nat_lt (n + i) n ≡ false
is_above i n = grind (arith, common_steps)

pub port_at-host : (nodes i : ℕ) → i < nodes → port_at nodes i ≡ Host i
port_at-host nodes i h = rw (is_below i nodes h) refl

pub port_at-node : (nodes i : ℕ) → port_at nodes (nodes + i) ≡ Node i
port_at-node nodes i = rw (is_above i nodes) (ap Node (omega arith))

-- an item of a list with one more at its end
slice_get-last : {X : Type 0} (xs : List X) (x : X) (i : ℕ) (y : X) → slice_get (xs ++ x ∷ []) i ≡ Some y → (slice_get xs i ≡ Some y) ⊎ ((i ≡ length xs) × (y ≡ x))
slice_get-last [] x zero y h = inr (refl, cc)
slice_get-last [] x (suc i) y h = absurd (cc)
slice_get-last (a ∷ xs) x zero y h = inl h
slice_get-last (a ∷ xs) x (suc i) y h = elim (slice_get-last xs x i y h) [
  | inl p ↦ inl p
  | inr p ↦ inr (ap suc p.0, p.1)
]

pub each_none : {X : Type 0} (P : ℕ → X → Type 0) → Each P []
each_none P i x h = absurd (cc)

pub each_more : {X : Type 0} (P : ℕ → X → Type 0) (xs : List X) (x : X) → Each P xs → P (length xs) x → Each P (xs ++ x ∷ [])
each_more P xs x all one i y h = elim (slice_get-last xs x i y h) [
  | inl p ↦ all i y p
  | inr p ↦ rw (p.0, p.1) one
]

new_serves : (log : List LogEntry) (port : PortId) (lane : Lane) → IsNewLane (length log) port lane → Serves (length log) log lane
new_serves log port lane f = record {
  steps = rw (drop-length log) (sym f.steps);
  after = (let s = f.seen in omega arith);
  within = (let s = f.seen in omega arith);
  whole = λ z. f.part;
  notes = f.notes ∙ rw (f.seen, f.part, take-length log, drop-length log) refl;
  given = f.given ∙ ap length (sym f.notes);
}

pub new_serve : (nodes : ℕ) (log : List LogEntry) (lanes : List Lane) → AreNewLanes nodes (length log) lanes → AllServe (length log) log lanes
new_serve nodes log lanes all i lane at = new_serves log (port_at nodes i) lane (all i lane at)

pub new_order : (nodes start : ℕ) (lanes : List Lane) → AreNewLanes nodes start lanes → AreInPortOrder nodes lanes
new_order nodes start lanes all i lane at = (all i lane at).port

pub own_none : (log : List LogEntry) → OnlyOwn (drop (length log) log)
own_none log i e at = let h : slice_get [] i ≡ Some e = rw (drop-length log) at at in absurd (cc)

pub at_host : (nodes start i k : ℕ) (lane : Lane) → i < nodes → k ≡ i → IsNewLane start (Host i) lane → IsNewLane start (port_at nodes k) lane
at_host nodes start i k lane h e f = rw (e, port_at-host nodes i h) f

pub at_node : (nodes start i k : ℕ) (lane : Lane) → k ≡ nodes + i → IsNewLane start (Node i) lane → IsNewLane start (port_at nodes k) lane
at_node nodes start i k lane e f = rw (e, port_at-node nodes i) f

-- one more lane, with its port
pub wired_more : {X Y W : Type 0} (f : X → W) (g : Y → W) (xs : List X) (ys : List Y) (ws : List W) (x : X) (y : Y) → map f xs ≡ ws ++ map g ys → f x ≡ g y → map f (xs ++ x ∷ []) ≡ ws ++ map g (ys ++ y ∷ [])
wired_more f g xs ys ws x y h one = rw (map-append f xs (x ∷ []), map-append g ys (y ∷ []), h, one) (append_assoc ws (map g ys) (g y ∷ []))
