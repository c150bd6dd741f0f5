-- Ports further on, and the receipts of a run's ports.
use Rattle.std.proofs.Common.{◌≡◌, ◌+◌, List, [], ◌∷◌, ◌++◌, map, length, Option, Some, None, IfSome, IfNone, refl, sym, ap, ◌∙◌, append_assoc}
use Rattle.std.proofs.lemmas.List.{length-append, length-map, map-append}
use Rattle.std.proofs.lemmas.List.Elements.{All-nil, All-cons}
use Rattle.std.specs.List.{All, AllZip, slice_get}
use Rattle.std.specs.declared.thread.PromisedHandle.{PromisedHandle}
use Rattle.lin_threads.specs.Ports.{Continues, IsReceiptOf, Wiring, host_wiring, node_wiring, node_put, node_took}
use Rattle.lin_threads.specs.Pumps.{since, wirings}
use Rattle.lin_threads.specs.declared.ports.host_port.HostPort.{HostPort}
use Rattle.lin_threads.specs.declared.ports.node_port.NodePort.{NodePort}
use Rattle.lin_threads.specs.declared.ports.Receipt.{Receipt}
use Rattle.lin_threads.specs.declared.ports.pump.Pump.{Pump}
use Rattle.lin_threads.specs.declared.ports.steps.Note.{Note}
use Rattle.lin_threads.proofs.RoundLemmas.{prefix_same, prefix_trans}
use Rattle.lin_threads.specs.Runs.{IsSettledAs, IsWiredReceipt}
use Rattle.lin_threads.specs.Started.{all_lent, lent}
use Rattle.lin_threads.specs.declared.starting.Finished.{Finished}
use Rattle.lin_threads.specs.declared.starting.Keeps.{Keeps}
use Rattle.lin_threads.specs.States.{ArePortsOf, IsFurther, IsReceiptFrom, IsSettledReceipt, PortState, handed_in, host_state, node_state, receipt_state}

pub further_same : (a b : PortState) → b.wiring ≡ a.wiring → b.put ≡ a.put → b.took ≡ a.took → IsFurther a b
further_same a b wiring put took = record { wiring = wiring; put = prefix_same a.put b.put put; took = prefix_same a.took b.took took }

pub further_refl : (a : PortState) → IsFurther a a
further_refl a = further_same a a refl refl refl

pub further_trans : (a b c : PortState) → IsFurther a b → IsFurther b c → IsFurther a c
further_trans a b c h k = record {
  wiring = k.wiring ∙ h.wiring;
  put = prefix_trans a.put b.put c.put h.put k.put;
  took = prefix_trans a.took b.took c.took h.took k.took;
}

-- a turn leaves the port further on
pub further_turn : (a : PortState) (p q : HostPort) → IsFurther a (host_state p) → Continues p q → IsFurther a (host_state q)
further_turn a p q h k = further_trans a (host_state p) (host_state q) h (record { wiring = k.wiring; put = k.put; took = k.took })

-- a node's port that may have taken a note
pub further_take : (a : PortState) (p q : NodePort) (r : Option Note) → IsFurther a (node_state p) → node_wiring q ≡ node_wiring p → node_put q ≡ node_put p
    → IfSome r (λ n. node_took q ≡ node_took p ++ n ∷ []) → IfNone r (node_took q ≡ node_took p) → IsFurther a (node_state q)
further_take a p q None h wiring put some none = further_trans a (node_state p) (node_state q) h (further_same (node_state p) (node_state q) wiring put none)
further_take a p q (Some n) h wiring put some none =
    further_trans a (node_state p) (node_state q) h (record { wiring = wiring; put = prefix_same (node_put p) (node_put q) put; took = (n ∷ [], sym some) })

-- what a port hands on when it ends
pub further_end : (a b : PortState) (r : Receipt) → IsFurther a b → IsReceiptOf b.wiring b.put b.took r → IsReceiptFrom a r
further_end a b r h k = further_trans a b (receipt_state r) h (further_same b (receipt_state r) k.wiring k.put k.took)

module _ {X Y : Type 0} where
  pub zip_push : (R : X → Y → Type 0) (xs : List X) (ys : List Y) (x : X) (y : Y) → AllZip R xs ys → R x y → AllZip R (xs ++ x ∷ []) (ys ++ y ∷ [])
  zip_push R [] [] x y h k = (k, tt)
  zip_push R [] (b ∷ ys) x y h k = absurd h
  zip_push R (a ∷ xs) [] x y h k = absurd h
  zip_push R (a ∷ xs) (b ∷ ys) x y h k = (h.0, zip_push R xs ys x y h.1 k)

  pub zip_weaker : (R Q : X → Y → Type 0) (xs : List X) (ys : List Y) → ((x : X) (y : Y) → R x y → Q x y) → AllZip R xs ys → AllZip Q xs ys
  zip_weaker R Q [] [] f h = tt
  zip_weaker R Q [] (y ∷ ys) f h = absurd h
  zip_weaker R Q (x ∷ xs) [] f h = absurd h
  zip_weaker R Q (x ∷ xs) (y ∷ ys) f h = (f x y h.0, zip_weaker R Q xs ys f h.1)

module _ {X Y Z : Type 0} where
  pub zip_join : (R : X → Y → Type 0) (Q : Y → Z → Type 0) (S : X → Z → Type 0) (xs : List X) (ys : List Y) (zs : List Z)
      → ((x : X) (y : Y) (z : Z) → R x y → Q y z → S x z) → AllZip R xs ys → AllZip Q ys zs → AllZip S xs zs
  zip_join R Q S [] [] [] f h k = tt
  zip_join R Q S [] [] (z ∷ zs) f h k = absurd k
  zip_join R Q S [] (y ∷ ys) zs f h k = absurd h
  zip_join R Q S (x ∷ xs) [] zs f h k = absurd h
  zip_join R Q S (x ∷ xs) (y ∷ ys) [] f h k = absurd k
  zip_join R Q S (x ∷ xs) (y ∷ ys) (z ∷ zs) f h k = (f x y z h.0 k.0, zip_join R Q S xs ys zs f h.1 k.1)

slice_get-middle : {X : Type 0} (xs : List X) (y : X) (zs : List X) → slice_get (xs ++ y ∷ zs) (length xs) ≡ Some y
slice_get-middle [] y zs = refl
slice_get-middle (x ∷ xs) y zs = slice_get-middle xs y zs

abbrev wirings_of : List PortState → List Wiring
wirings_of ports = map (λ s. s.wiring) ports

all_wired : (pump : Pump) (before : List Wiring) (ports : List PortState) (rs : List Receipt) → wirings pump ≡ before ++ wirings_of ports → AllZip IsReceiptFrom ports rs
    → All (IsWiredReceipt pump) rs
all_wired pump before [] [] e h = All-nil (IsWiredReceipt pump)
all_wired pump before [] (r ∷ rs) e h = absurd h
all_wired pump before (s ∷ ports) [] e h = absurd h
all_wired pump before (s ∷ ports) (r ∷ rs) e h =
    All-cons (IsWiredReceipt pump) r rs
    (length before, ap (λ ws. slice_get ws (length before)) e ∙ slice_get-middle before s.wiring (wirings_of ports) ∙ ap Some (sym h.0.wiring))
    (all_wired pump (before ++ s.wiring ∷ []) ports rs (e ∙ sym (append_assoc before (s.wiring ∷ []) (wirings_of ports))) h.1)

hosts_wirings : (hosts : List HostPort) → wirings_of (map host_state hosts) ≡ map host_wiring hosts
hosts_wirings [] = refl
hosts_wirings (p ∷ hosts) = ap (λ ws. host_wiring p ∷ ws) (hosts_wirings hosts)

nodes_wirings : (nodes : List NodePort) → wirings_of (map node_state nodes) ≡ map node_wiring nodes
nodes_wirings [] = refl
nodes_wirings (p ∷ nodes) = ap (λ ws. node_wiring p ∷ ws) (nodes_wirings nodes)

-- the receipts of a pump's ports are of ports of this pump
pub receipts_wired : (pump : Pump) (hosts : List HostPort) (nodes : List NodePort) (rs : List Receipt) → ArePortsOf pump hosts nodes
    → AllZip IsReceiptFrom (handed_in hosts nodes) rs → All (IsWiredReceipt pump) rs
receipts_wired pump hosts nodes rs e h =
    all_wired pump [] (handed_in hosts nodes) rs
    (e ∙ sym (map-append (λ (s : PortState). s.wiring) (map host_state hosts) (map node_state nodes) ∙ rw (hosts_wirings hosts, nodes_wirings nodes) refl)) h

-- the receipt of a port, once it is settled
pub settled_receipt : (pump : Pump) (port : PortState) (r s : Receipt) → IsReceiptFrom port r → IsSettledAs pump r s → IsSettledReceipt (since pump) port s
settled_receipt pump port r s h k = record {
  further = further_end port (receipt_state r) s h k.same;
  whole = k.settled.whole;
  took = k.settled.took;
}

-- as many threads were started as ports were handed in
pub lent_count : (handles : List (PromisedHandle Finished Keeps)) (hosts : List HostPort) (nodes : List NodePort) → all_lent handles ≡ handed_in hosts nodes
    → length handles ≡ length hosts + length nodes
lent_count handles hosts nodes e =
    sym (length-map handles (λ (h : PromisedHandle Finished Keeps). lent h.promise)) ∙ ap length e ∙ length-append (map host_state hosts) (map node_state nodes)
    ∙ rw (length-map hosts host_state, length-map nodes node_state) refl
