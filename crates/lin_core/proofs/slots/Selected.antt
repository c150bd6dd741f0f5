-- The selected responder is a node, and who of the kept hosts is due in a slave response.
use Rattle.std.proofs.Common.{◌≡◌, ℕ, zero, suc, ◌<◌, Bool, true, false, List, [], ◌∷◌, length, refl, ap, sym, ◌∙◌, arith}
use Rattle.std.specs.Prelude.{Option, Some, None, ◌==◌, find, nat_le, nat_lt, if◌then◌else◌, ◌&&◌, slice_get, slice_index}
use Rattle.std.specs.Option.{option_map_or, unwrap_or}
use Rattle.lin_frame.specs.Words.{numbers}
use Rattle.lin_parts.specs.Cluster.{nad, nodes}
use Rattle.lin_parts.specs.declared.parts.Parts.{Parts}
use Rattle.lin_core.specs.History.{Slot, finished_slot, good_under, is_sleep_mark}
use Rattle.lin_core.proofs.slots.Opening.{responder_now}
use Rattle.lin_core.specs.Links.{waiting}
use Rattle.lin_core.specs.Slots.{addressee, node_with, selected_node}
use Rattle.lin_core.specs.kept.State.{IsConsistent, Stage}
use Rattle.lin_core.specs.declared.host.Host.{Host}
use Rattle.lin_core.specs.declared.log.LogEntry.{LogEntry}
use Rattle.lin_core.proofs.kept.Keeping.{queue-length}
use Rattle.lin_core.proofs.kept.Places.{get-there}
use Rattle.lin_core.proofs.steps.Making.{past_in}
use Rattle.lin_core.proofs.kept.Bus.{find-more}

below-by : (o : Option ℕ) (b : Bool) (n k : ℕ) → ((j : ℕ) → o ≡ Some j → j < n) → option_map_or Some o (if b then Some n else None) ≡ Some k → k < suc n
below-by None true n k h e = let same : n ≡ k = cc in omega arith
below-by None false n k h e = cc
below-by (Some j) b n k h e = let same : j ≡ k = cc in let l = h j refl in omega arith

-- what is found among the first numbers is one of them
below-found : (p : ℕ → Bool) (n k : ℕ) → find p (numbers n) ≡ Some k → k < n
below-found p zero k e = cc
below-found p (suc n) k e = below-by (find p (numbers n)) (p n) n k (λ j h. below-found p n j h) (sym (find-more p (numbers n) n) ∙ e)

addressed-by : (c : Parts) (b : Bool) (a k : ℕ) (x : Option ℕ) → (if b then Some (node_with c a) else None) ≡ Some x → x ≡ Some k → k < nodes c
addressed-by c true a k x e h = let same : node_with c a ≡ x = cc in below-found (λ n. option_map_or (λ own. own == a) (nad c n) false) (nodes c) k (same ∙ h)
addressed-by c false a k x e h = cc

addressed-below : (c : Parts) (o : Option (List ℕ)) (k : ℕ) (x : Option ℕ)
    → option_map_or (λ bytes. if nat_le 1 (slice_index bytes 0) && nat_le (slice_index bytes 0) 125 then Some (node_with c (slice_index bytes 0)) else None) o None ≡ Some x → x ≡ Some k → k < nodes c
addressed-below c None k x e h = cc
addressed-below c (Some bytes) k x e h = addressed-by c (nat_le 1 (slice_index bytes 0) && nat_le (slice_index bytes 0) 125) (slice_index bytes 0) k x e h

slot-below : (c : Parts) (o : Option Slot) (k : ℕ) (x : Option ℕ) → option_map_or (addressee c) o None ≡ Some x → x ≡ Some k → k < nodes c
slot-below c None k x e h = cc
slot-below c (Some s) k x e h = addressed-below c (good_under 0x3C s) k x e h

chosen-below : (c : Parts) (b : Bool) (o : Option (Option ℕ)) (d : Option ℕ) (k : ℕ) → ((x : Option ℕ) → o ≡ Some x → x ≡ Some k → k < nodes c) → (d ≡ Some k → k < nodes c) → (if b then None else unwrap_or o d) ≡ Some k → k < nodes c
chosen-below c true o d k f g e = cc
chosen-below c false None d k f g e = g e
chosen-below c false (Some x) d k f g e = f x refl e

pub selected-below : (c : Parts) (past : List LogEntry) (k : ℕ) → selected_node c past ≡ Some k → k < nodes c
selected-below c [] k e = cc
selected-below c (e ∷ past) k h =
    chosen-below c (is_sleep_mark e past) (option_map_or (addressee c) (finished_slot e past) None) (selected_node c past) k (λ x. slot-below c (finished_slot e past) k x) (selected-below c past k) h

responder-by : (a : Stage) (hosts : List Host) (result o : Option ℕ) → IsConsistent a → hosts ≡ a.state.hosts.items → a.state.bus.selected ≡ o → ((k : ℕ) → o ≡ Some k → k < nodes a.cluster)
    → (a.state.bus.selected ≡ None → result ≡ None) → ((node : ℕ) (kept : Host) → a.state.bus.selected ≡ Some node → slice_get hosts node ≡ Some kept → result ≡ (if nat_lt 0 (length kept.queue.items) then Some node else None))
    → result ≡ option_map_or (λ k. if nat_lt 0 (length (waiting a.cluster (past_in a) k)) then Some k else None) o None
responder-by a hosts result None w e is below none some = none is
responder-by a hosts result (Some k) w e is below none some =
    let count = w.kept.hosts_count
    in let l = below k refl
    in let x = get-there a.state.hosts.items k (omega arith)
    in let at : slice_get hosts k ≡ Some x.0 = rw e x.1
    in some k x.0 is at ∙ ap (λ (n : ℕ). if nat_lt 0 n then Some k else None) (queue-length a.cluster a.capacity a.log (past_in a) k x.0 (w.kept.each_host k x.0 x.1))

pub responder-inside : (a : Stage) (hosts : List Host) (result : Option ℕ) → IsConsistent a → hosts ≡ a.state.hosts.items
    → (a.state.bus.selected ≡ None → result ≡ None) → ((node : ℕ) (kept : Host) → a.state.bus.selected ≡ Some node → slice_get hosts node ≡ Some kept → result ≡ (if nat_lt 0 (length kept.queue.items) then Some node else None))
    → result ≡ responder_now a.cluster (past_in a)
responder-inside a hosts result w e none some =
    responder-by a hosts result (selected_node a.cluster (past_in a)) w e w.late.bus_is.selected_is (selected-below a.cluster (past_in a)) none some
