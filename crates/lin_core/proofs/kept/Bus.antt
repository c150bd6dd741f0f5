-- The bus after a finish.
use Rattle.std.proofs.Common.{◌≡◌, ℕ, Bool, true, false, List, [], ◌∷◌, refl, arith}
use Rattle.std.specs.Prelude.{Option, Some, None, cond, find, ◌++◌, ◌&&◌, ◌==◌, if◌then◌else◌, nat_le, slice_index}
use Rattle.std.proofs.lemmas.Bool.Decides.{nat_tests}
use Rattle.std.specs.Option.{option_map_or, unwrap_or}
use Rattle.lin_parts.specs.declared.parts.Parts.{Parts}
use Rattle.lin_core.specs.History.{Slot, is_sleep_asked, asleep, good_under, open_slot}
use Rattle.lin_core.specs.kept.Bus.{KeepsBus, bus_after}
use Rattle.lin_core.specs.Slots.{node_with, selected_node}
use Rattle.lin_core.specs.declared.event.Event.{Event}
use Rattle.lin_core.specs.declared.log.LogEntry.{LogEntry}
use Rattle.lin_core.specs.declared.bus_state.BusState.{BusState}
use Rattle.lin_core.specs.declared.port.PortId.{PortId}
use Rattle.lin_core.specs.declared.step.Step.TheVariants.{Finish}
use Rattle.lin_core.proofs.steps.Known.{entry_is}

-- the bus by the bytes of a good master request
abbrev bus_by : Parts → Option (List ℕ) → BusState → BusState
bus_by c o bus =
    option_map_or
    (λ bytes.
    if slice_index bytes 0 == 0 then record { asleep = true; asked = false; selected = None }
    else if nat_le (slice_index bytes 0) 125 then record bus { selected = node_with c (slice_index bytes 0) }
    else bus)
    o bus

abbrev sleeps_by : Option (List ℕ) → Bool
sleeps_by o = option_map_or (λ bytes. slice_index bytes 0 == 0) o false

abbrev addressed_by : Parts → Option (List ℕ) → Option (Option ℕ)
addressed_by c o = option_map_or (λ bytes. if nat_le 1 (slice_index bytes 0) && nat_le (slice_index bytes 0) 125 then Some (node_with c (slice_index bytes 0)) else None) o None

some-least : (n : ℕ) → (n == 0) ≡ false → nat_le 1 n ≡ true
some-least n e = grind (arith, nat_tests, e)

record ModeIs (c : Parts) (o : Option (List ℕ)) (bus : BusState) (sleeping asking : Bool) (node : Option ℕ) : Type 0 where
  asleep_is : (bus_by c o bus).asleep ≡ (if sleeps_by o then true else sleeping)
  asked_is : (bus_by c o bus).asked ≡ (if sleeps_by o then false else asking)
  selected_is : (bus_by c o bus).selected ≡ (if sleeps_by o then None else unwrap_or (addressed_by c o) node)

by-bytes : (c : Parts) (bytes : List ℕ) (bus : BusState) (sleeping asking : Bool) (node : Option ℕ) (zero far : Bool) → (slice_index bytes 0 == 0) ≡ zero → nat_le (slice_index bytes 0) 125 ≡ far
    → bus.asleep ≡ sleeping → bus.asked ≡ asking → bus.selected ≡ node → ModeIs c (Some bytes) bus sleeping asking node
by-bytes c bytes bus sleeping asking node true far z f a b d = record { asleep_is = rw z refl; asked_is = rw z refl; selected_is = rw z refl }
by-bytes c bytes bus sleeping asking node false true z f a b d = let l = some-least (slice_index bytes 0) z in record { asleep_is = rw (z, f) a; asked_is = rw (z, f) b; selected_is = rw (z, f, l) refl }
by-bytes c bytes bus sleeping asking node false false z f a b d = let l = some-least (slice_index bytes 0) z in record { asleep_is = rw (z, f) a; asked_is = rw (z, f) b; selected_is = rw (z, f, l) d }

bus-by : (c : Parts) (o : Option (List ℕ)) (bus : BusState) (sleeping asking : Bool) (node : Option ℕ) → bus.asleep ≡ sleeping → bus.asked ≡ asking → bus.selected ≡ node → ModeIs c o bus sleeping asking node
bus-by c None bus sleeping asking node a b d = record { asleep_is = a; asked_is = b; selected_is = d }
bus-by c (Some bytes) bus sleeping asking node a b d = by-bytes c bytes bus sleeping asking node (slice_index bytes 0 == 0) (nat_le (slice_index bytes 0) 125) refl refl a b d

pub finish-bus : (c : Parts) (past : List LogEntry) (by : PortId) (es : List Event) (s : Slot) (bus : BusState) → open_slot past ≡ Some s → KeepsBus c past bus → KeepsBus c (entry_is by Finish es ∷ past) (bus_after c s bus)
finish-bus c past by es s bus is k =
    let m : ModeIs c (good_under 0x3C s) bus (asleep past) (is_sleep_asked past) (selected_node c past) = bus-by c (good_under 0x3C s) bus (asleep past) (is_sleep_asked past) (selected_node c past) k.asleep_is k.asked_is k.selected_is
    in record { asleep_is = rw is m.asleep_is; asked_is = rw is m.asked_is; selected_is = rw is m.selected_is }

found-one : (b : Bool) (x : ℕ) → cond b (Some x) None ≡ (if b then Some x else None)
found-one true x = refl
found-one false x = refl

found-by : (b : Bool) (y : ℕ) (p : ℕ → Bool) (xs : List ℕ) (x : ℕ) → find p (xs ++ x ∷ []) ≡ option_map_or Some (find p xs) (if p x then Some x else None)
    → cond b (Some y) (find p (xs ++ x ∷ [])) ≡ option_map_or Some (cond b (Some y) (find p xs)) (if p x then Some x else None)
found-by true y p xs x e = refl
found-by false y p xs x e = e

-- what is found in a list with one more item
pub find-more : (p : ℕ → Bool) (xs : List ℕ) (x : ℕ) → find p (xs ++ x ∷ []) ≡ option_map_or Some (find p xs) (if p x then Some x else None)
find-more p [] x = found-one (p x) x
find-more p (y ∷ xs) x = found-by (p y) y p xs x (find-more p xs x)
