-- The values that are read in a frame, place by place, and the frame that a slot carries.
use Rattle.std.proofs.Common.{◌≡◌, ℕ, zero, suc, ◌+◌, ◌/◌, ◌%◌, ◌<◌, Bool, true, false, List, [], ◌∷◌, map, length, drop, get_or, refl, ap, sym, ◌∙◌, arith, inl, inr}
use Rattle.std.proofs.Math.Path.{fun_ext}
use Rattle.std.specs.Prelude.{Option, Some, None, ◌==◌, ◌||◌, if◌then◌else◌, find, zip, take, option_map, is_some, slice_get, slice_set, slice_index}
use Rattle.std.specs.List.{list_any}
use Rattle.std.specs.Option.{option_map_or, unwrap_or}
use Rattle.lin_frame.specs.Words.{numbers}
use Rattle.lin_frame.specs.Frame.{bit}
use Rattle.lin_frame.specs.Bits.{byte_of_bits, number_of_bits, unpacked_value}
use Rattle.lin_frame.specs.declared.layout.Place.{Place}
use Rattle.lin_frame.specs.declared.value.Value.{Value}
use Rattle.lin_frame.specs.declared.value.Value.TheVariants.{Scalar, Bytes}
use Rattle.lin_parts.specs.Cluster.{frame_of, sporadic_of, event_of, line_of}
use Rattle.lin_parts.specs.declared.parts.Parts.{Parts}
use Rattle.lin_parts.specs.declared.parts.Entry.{Entry}
use Rattle.lin_parts.specs.declared.parts.Entry.TheVariants.{Frame, Sporadic, Event, MasterReq, SlaveResp, Fixed, Quiet}
use Rattle.lin_core.specs.kept.Slots.{frame_by, slot_in, put_in}
use Rattle.lin_core.specs.History.{Slot, good, header_is, good_bytes, seen_by}
use Rattle.lin_core.specs.Signals.{ArePointwise, carried_frame, carried_by, place_in, value_in}
use Rattle.lin_core.specs.declared.slot.OpenSlot.{OpenSlot}
use Rattle.lin_core.specs.declared.slot.Put.{Put}
use Rattle.lin_core.proofs.slots.OpenSlots.{or-false}
use Rattle.lin_core.proofs.kept.SignalKeeping.{set-at, good-one, same-test, other-test}

-- the value is read from bytes alone
pub unpacked-same : (p : Place) (xs ys : List ℕ) → ((k : ℕ) → slice_index xs k ≡ slice_index ys k) → unpacked_value p xs ≡ unpacked_value p ys
unpacked-same p xs ys e =
    ap (λ (h : ℕ → ℕ). if p.array
    then Bytes (map (byte_of_bits (λ (j : ℕ). bit (h ((p.offset + j) / 8)) ((p.offset + j) % 8))) (numbers (p.size / 8)))
    else Scalar (number_of_bits p.size (λ (j : ℕ). bit (h ((p.offset + j) / 8)) ((p.offset + j) % 8)))) (fun_ext {f = λ k. slice_index xs k} {g = λ k. slice_index ys k} e)

-- the values that are read from a place on
abbrev pub from_place : List ℕ → List ℕ → List Place → ℕ → ℕ → Option Value
from_place eight signals places n s = option_map (λ (p : ℕ × Place). unpacked_value p.1 eight) (find (λ (p : ℕ × Place). p.0 == s) (zip (drop n signals) (drop n places)))

pub drop-step : {X : Type 0} (xs : List X) (i : ℕ) (d : X) → i < length xs → drop i xs ≡ get_or xs i d ∷ drop (suc i) xs
drop-step [] i d l = absurd (omega arith)
drop-step (x ∷ xs) zero d l = refl
drop-step (x ∷ xs) (suc i) d l = drop-step xs i d (omega arith)

pub drop-end : {X : Type 0} (xs : List X) → drop (length xs) xs ≡ []
drop-end [] = refl
drop-end (x ∷ xs) = drop-end xs

abbrev pub no_place : Place
no_place = record { offset = 0; size = 1; array = false }

find-first : (s x : ℕ) (p : Place) (ps : List (ℕ × Place)) (b : Bool) → (x == s) ≡ b → find (λ (q : ℕ × Place). q.0 == s) ((x, p) ∷ ps) ≡ (if b then Some (x, p) else find (λ (q : ℕ × Place). q.0 == s) ps)
find-first s x p ps true e = rw e refl
find-first s x p ps false e = rw e refl

one-place : (eight signals : List ℕ) (places : List Place) (i s : ℕ) (b : Bool) → i < length signals → i < length places → (get_or signals i 0 == s) ≡ b
    → from_place eight signals places i s ≡ option_map (λ (p : ℕ × Place). unpacked_value p.1 eight) (if b then Some (get_or signals i 0, get_or places i no_place) else find (λ (p : ℕ × Place). p.0 == s) (zip (drop (suc i) signals) (drop (suc i) places)))
one-place eight signals places i s b l m e =
    rw (drop-step signals i 0 l, drop-step places i no_place m)
    (ap (option_map (λ (p : ℕ × Place). unpacked_value p.1 eight)) (find-first s (get_or signals i 0) (get_or places i no_place) (zip (drop (suc i) signals) (drop (suc i) places)) b e))

pub hear-more : (eight signals : List ℕ) (places : List Place) (g : ℕ → Value) (heard : List Value) (i : ℕ) (v : Value) → i < length signals → i < length places → v ≡ unpacked_value (get_or places i no_place) eight
    → ArePointwise (λ s. unwrap_or (from_place eight signals places (suc i) s) (g s)) heard
    → ArePointwise (λ s. unwrap_or (from_place eight signals places i s) (g s)) (slice_set heard (get_or signals i 0) v)
hear-more eight signals places g heard i v l m e p = λ s x at.
    elim (set-at heard (get_or signals i 0) s v x at) [
      | inl same ↦ same.1 ∙ e ∙ sym (ap (λ (o : Option Value). unwrap_or o (g s)) (one-place eight signals places i s true l m (same-test (get_or signals i 0) s same.0)))
      | inr differ ↦ p s x differ.1 ∙ sym (ap (λ (o : Option Value). unwrap_or o (g s)) (one-place eight signals places i s false l m (other-test (get_or signals i 0) s differ.0)))
    ]

pub hear-none : (eight signals : List ℕ) (places : List Place) (g : ℕ → Value) (heard : List Value) → ArePointwise g heard → ArePointwise (λ s. unwrap_or (from_place eight signals places (length signals) s) (g s)) heard
hear-none eight signals places g heard p = λ s x at. p s x at ∙ sym (rw (drop-end signals) refl)

read-place : (o : Option (ℕ × Place)) (xs ys : List ℕ) → ((k : ℕ) → slice_index xs k ≡ slice_index ys k)
    → option_map (λ (p : ℕ × Place). unpacked_value p.1 xs) o ≡ option_map (λ (p : Place). unpacked_value p ys) (option_map (λ (p : ℕ × Place). p.1) o)
read-place None xs ys e = refl
read-place (Some q) xs ys e = ap (λ (v : Value). Some v) (unpacked-same q.1 xs ys e)

pub hear-all : (c : Parts) (f : ℕ) (eight bytes : List ℕ) (g : ℕ → Value) (heard : List Value) (n : ℕ) → n ≡ 0 → ((k : ℕ) → slice_index eight k ≡ slice_index (take 8 bytes) k)
    → ArePointwise (λ s. unwrap_or (from_place eight (frame_of c f).signals (frame_of c f).layout.places n s) (g s)) heard
    → ArePointwise (λ s. unwrap_or (option_map (λ p. unpacked_value p (take 8 bytes)) (place_in (frame_of c f) s)) (g s)) heard
hear-all c f eight bytes g heard n z e p = λ s x at.
    p s x at
    ∙ ap (λ (m : ℕ). unwrap_or (from_place eight (frame_of c f).signals (frame_of c f).layout.places m s) (g s)) z
    ∙ ap (λ (o : Option Value). unwrap_or o (g s)) (read-place (find (λ (q : ℕ × Place). q.0 == s) (zip (frame_of c f).signals (frame_of c f).layout.places)) eight (take 8 bytes) e)

-- the frame that a slot with one response carries
pub carried-one : (c : Parts) (entry : Entry) (o : Slot) (h n : ℕ) (bytes : List ℕ) → o.header ≡ Some h → o.puts ≡ (n, bytes) ∷ [] → carried_by c entry o ≡ frame_by c entry h n
carried-one c (Frame f) o h n bytes e p = refl
carried-one c (Sporadic k) o h n bytes e p = ap (λ (x : Option ℕ). find (λ f. header_is (frame_of c f).pid x) (sporadic_of c k)) e
carried-one c (Event v) o h n bytes e p =
    ap (λ (ps : List (ℕ × List ℕ)). find (λ f. list_any (λ (q : ℕ × List ℕ). q.0 == (frame_of c f).publisher) ps) (event_of c v).frames) p
    ∙ ap (λ (test : ℕ → Bool). find test (event_of c v).frames) (fun_ext {f = λ f. (n == (frame_of c f).publisher) || false} {g = λ f. n == (frame_of c f).publisher} (λ f. or-false (n == (frame_of c f).publisher)))
carried-one c MasterReq o h n bytes e p = refl
carried-one c SlaveResp o h n bytes e p = refl
carried-one c (Fixed request) o h n bytes e p = refl
carried-one c Quiet o h n bytes e p = refl

first-of : (ps : List Put) (p q : Put) → ps ≡ p ∷ [] → slice_get ps 0 ≡ Some q → p ≡ q
first-of ps p q e h = let t : slice_get (p ∷ []) 0 ≡ Some q = rw e at h in cc

good-at : (h : ℕ) (p : ℕ × List ℕ) (hurt : Bool) → is_some (good_bytes (seen_by (Some h) (p ∷ []) hurt)) ≡ true → good_bytes (seen_by (Some h) (p ∷ []) hurt) ≡ Some p.1
good-at h p true e = cc
good-at h p false e = refl

good-by : (slot : OpenSlot) (h : ℕ) (p : Put) → slot.header ≡ Some h → slot.puts.items ≡ p ∷ [] → is_some (good (slot_in slot)) ≡ true → good (slot_in slot) ≡ Some p.answer
good-by slot h p e is seen = rw (e, is) (good-at h (put_in p) slot.hurt (let t : is_some (good_bytes (seen_by (Some h) (put_in p ∷ []) slot.hurt)) ≡ true = rw (e, is) at seen in t))

pub heard-is : (c : Parts) (slot : OpenSlot) (h : ℕ) (put : Put) (frame s : ℕ) → is_some (good (slot_in slot)) ≡ true → slot.header ≡ Some h → slice_get slot.puts.items 0 ≡ Some put
    → frame_by c (line_of c slot.table slot.entry).entry h put.node ≡ Some frame → value_in c (slot_in slot) s ≡ option_map (λ p. unpacked_value p (take 8 put.answer)) (place_in (frame_of c frame) s)
heard-is c slot h put frame s seen e first by =
    let one = good-one slot seen
    in let own : one.0 ≡ put = first-of slot.puts.items one.0 put one.1 first
    in let only : slot.puts.items ≡ put ∷ [] = one.1 ∙ ap (λ (p : Put). p ∷ []) own
    in let carries : carried_frame c (slot_in slot) ≡ Some frame = carried-one c (line_of c slot.table slot.entry).entry (slot_in slot) h put.node put.answer e (ap (map put_in) only) ∙ by
    in ap (λ (o : Option (List ℕ)). option_map_or (λ bytes. option_map_or (λ f. option_map (λ p. unpacked_value p (take 8 bytes)) (place_in (frame_of c f) s)) (carried_frame c (slot_in slot)) None) o None) (good-by slot h put e only seen)
    ∙ ap (λ (o : Option ℕ). option_map_or (λ f. option_map (λ p. unpacked_value p (take 8 put.answer)) (place_in (frame_of c f) s)) o None) carries

pub unheard-is : (c : Parts) (slot : OpenSlot) (h : ℕ) (put : Put) (s : ℕ) → is_some (good (slot_in slot)) ≡ true → slot.header ≡ Some h → slice_get slot.puts.items 0 ≡ Some put
    → frame_by c (line_of c slot.table slot.entry).entry h put.node ≡ None → value_in c (slot_in slot) s ≡ None
unheard-is c slot h put s seen e first by =
    let one = good-one slot seen
    in let own : one.0 ≡ put = first-of slot.puts.items one.0 put one.1 first
    in let only : slot.puts.items ≡ put ∷ [] = one.1 ∙ ap (λ (p : Put). p ∷ []) own
    in let carries : carried_frame c (slot_in slot) ≡ None = carried-one c (line_of c slot.table slot.entry).entry (slot_in slot) h put.node put.answer e (ap (map put_in) only) ∙ by
    in ap (λ (o : Option (List ℕ)). option_map_or (λ bytes. option_map_or (λ f. option_map (λ p. unpacked_value p (take 8 bytes)) (place_in (frame_of c f) s)) (carried_frame c (slot_in slot)) None) o None) (good-by slot h put e only seen)
    ∙ ap (λ (o : Option ℕ). option_map_or (λ f. option_map (λ p. unpacked_value p (take 8 put.answer)) (place_in (frame_of c f) s)) o None) carries
