-- What a slot says, and what the nodes hear of it.
use Rattle.std.proofs.Common.{◌≡◌, ℕ, List, [], ◌∷◌, ◌++◌, refl, sym, ap, ◌∙◌, append_assoc, add-one, length, take, drop, flat_map, map, ◌-◌, zero, suc, ◌+◌, ◌<◌, ◌≤◌, get_or, arith}
use Rattle.std.proofs.lemmas.List.{append-nil, take_all, take_more}
use Rattle.std.specs.Prelude.{Option, Some, None, option_map, slice_get, find, true, false}
use Rattle.std.specs.Option.{option_map_or, unwrap_or}
use Rattle.lin_frame.specs.Words.{numbers}
use Rattle.lin_frame.specs.Bits.{unpacked_value}
use Rattle.lin_frame.specs.declared.value.Value.{Value}
use Rattle.lin_parts.specs.Cluster.{frame_of, line_of}
use Rattle.lin_parts.specs.declared.parts.Parts.{Parts}
use Rattle.lin_parts.specs.declared.parts.Signal.{Signal}
use Rattle.lin_parts.specs.declared.parts.Entry.{Entry}
use Rattle.lin_parts.specs.declared.parts.Entry.TheVariants as entries
use Rattle.lin_core.specs.History.{Slot, finished_slot, good, is_sleep_slot}
use Rattle.lin_core.specs.Signals.{carried_frame, carried_by, heard_value, place_in, value_in}
use Rattle.lin_core.specs.declared.log.LogEntry.{LogEntry}
use Rattle.lin_export.specs.Csv.{after_comma, csv_line, node_name, nodes_cell, slot_line, spaced_name}
use Rattle.lin_export.specs.FirstSlots.{slot_row}
use Rattle.lin_export.specs.Pcap.{bus_event, finish_packets, goes_to_sleep, packet, slot_packet}
use Rattle.lin_export.specs.Shown.{slot_frame}
use Rattle.lin_export.specs.Track.{shown_slot}
use Rattle.lin_values.specs.Coded.{CodedData}
use Rattle.lin_export.proofs.Slots.{some-same}

-- the slot that is kept shows the open one
pub record Shows (o : Option Slot) (t : Slot) : Type 0 where
  pub slot : Slot
  pub is_open : o ≡ Some slot
  pub same : t ≡ shown_slot slot

pub shows : (o : Option Slot) (t : Slot) → Some t ≡ option_map shown_slot o → Shows o t
shows None t e = absurd (cc)
shows (Some s) t e = record { slot = s; is_open = refl; same = some-same t (shown_slot s) e }

pub shows-none : (o : Option Slot) → None ≡ option_map shown_slot o → o ≡ None
shows-none None e = refl
shows-none (Some s) e = absurd (cc)

pub carried-shown : (c : Parts) (entry : Entry) (s : Slot) → carried_by c entry (shown_slot s) ≡ carried_by c entry s
carried-shown c (entries.Frame f) s = refl
carried-shown c (entries.Sporadic k) s = refl
carried-shown c (entries.Event e) s = refl
carried-shown c entries.MasterReq s = refl
carried-shown c entries.SlaveResp s = refl
carried-shown c (entries.Fixed request) s = refl
carried-shown c entries.Quiet s = refl

pub frame-shown : (c : Parts) (entry : Entry) (s : Slot) → slot_frame c entry (shown_slot s) ≡ slot_frame c entry s
frame-shown c (entries.Frame f) s = refl
frame-shown c (entries.Sporadic k) s = refl
frame-shown c (entries.Event e) s = refl
frame-shown c entries.MasterReq s = refl
frame-shown c entries.SlaveResp s = refl
frame-shown c (entries.Fixed request) s = refl
frame-shown c entries.Quiet s = refl

pub value-shown : (c : Parts) (s : Slot) (k : ℕ) → value_in c (shown_slot s) k ≡ value_in c s k
value-shown c s k =
    ap (λ (o : Option ℕ). option_map_or (λ bytes. option_map_or (λ f. option_map (λ p. unpacked_value p (take 8 bytes)) (place_in (frame_of c f) k)) o None) (good s) None)
    (carried-shown c (line_of c s.table s.entry).entry s)

-- what a node hears of a slot
pub hears-value : (c : Parts) (o : Slot) (k : ℕ) (bytes : List ℕ) (f : ℕ) → good o ≡ Some bytes → carried_frame c o ≡ Some f
    → value_in c o k ≡ option_map (λ p. unpacked_value p (take 8 bytes)) (place_in (frame_of c f) k)
hears-value c o k bytes f g e = rw (g, e) refl

pub hears-none : (c : Parts) (o : Slot) (k : ℕ) (bytes : List ℕ) → good o ≡ Some bytes → carried_frame c o ≡ None → value_in c o k ≡ None
hears-none c o k bytes g e = rw (g, e) refl

pub not-good : (c : Parts) (o : Slot) (k : ℕ) → good o ≡ None → value_in c o k ≡ None
not-good c o k g = rw g refl

pub flat-append : {X A : Type 0} (f : X → List A) (xs ys : List X) → flat_map f (xs ++ ys) ≡ flat_map f xs ++ flat_map f ys
flat-append f [] ys = refl
flat-append f (x ∷ xs) ys = ap (λ l. f x ++ l) (flat-append f xs ys) ∙ sym (append_assoc (f x) (flat_map f xs) (flat_map f ys))

-- the parts of a line
pub line-parts : (first : List ℕ) (xs zs : List (List ℕ))
    → first ++ (flat_map after_comma xs ++ (flat_map after_comma zs ++ 10 ∷ [])) ≡ csv_line (first ∷ (xs ++ zs))
line-parts first xs zs =
    ap (λ l. first ++ l) (sym (append_assoc (flat_map after_comma xs) (flat_map after_comma zs) (10 ∷ [])) ∙ ap (λ l. l ++ 10 ∷ []) (sym (flat-append after_comma xs zs)))

-- the texts of one number more, and the cells
pub numbers-more : {A : Type 0} (f : ℕ → List A) (n : ℕ) → flat_map f (numbers (n + 1)) ≡ flat_map f (numbers n) ++ f n
numbers-more f n =
    ap (λ k. flat_map f (numbers k)) (add-one n) ∙ flat-append f (numbers n) (n ∷ []) ∙ ap (λ l. flat_map f (numbers n) ++ l) (append-nil (f n))

pub cells-more : (f : ℕ → List (List ℕ)) (n : ℕ) → flat_map after_comma (flat_map f (numbers (n + 1))) ≡ flat_map after_comma (flat_map f (numbers n)) ++ flat_map after_comma (f n)
cells-more f n = ap (flat_map after_comma) (numbers-more f n) ∙ flat-append after_comma (flat_map f (numbers n)) (f n)

-- a slot that puts the cluster to sleep
pub finish-asleep : (c : Parts) (at end : ℕ) (s : Slot) → is_sleep_slot s ≡ true → end ≡ at + (line_of c s.table s.entry).delay_us
    → slot_packet c at s ++ packet end (bus_event goes_to_sleep) ≡ finish_packets c at s
finish-asleep c at end s h e = rw (h, e) refl

-- a search that nothing passes
pub find-nothing : (xs : List ℕ) → find (λ x. false) xs ≡ None
find-nothing [] = refl
find-nothing (x ∷ xs) = find-nothing xs

-- the texts of a list's items, one more at a time
pub texts-more : {X A : Type 0} (f : X → List A) (xs : List X) (i : ℕ) (d : X) → i < length xs
    → flat_map f (take (i + 1) xs) ≡ flat_map f (take i xs) ++ f (get_or xs i d)
texts-more f xs i d h =
    ap (flat_map f) (take_more xs i d h) ∙ flat-append f (take i xs) (get_or xs i d ∷ []) ∙ ap (λ l. flat_map f (take i xs) ++ l) (append-nil (f (get_or xs i d)))

-- the first name, and those after it
pub nodes-first : (c : Parts) (puts : List (ℕ × List ℕ)) (first : ℕ × List ℕ) → 1 ≤ length puts → first ≡ get_or puts 0 first
    → node_name c first ++ flat_map (spaced_name c) (take (length puts - 1) (drop 1 puts)) ≡ nodes_cell c puts
nodes-first c [] first h is = absurd (omega arith)
nodes-first c (p ∷ ps) first h is =
    ap (λ (l : List (ℕ × List ℕ)). node_name c first ++ flat_map (spaced_name c) l) (take_all (length (p ∷ ps) - 1) ps (omega arith))
    ∙ ap (λ (x : ℕ × List ℕ). node_name c x ++ flat_map (spaced_name c) ps) is

pub line-shown : (c : Parts) (k : Option CodedData) (n t : ℕ) (s : Slot) (g : ℕ → Value) → slot_line c k n t (shown_slot s) g ≡ slot_line c k n t s g
line-shown c k n t s g = rw (frame-shown c (line_of c s.table s.entry).entry s) refl

pub row-shown : (c : Parts) (n t : ℕ) (s : Slot) → slot_row c n t (shown_slot s) ≡ slot_row c n t s
row-shown c n t s = rw (frame-shown c (line_of c s.table s.entry).entry s) refl

-- what is heard of the slot that an entry finishes
abbrev heard-in : Parts → List LogEntry → ℕ → Option Slot → Value
heard-in c past k o = unwrap_or (option_map_or (λ (x : Slot). value_in c x k) o None) (heard_value c past k)

pub heard-finish : (c : Parts) (e : LogEntry) (past : List LogEntry) (s t : Slot) (k : ℕ) → finished_slot e past ≡ Some s → t ≡ shown_slot s
    → unwrap_or (value_in c t k) (heard_value c past k) ≡ heard_value c (e ∷ past) k
heard-finish c e past s t k f is =
    ap (λ (u : Slot). unwrap_or (value_in c u k) (heard_value c past k)) is ∙ ap (λ (v : Option Value). unwrap_or v (heard_value c past k)) (value-shown c s k)
    ∙ ap (heard-in c past k) (sym f)

pub heard-before : (c : Parts) (e : LogEntry) (past : List LogEntry) (k : ℕ) → finished_slot e past ≡ None → heard_value c past k ≡ heard_value c (e ∷ past) k
heard-before c e past k f = ap (heard-in c past k) (sym f)

pub initial-at : (xs : List Signal) (i : ℕ) (v : Value) (d : Signal) → slice_get (map (λ (s : Signal). s.initial) xs) i ≡ Some v → v ≡ (get_or xs i d).initial
initial-at [] i v d h = absurd (cc)
initial-at (x ∷ xs) zero v d h = let e : x.initial ≡ v = cc in sym e
initial-at (x ∷ xs) (suc i) v d h = initial-at xs i v d h
