-- Where nothing is found in a description, each slot of its cluster is as long as it needs.
use Rattle.std.proofs.Common.{◌≡◌, ◌<◌, ◌≤◌, ◌==◌, nat_lt, ℕ, zero, suc, Bool, true, false, cond, not, ◌&&◌, ◌||◌, if◌then◌else◌, List, [], ◌∷◌, length, get_or, refl, sym, ap, ◌∙◌, arith}
use Rattle.std.specs.Prelude.{All, Option, Some, None, codes, fold, is_some, max, option_and_then}
use Rattle.std.specs.List.{list_all}
use Rattle.std.specs.Option.{option_map_or}
use Rattle.std.specs.Str.{bytes_eq}
use Rattle.std.proofs.Math.Dec.{eqb-suc-zero}
use Rattle.std.proofs.lemmas.Bool.{ltb-false}
use Rattle.std.proofs.lemmas.List.{get_or-map, length-map}
use Rattle.std.proofs.lemmas.List.Elements.{All-head, All-map, All-tail}
use Rattle.lin_parts.specs.declared.description.Description.{Description}
use Rattle.lin_parts.specs.declared.description.EventFrame as declared_event
use Rattle.lin_parts.specs.declared.description.Name.{Name}
use Rattle.lin_parts.specs.declared.description.Sporadic as declared_sporadic
use Rattle.lin_parts.specs.declared.description.TableEntry.{TableEntry}
use Rattle.lin_cluster.specs.Described.{described_entry, described_event, described_line, described_sporadic, described_table, event_number, frame_number, members_of, parts_of, sporadic_number}
use Rattle.lin_cluster.specs.Findings.{IsFree}
use Rattle.lin_cluster.specs.FindingsNames.{carries_frame, event_named, frame_named, is_any_frame, sporadic_named, at_name}
use Rattle.lin_cluster.specs.SlotTimes.{NoSlotIsShort, frame_bytes, greatest_bytes, slot_need, slot_bytes}
use Rattle.lin_cluster.specs.Slots.{first_size, frame_size, good_size, greatest_size, is_speed, needed_us, short_slot_at, slot_size}
use Rattle.lin_cluster.specs.declared.finding.Finding.{Finding}
use Rattle.lin_cluster.specs.declared.finding.FindingKind.TheVariants.{SlotTooShort}
use Rattle.lin_cluster.proofs.DescribedEvents.{found-number, part-size}
use Rattle.lin_cluster.proofs.GoodParts.{GoodLine, good-events, good-frames, good-sporadics, good-tables, within-limits}
use Rattle.lin_cluster.proofs.KnownNames.{frame-found, no_frame, no_name, no_number}
use Rattle.lin_cluster.proofs.NamesFound.{found-at, found-within}
use Rattle.lin_cluster.proofs.NothingElse.{NothingElse, nothing-else, free-is-sound, no-short-slots}
use Rattle.lin_parts.specs.Cluster.{event_of, sporadic_of}
use Rattle.lin_parts.specs.Rules.{IsCluster}
use Rattle.lin_parts.specs.declared.parts.Entry.{Entry}
use Rattle.lin_parts.specs.declared.parts.Entry.TheVariants.{Frame, Sporadic, Event, MasterReq, SlaveResp, Quiet}
use Rattle.lin_parts.specs.declared.parts.EventFrame.{EventFrame}
use Rattle.lin_parts.specs.declared.parts.Line.{Line}
use Rattle.lin_parts.specs.declared.parts.Parts.{Parts}
use Rattle.lin_parts.specs.declared.parts.SporadicFrame.{SporadicFrame}
use Rattle.lin_parts.specs.declared.parts.Table.{Table}

-- ---- the data bytes of a slot are those by which the description is judged

size-of-frame : (d : Description) → NothingElse d → (m : Name) → frame_number d m < length d.frames → frame_size d m ≡ Some (frame_bytes (parts_of d) (frame_number d m))
size-of-frame d none m lt =
    let size = (get_or d.frames (frame_number d m) no_frame).size.value
    in ap (option_and_then (λ f. good_size f.size.value)) (frame-found d m lt)
    ∙ (ap (λ b. cond b (Some size) None) (good-frames d none (frame_number d m) no_frame lt).size ∙ ap Some (sym (part-size d m lt)))

abbrev AreThere : Description → List Name → Type 0
AreThere d ms = All (λ m. frame_number d m < length d.frames) ms

all-have-sizes : (d : Description) → NothingElse d → (ms : List Name) → AreThere d ms → list_all (λ m. is_some (frame_size d m)) ms ≡ true
all-have-sizes d none [] there = refl
all-have-sizes d none (m ∷ ms) there =
    let P = λ (x : Name). frame_number d x < length d.frames
    in ap (λ o. is_some o && list_all (λ x. is_some (frame_size d x)) ms) (size-of-frame d none m (All-head P m ms there))
    ∙ all-have-sizes d none ms (All-tail P m ms there)

same-greatest : (d : Description) → NothingElse d → (n : ℕ) (ms : List Name) → AreThere d ms
    → fold (λ k m. max k (option_map_or (λ size. size) (frame_size d m) 0)) n ms ≡ fold (λ k f. max k (frame_bytes (parts_of d) f)) n (members_of d ms)
same-greatest d none n [] there = refl
same-greatest d none n (m ∷ ms) there =
    let P = λ (x : Name). frame_number d x < length d.frames
    in ap (λ o. fold (λ k x. max k (option_map_or (λ size. size) (frame_size d x) 0)) (max n (option_map_or (λ size. size) o 0)) ms) (size-of-frame d none m (All-head P m ms there))
    ∙ same-greatest d none (max n (frame_bytes (parts_of d) (frame_number d m))) ms (All-tail P m ms there)

size-of-members : (d : Description) → NothingElse d → (ms : List Name) → AreThere d ms → greatest_size d ms ≡ Some (greatest_bytes (parts_of d) (members_of d ms))
size-of-members d none ms there =
    ap (λ b. cond b (Some (fold (λ k m. max k (option_map_or (λ size. size) (frame_size d m) 0)) 0 ms)) None) (all-have-sizes d none ms there)
    ∙ ap Some (same-greatest d none 0 ms there)

size-of-first : (d : Description) → NothingElse d → (ms : List Name) → 1 ≤ length (members_of d ms) → AreThere d ms → first_size d ms ≡ Some (frame_bytes (parts_of d) (get_or (members_of d ms) 0 0))
size-of-first d none [] some there = absurd (omega arith)
size-of-first d none (m ∷ ms) some there = size-of-frame d none m (All-head (λ x. frame_number d x < length d.frames) m ms there)

-- ---- by what the entry names

frame-slot : (d : Description) → NothingElse d → (n : Name) → is_some (frame_named d n) ≡ true → frame_size d n ≡ Some (slot_bytes (parts_of d) (Frame (frame_number d n)))
frame-slot d none n known = size-of-frame d none n (found-within (λ f. bytes_eq f.name.text n.text) d.frames known)

abbrev no_sporadic : declared_sporadic.Sporadic
no_sporadic = record { name = no_name; members = [] }

sporadic-slot : (d : Description) → NothingElse d → (n : Name) → is_some (sporadic_named d n) ≡ true
    → option_and_then (λ f. greatest_size d f.members) (sporadic_named d n) ≡ Some (slot_bytes (parts_of d) (Sporadic (sporadic_number d n)))
sporadic-slot d none n known =
    let k = sporadic_number d n
    in let lt : k < length d.sporadic = found-within (λ f. bytes_eq f.name.text n.text) d.sporadic known
    in let here = get_or d.sporadic k no_sporadic
    in let part : sporadic_of (parts_of d) k ≡ members_of d here.members = ap (λ (s : SporadicFrame). s.frames) (get_or-map (described_sporadic d) d.sporadic k no_sporadic _ lt)
    in ap (option_and_then (λ f. greatest_size d f.members)) (found-at (λ f. bytes_eq f.name.text n.text) d.sporadic no_sporadic lt)
    ∙ (size-of-members d none here.members (λ i m in'. (((good-sporadics d none k no_sporadic lt).members) i m in').within)
    ∙ ap (λ fs. Some (greatest_bytes (parts_of d) fs)) (sym part))

abbrev no_event : declared_event.EventFrame
no_event = record { name = no_name; table = no_name; id = no_number; members = [] }

event-slot : (d : Description) → NothingElse d → IsCluster (parts_of d) → (n : Name) → is_some (event_named d n) ≡ true
    → option_and_then (λ e. first_size d e.members) (event_named d n) ≡ Some (slot_bytes (parts_of d) (Event (event_number d n)))
event-slot d none sound n known =
    let k = event_number d n
    in let lt : k < length d.events = found-within (λ e. bytes_eq e.name.text n.text) d.events known
    in let here = get_or d.events k no_event
    in let part : (event_of (parts_of d) k).frames ≡ members_of d here.members = ap (λ (e : EventFrame). e.frames) (get_or-map (described_event d) d.events k no_event _ lt)
    in let some : 1 ≤ length (event_of (parts_of d) k).frames = sound.events.members k _ (omega (arith, length-map d.events (described_event d)))
    in ap (option_and_then (λ e. first_size d e.members)) (found-at (λ e. bytes_eq e.name.text n.text) d.events no_event lt)
    ∙ (size-of-first d none here.members (rw part at some) (λ i m in'. ((good-events d none k no_event lt).members i m in').within)
    ∙ ap (λ fs. Some (frame_bytes (parts_of d) (get_or fs 0 0))) (sym part))

-- an entry by tests: of a group, of the two diagnostic names, and of the three kinds of frames
abbrev entry_by : Bool → Bool → Bool → Bool → Bool → Bool → ℕ → ℕ → ℕ → Entry
entry_by g m s f k e a b c = if g then Quiet else (if m then MasterReq else (if s then SlaveResp else (if f then Frame a else (if k then Sporadic b else (if e then Event c else Quiet)))))

slot-by : (x : Parts) (g m s f k e : Bool) (a b c : ℕ) (of_frame of_sporadic of_event : Option ℕ) → ((not g && not (m || s)) && not (f || k || e)) ≡ false
    → (f ≡ true → of_frame ≡ Some (slot_bytes x (Frame a))) → (k ≡ true → of_sporadic ≡ Some (slot_bytes x (Sporadic b))) → (e ≡ true → of_event ≡ Some (slot_bytes x (Event c)))
    → (if not g && not (m || s) then (if f then of_frame else if k then of_sporadic else of_event) else Some 8) ≡ Some (slot_bytes x (entry_by g m s f k e a b c))
slot-by x true m s f k e a b c of_frame of_sporadic of_event known frame sporadic event = refl
slot-by x false true s f k e a b c of_frame of_sporadic of_event known frame sporadic event = refl
slot-by x false false true f k e a b c of_frame of_sporadic of_event known frame sporadic event = refl
slot-by x false false false true k e a b c of_frame of_sporadic of_event known frame sporadic event = frame refl
slot-by x false false false false true e a b c of_frame of_sporadic of_event known frame sporadic event = sporadic refl
slot-by x false false false false false true a b c of_frame of_sporadic of_event known frame sporadic event = event refl
slot-by x false false false false false false a b c of_frame of_sporadic of_event known frame sporadic event = absurd (cc)

slot-size-is : (d : Description) → NothingElse d → IsCluster (parts_of d) → (x : TableEntry) → (carries_frame x && not (is_any_frame d x.name)) ≡ false
    → slot_size d x ≡ Some (slot_bytes (parts_of d) (described_entry d x))
slot-size-is d none sound x known =
    let n = x.name
    in let m = bytes_eq n.text (codes "MasterReq")
    in let s = bytes_eq n.text (codes "SlaveResp")
    in let f = found-number (λ y. bytes_eq y.name.text n.text) d.frames
    in let k = found-number (λ y. bytes_eq y.name.text n.text) d.sporadic
    in let e = found-number (λ y. bytes_eq y.name.text n.text) d.events
    in slot-by (parts_of d) x.has_group m s (is_some (frame_named d n)) (is_some (sporadic_named d n)) (is_some (event_named d n))
    (frame_number d n) (sporadic_number d n) (event_number d n)
    (frame_size d n) (option_and_then (λ y. greatest_size d y.members) (sporadic_named d n)) (option_and_then (λ y. first_size d y.members) (event_named d n))
    known (frame-slot d none n) (sporadic-slot d none n) (event-slot d none sound n)
    ∙ (λ i. Some (slot_bytes (parts_of d) (entry_by x.has_group m s (f i) (k i) (e i) (frame_number d n) (sporadic_number d n) (event_number d n))))

-- ---- a slot that isn't found too short

not-zero : (n : ℕ) → 1 ≤ n → (n == 0) ≡ false
not-zero zero some = absurd (omega arith)
not-zero (suc n) some = eqb-suc-zero n

not-short : (is_zero is_good is_short : Bool) (f : Finding) → is_zero ≡ false → is_good ≡ true → (if not is_zero && is_good && is_short then f ∷ [] else []) ≡ [] → is_short ≡ false
not-short false true false f zero' good none = refl
not-short false true true f zero' good none = absurd (cc)
not-short true is_good is_short f zero' good none = absurd (cc)
not-short false false is_short f zero' good none = absurd (cc)

long-entry : (d : Description) → NothingElse d → IsCluster (parts_of d) → (x : TableEntry) → GoodLine d x → short_slot_at d x ≡ [] → slot_need (parts_of d) (described_entry d x) ≤ x.delay.value
long-entry d none sound x good long =
    let bytes = slot_bytes (parts_of d) (described_entry d x)
    in let us = needed_us d.jitter.value d.speed.value bytes
    in let short : nat_lt x.delay.value us ≡ false = not-short (x.delay.value == 0) (is_speed d.speed.value) (nat_lt x.delay.value us) (at_name (SlotTooShort us) x.name)
    (not-zero x.delay.value good.some) (within-limits d none).speed (rw (slot-size-is d none sound x good.known) at long)
    in ltb-false x.delay.value us short

-- the law
pub no-slot-is-short : (d : Description) → IsFree d → IsCluster (parts_of d) → NoSlotIsShort (parts_of d)
no-slot-is-short d free sound =
    let none = nothing-else d (free-is-sound d free)
    in let c = parts_of d
    in let IsLong = λ (l : Line). slot_need c l.entry ≤ l.delay_us
    in All-map (λ (t : Table). All IsLong t.lines) (described_table d) d.tables
    (λ k t lt. All-map IsLong (described_line d) (get_or d.tables k t).entries
    (λ i x in'. long-entry d none sound (get_or (get_or d.tables k t).entries i x) ((good-tables d none k t lt).lines i x in') (no-short-slots d free k t lt i x in')))
