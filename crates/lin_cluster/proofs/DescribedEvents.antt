-- The sporadic and event-triggered frames of a description without findings keep the rules of
-- clusters.
use Rattle.std.proofs.Common.{◌≡◌, ◌<◌, ◌≤◌, ◌==◌, nat_lt, ℕ, Bool, true, false, not, ◌&&◌, ◌||◌, if◌then◌else◌, List, [], ◌∷◌, length, get_or, take, map, refl, sym, subst, ap, ◌∙◌, inl, inr, arith}
use Rattle.std.specs.Prelude.{All, AllPairs, codes, find, is_some, Some}
use Rattle.std.specs.Option.{option_map, option_map_or}
use Rattle.std.specs.List.{list_any, position_or_len}
use Rattle.std.specs.Str.{bytes_eq}
use Rattle.std.proofs.lemmas.Bool.{or_parts, both_ways, eqb-true, not-false, lt-ltb, le-ltb, cases_lt}
use Rattle.std.proofs.lemmas.List.{length-map, get_or-take, length-take-le, get_or-map}
use Rattle.std.proofs.lemmas.List.Elements.{All-map}
use Rattle.lin_frame.specs.declared.sums.SumKind.{SumKind}
use Rattle.lin_frame.specs.declared.sums.SumKind.TheVariants.{Classic, Enhanced}
use Rattle.lin_parts.specs.declared.description.Description.{Description}
use Rattle.lin_parts.specs.declared.description.EventFrame as declared_event
use Rattle.lin_parts.specs.declared.description.Name.{Name}
use Rattle.lin_parts.specs.declared.description.TableEntry.{TableEntry}
use Rattle.lin_parts.specs.Cluster.{frame_of, table_of}
use Rattle.lin_cluster.specs.Described.{node_number, frame_number, sporadic_number, event_number, table_number, described_sporadic, described_event, described_entry, described_line, described_table, parts_of}
use Rattle.lin_cluster.specs.FindingsNames.{is_node, same_name, sporadic_named, event_named, is_event_entry}
use Rattle.lin_cluster.specs.Members.{is_responders, is_bad_member, has_publisher, differs_from_first, is_in_front, is_mixed}
use Rattle.lin_cluster.specs.Fitting.{HasMembers}
use Rattle.lin_cluster.specs.Models.{frame_model, model_named, first_model, differ}
use Rattle.lin_parts.specs.Rules.{AreSporadic, AreEvents, IsCommanders, IsResponders, HaveOwnPublishers, HaveOneSize, is_event}
use Rattle.lin_parts.specs.declared.parts.Entry.TheVariants.{Frame, Sporadic as SporadicEntry, Event, MasterReq, SlaveResp, Quiet}
use Rattle.lin_parts.specs.declared.parts.EventFrame.{EventFrame}
use Rattle.lin_parts.specs.declared.parts.Line.{Line}
use Rattle.lin_parts.specs.declared.parts.SignalFrame.{SignalFrame}
use Rattle.lin_parts.specs.declared.parts.SporadicFrame.{SporadicFrame}
use Rattle.lin_parts.specs.declared.parts.Table.{Table}
use Rattle.lin_cluster.proofs.DescribedTables.{frames-count}
use Rattle.lin_cluster.proofs.GoodParts.{GoodMember, GoodEvent, the_frame, good-frames, good-sporadics, good-events, within-limits}
use Rattle.lin_cluster.proofs.KnownNames.{no_table, commander, not-commander, same-node, frame-found, frame-part}
use Rattle.lin_cluster.proofs.NamesFound.{found-at, found-past}
use Rattle.lin_cluster.proofs.NothingElse.{NothingElse}
use Rattle.lin_cluster.proofs.NothingIn.{none-has}
use Rattle.lin_parts.proofs.Pairs.{pairs-map}

-- ---- the frame that a member means

part-publisher : (d : Description) (m : Name) → frame_number d m < length d.frames → (frame_of (parts_of d) (frame_number d m)).publisher ≡ node_number d (the_frame d m).publisher
part-publisher d m lt = ap (λ (f : SignalFrame). f.publisher) (frame-part d (frame_number d m) lt)

pub part-size : (d : Description) (m : Name) → frame_number d m < length d.frames → (frame_of (parts_of d) (frame_number d m)).layout.len ≡ (the_frame d m).size.value
part-size d m lt = ap (λ (f : SignalFrame). f.layout.len) (frame-part d (frame_number d m) lt)

part-model : (d : Description) (m : Name) → frame_number d m < length d.frames → (frame_of (parts_of d) (frame_number d m)).model ≡ frame_model d (the_frame d m)
part-model d m lt = ap (λ (f : SignalFrame). f.model) (frame-part d (frame_number d m) lt)

member-there : (d : Description) (m : Name) → frame_number d m < length d.frames → frame_number d m < length (parts_of d).frames
member-there d m lt = omega (arith, frames-count d)

the-publisher : (d : Description) → NothingElse d → (m : Name) → frame_number d m < length d.frames → is_node d (the_frame d m).publisher ≡ true
the-publisher d none m lt = (good-frames d none (frame_number d m) _ lt).publisher

-- ---- sporadic frames

the-commanders : (known same : Bool) → known ≡ true → (known && not same) ≡ false → same ≡ true
the-commanders true true k e = refl
the-commanders true false k e = absurd (cc)
the-commanders false same k e = absurd (cc)

commanders-frame : (d : Description) → NothingElse d → (m : Name) → GoodMember d (is_responders d) m → IsCommanders (parts_of d) (frame_number d m)
commanders-frame d none m good =
    let f = the_frame d m
    in (
      member-there d m good.within,
      part-publisher d m good.within ∙ commander d f.publisher (the-commanders (is_node d f.publisher) (same_name f.publisher d.master) (the-publisher d none m good.within) good.passes),
    )

pub described-sporadic : (d : Description) → NothingElse d → HasMembers d → AreSporadic (parts_of d)
described-sporadic d none members =
    let good = good-sporadics d none
    in record {
      number = omega (arith, (within-limits d none).sporadic, length-map d.sporadic (described_sporadic d));
      members = All-map (λ (s : SporadicFrame). 1 ≤ length s.frames) (described_sporadic d) d.sporadic (λ k s lt. omega (arith, members.sporadic k s lt, length-map (get_or d.sporadic k s).members (frame_number d)));
      frames = All-map (λ (s : SporadicFrame). All (IsCommanders (parts_of d)) s.frames) (described_sporadic d) d.sporadic (λ k s lt.
          let here = get_or d.sporadic k s
          in All-map (IsCommanders (parts_of d)) (frame_number d) here.members (λ i m in'. commanders-frame d none (get_or here.members i m) ((good k s lt).members i m in')));
    }

-- ---- members of an event-triggered frame

record EventMember (d : Description) (members earlier : List Name) (m : Name) : Type 0 where
  within : frame_number d m < length d.frames
  responders : same_name (the_frame d m).publisher d.master ≡ false
  own : list_any (has_publisher d (the_frame d m).publisher) earlier ≡ false
  size : differs_from_first d members (the_frame d m) ≡ false

right-false : (a b : Bool) → a ≡ true → (a && b) ≡ false → b ≡ false
right-false true b e h = h
right-false false b e h = absurd (cc)

event-member : (d : Description) → NothingElse d → (members earlier : List Name) (m : Name) → GoodMember d (is_bad_member d members earlier) m → EventMember d members earlier m
event-member d none members earlier m good =
    let f = the_frame d m
    in let own = is_node d f.publisher && list_any (has_publisher d f.publisher) earlier
    in let front = or_parts (same_name f.publisher d.master || own || differs_from_first d members f) (list_any (is_in_front d) f.placed) good.passes
    in let sizes = or_parts (same_name f.publisher d.master || own) (differs_from_first d members f) front.0
    in let publishers = or_parts (same_name f.publisher d.master) own sizes.0
    in record {
      within = good.within;
      responders = publishers.0;
      own = right-false (is_node d f.publisher) (list_any (has_publisher d f.publisher) earlier) (the-publisher d none m good.within) publishers.1;
      size = sizes.1;
    }

responders-frame : (d : Description) (members earlier : List Name) (m : Name) → EventMember d members earlier m → IsResponders (parts_of d) (frame_number d m)
responders-frame d members earlier m good = (
  member-there d m good.within,
  λ e. not-commander d (the_frame d m).publisher good.responders (sym (part-publisher d m good.within) ∙ e),
)

-- a member and one after it have different publishers
own-publishers : (d : Description) → NothingElse d → (members earlier others : List Name) (m n : Name) → EventMember d members others m → EventMember d members earlier n → has_publisher d (the_frame d n).publisher m ≡ false → HaveOwnPublishers (parts_of d) (frame_number d m) (frame_number d n)
own-publishers d none members earlier others m n before here differ same =
    let f = the_frame d m
    in let g = the_frame d n
    in let names : same_name f.publisher g.publisher ≡ false = rw (frame-found d m before.within) at differ
    in let numbers : node_number d f.publisher ≡ node_number d g.publisher = sym (part-publisher d m before.within) ∙ (same ∙ part-publisher d n here.within)
    in both_ways (same_name f.publisher g.publisher) names (same-node d f.publisher g.publisher (the-publisher d none m before.within) numbers)

first-size : (d : Description) (first : Name) (rest : List Name) (m : Name) → frame_number d first < length d.frames → differs_from_first d (first ∷ rest) (the_frame d m) ≡ false → (the_frame d first).size.value ≡ (the_frame d m).size.value
first-size d first rest m lt e =
    let same : not ((the_frame d first).size.value == (the_frame d m).size.value) ≡ false = rw (frame-found d first lt) at e
    in eqb-true (the_frame d first).size.value (the_frame d m).size.value (not-false _ same)

abbrev EachMember : Description → List Name → Type 0
EachMember d members = (i : ℕ) (m : Name) → i < length members → EventMember d members (take i members) (get_or members i m)

one-size : (d : Description) (members : List Name) → EachMember d members → AllPairs (λ m n. HaveOneSize (parts_of d) (frame_number d m) (frame_number d n)) members
one-size d [] each i j x lt in' = absurd (omega arith)
one-size d (first ∷ rest) each i j x lt in' =
    let m = get_or (first ∷ rest) i x
    in let n = get_or (first ∷ rest) j x
    in let before = each i x (omega arith)
    in let here = each j x in'
    in let there = (each 0 x (omega arith)).within
    in part-size d m before.within ∙ (sym (first-size d first rest m there before.size) ∙ (first-size d first rest n there here.size ∙ sym (part-size d n here.within)))

-- checksum models that don't differ
one-model : (a b : SumKind) → differ a b ≡ false → a ≡ b
one-model Classic Classic e = refl
one-model Classic Enhanced e = absurd (cc)
one-model Enhanced Classic e = absurd (cc)
one-model Enhanced Enhanced e = refl

model-found : (d : Description) (m : Name) → frame_number d m < length d.frames → model_named d m ≡ Some (frame_model d (the_frame d m))
model-found d m lt = ap (option_map (frame_model d)) (frame-found d m lt)

-- the model that is described, by the first member
first-is : (d : Description) (first : Name) (rest : List Name) → frame_number d first < length d.frames → option_map_or (λ model. model) (first_model d (first ∷ rest)) Enhanced ≡ frame_model d (the_frame d first)
first-is d first rest lt = ap (λ o. option_map_or (λ model. model) o Enhanced) (model-found d first lt)

same-model : (d : Description) (first : Name) (rest : List Name) (m : Name) → frame_number d first < length d.frames → frame_number d m < length d.frames → is_mixed d (first ∷ rest) m ≡ false → frame_model d (the_frame d m) ≡ frame_model d (the_frame d first)
same-model d first rest m there lt e =
    let apart : differ (frame_model d (the_frame d m)) (frame_model d (the_frame d first)) ≡ false = rw (model-found d m lt, model-found d first there) at e
    in one-model (frame_model d (the_frame d m)) (frame_model d (the_frame d first)) apart

all-models : (d : Description) (members : List Name) → EachMember d members → All (λ m. is_mixed d members m ≡ false) members → All (λ m. (frame_of (parts_of d) (frame_number d m)).model ≡ option_map_or (λ model. model) (first_model d members) Enhanced) members
all-models d [] each models i x in' = absurd (omega arith)
all-models d (first ∷ rest) each models i x in' =
    let m = get_or (first ∷ rest) i x
    in let here = (each i x in').within
    in let there = (each 0 x (omega arith)).within
    in part-model d m here ∙ (same-model d first rest m there here (models i x in') ∙ sym (first-is d first rest there))

publishers-apart : (d : Description) → NothingElse d → (members : List Name) → EachMember d members → AllPairs (λ m n. HaveOwnPublishers (parts_of d) (frame_number d m) (frame_number d n)) members
publishers-apart d none members each i j x lt in' =
    let m = get_or members i x
    in let n = get_or members j x
    in let here = each j x in'
    in let differ : has_publisher d (the_frame d n).publisher (get_or (take j members) i x) ≡ false = none-has (has_publisher d (the_frame d n).publisher) (take j members) here.own i x (omega (arith, length-take-le j members (omega arith)))
    in own-publishers d none members (take j members) (take i members) m n (each i x (omega arith)) here (rw (get_or-take j members i x lt) at differ)

-- ---- the table that resolves collisions

-- a name is found where its number is in range
pub found-number : {X : Type 0} (p : X → Bool) (xs : List X) → is_some (find p xs) ≡ nat_lt (position_or_len p xs) (length xs)
found-number p [] = refl
found-number p (x ∷ xs) =
    elim (cases_lt (position_or_len p (x ∷ xs)) (length (x ∷ xs))) as (λ _. is_some (find p (x ∷ xs)) ≡ nat_lt (position_or_len p (x ∷ xs)) (length (x ∷ xs))) [
      | inl lt ↦ ap is_some (found-at p (x ∷ xs) x lt) ∙ sym (lt-ltb (position_or_len p (x ∷ xs)) (length (x ∷ xs)) lt)
      | inr le ↦ found-past p (x ∷ xs) le ∙ sym (le-ltb (position_or_len p (x ∷ xs)) (length (x ∷ xs)) le)
    ]

-- the kinds of entries by tests
entry-kinds : (g m s f k e : Bool) (a b c : ℕ) → (not g && not (m || s) && not f && not k && e) ≡ false
    → is_event (if g then Quiet else (if m then MasterReq else (if s then SlaveResp else (if f then Frame a else (if k then SporadicEntry b else (if e then Event c else Quiet)))))) ≡ false
entry-kinds true m s f k e a b c h = refl
entry-kinds false true s f k e a b c h = refl
entry-kinds false false true f k e a b c h = refl
entry-kinds false false false true k e a b c h = refl
entry-kinds false false false false true e a b c h = refl
entry-kinds false false false false false true a b c h = absurd (cc)
entry-kinds false false false false false false a b c h = refl

abbrev no_event_line : Bool → Bool → Bool → Bool → Bool → Bool → Bool
no_event_line g m s f k e = not g && not (m || s) && not f && not k && e

no-event : (d : Description) (x : TableEntry) → is_event_entry d x ≡ false → is_event (described_entry d x) ≡ false
no-event d x h =
    let g = x.has_group
    in let m = bytes_eq x.name.text (codes "MasterReq")
    in let s = bytes_eq x.name.text (codes "SlaveResp")
    in let f = found-number (λ y. bytes_eq y.name.text x.name.text) d.frames
    in let k = found-number (λ y. bytes_eq y.name.text x.name.text) d.sporadic
    in let e = found-number (λ y. bytes_eq y.name.text x.name.text) d.events
    in let by-frame : no_event_line g m s (nat_lt (frame_number d x.name) (length d.frames)) (is_some (sporadic_named d x.name)) (is_some (event_named d x.name)) ≡ false = subst (λ b. no_event_line g m s b (is_some (sporadic_named d x.name)) (is_some (event_named d x.name)) ≡ false) f h
    in let by-sporadic : no_event_line g m s (nat_lt (frame_number d x.name) (length d.frames)) (nat_lt (sporadic_number d x.name) (length d.sporadic)) (is_some (event_named d x.name)) ≡ false = subst (λ b. no_event_line g m s (nat_lt (frame_number d x.name) (length d.frames)) b (is_some (event_named d x.name)) ≡ false) k by-frame
    in let by-event : no_event_line g m s (nat_lt (frame_number d x.name) (length d.frames)) (nat_lt (sporadic_number d x.name) (length d.sporadic)) (nat_lt (event_number d x.name) (length d.events)) ≡ false = subst (λ b. no_event_line g m s (nat_lt (frame_number d x.name) (length d.frames)) (nat_lt (sporadic_number d x.name) (length d.sporadic)) b ≡ false) e by-sporadic
    in entry-kinds g m s (nat_lt (frame_number d x.name) (length d.frames)) (nat_lt (sporadic_number d x.name) (length d.sporadic)) (nat_lt (event_number d x.name) (length d.events)) (frame_number d x.name) (sporadic_number d x.name) (event_number d x.name) by-event

table-part : (d : Description) (t : ℕ) → t < length d.tables → table_of (parts_of d) t ≡ map (described_line d) (get_or d.tables t no_table).entries
table-part d t lt = ap (λ (table : Table). table.lines) (get_or-map (described_table d) d.tables t no_table _ lt)

resolving-table : (d : Description) (e : declared_event.EventFrame) → GoodEvent d e → All (λ line. is_event line.entry ≡ false) (table_of (parts_of d) (table_number d e.table))
resolving-table d e good =
    subst (λ (lines : List Line). All (λ line. is_event line.entry ≡ false) lines) (sym (table-part d (table_number d e.table) good.table))
    (All-map (λ (line : Line). is_event line.entry ≡ false) (described_line d) (get_or d.tables (table_number d e.table) no_table).entries
    (λ i x lt. no-event d (get_or (get_or d.tables (table_number d e.table) no_table).entries i x) (good.resolving i x lt)))

-- ---- event-triggered frames

pub described-events : (d : Description) → NothingElse d → HasMembers d → AreEvents (parts_of d)
described-events d none members =
    let c = parts_of d
    in let good = good-events d none
    in let each : (k : ℕ) (e : declared_event.EventFrame) → k < length d.events → EachMember d (get_or d.events k e).members =
    λ k e lt i m in'. let names = (get_or d.events k e).members in event-member d none names (take i names) (get_or names i m) ((good k e lt).members i m in')
    in record {
      models = All-map (λ (e : EventFrame). All (λ f. (frame_of c f).model ≡ e.model) e.frames) (described_event d) d.events (λ k e lt.
          let names = (get_or d.events k e).members
          in All-map (λ f. (frame_of c f).model ≡ option_map_or (λ model. model) (first_model d names) Enhanced) (frame_number d) names (all-models d names (each k e lt) (good k e lt).models));
      members = All-map (λ (e : EventFrame). 1 ≤ length e.frames) (described_event d) d.events (λ k e lt. omega (arith, members.events k e lt, length-map (get_or d.events k e).members (frame_number d)));
      frames = All-map (λ (e : EventFrame). All (IsResponders c) e.frames) (described_event d) d.events (λ k e lt.
          let names = (get_or d.events k e).members
          in All-map (IsResponders c) (frame_number d) names (λ i m in'. responders-frame d names (take i names) (get_or names i m) (each k e lt i m in')));
      own_publishers = All-map (λ (e : EventFrame). AllPairs (HaveOwnPublishers c) e.frames) (described_event d) d.events (λ k e lt.
          let names = (get_or d.events k e).members
          in pairs-map (HaveOwnPublishers c) (frame_number d) names (publishers-apart d none names (each k e lt)));
      sizes = All-map (λ (e : EventFrame). AllPairs (HaveOneSize c) e.frames) (described_event d) d.events (λ k e lt.
          let names = (get_or d.events k e).members
          in pairs-map (HaveOneSize c) (frame_number d) names (one-size d names (each k e lt)));
      tables = All-map (λ (e : EventFrame). e.table < length c.tables) (described_event d) d.events (λ k e lt. omega (arith, (good k e lt).table, length-map d.tables (described_table d)));
      resolving = All-map (λ (e : EventFrame). All (λ line. is_event line.entry ≡ false) (table_of c e.table)) (described_event d) d.events (λ k e lt. resolving-table d (get_or d.events k e) (good k e lt));
    }
