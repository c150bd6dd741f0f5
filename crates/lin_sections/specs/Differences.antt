-- The differences between two LDFs: kind by kind, of each first the things of the old LDF in their order, each with
-- its facts and entries, then those that the new LDF alone has.
use Rattle.std.specs.Prelude.{◌≡◌, ℕ, ◌&&◌, ◌++◌, ◌==◌, Bool, false, List, [], ◌∷◌, codes, find, flat_map}
use Rattle.std.specs.Prelude.{if◌then◌else◌, is_some, length, map, not, option_map, zip, Option}
use Rattle.std.specs.Prelude.{Some, None}
use Rattle.std.specs.List.{list_any, position_from, range_with_len}
use Rattle.std.specs.Option.{option_map_or}
use Rattle.std.specs.Str.{bytes_eq}
use Rattle.lin_parts.specs.declared.place.Location.{Location}
use Rattle.lin_sections.specs.Facts.{class_if_gone, class_if_new, label, overlap}
use Rattle.lin_sections.specs.Moved.{moved_flags}
use Rattle.indexmap.specs.IndexMap.{IndexMap}
use denote.Ref.{Bor}
use Rattle.lin_sections.specs.Numbering.{entry_id, ArePlaces}
use Rattle.lin_sections.specs.declared.diff.difference.Difference.{Difference}
use Rattle.lin_sections.specs.declared.diff.fact.Class.{Class}
use Rattle.lin_sections.specs.declared.diff.fact.Class.TheVariants as classes
use Rattle.lin_sections.specs.declared.diff.fact.EntryFact.{EntryFact}
use Rattle.lin_sections.specs.declared.diff.fact.Fact.{Fact}
use Rattle.lin_sections.specs.declared.diff.fact.ThingKind.{ThingKind}
use Rattle.lin_sections.specs.declared.diff.fact.Thing.{Thing}

-- a difference, as its line has it: words that are empty aren't written
pub record DifferenceData : Type 0 where
  pub class : Class
  pub kind : ThingKind
  pub old_place : Option Location
  pub new_place : Option Location
  pub name : List ℕ
  pub label : List ℕ
  pub entry : List ℕ
  pub old : Option (List ℕ)
  pub new : Option (List ℕ)

-- ---- facts

abbrev pub fact_with : List ℕ → List Fact → Option Fact
fact_with key fs = find (λ f. bytes_eq f.key key) fs

-- the values and places of a fact; the place of the thing where it doesn't have the fact
abbrev pub fact_difference : Class → Thing → Thing → Fact → Option Fact → Option Fact → DifferenceData
fact_difference class o n f old new = record {
  class = class;
  kind = o.kind;
  old_place = Some (option_map_or (λ g. g.place) old o.place);
  new_place = Some (option_map_or (λ g. g.place) new n.place);
  name = n.name;
  label = label f;
  entry = [];
  old = option_map (λ g. g.value) old;
  new = option_map (λ g. g.value) new;
}

-- a fact of the old thing, where the new one doesn't have it with this value
abbrev pub old_fact : Thing → Thing → Fact → List DifferenceData
old_fact o n f =
    let other = fact_with f.key n.facts
    in if option_map_or (λ g. bytes_eq g.value f.value) other false then []
    else fact_difference f.class o n f (Some f) other ∷ []

-- a signal on bits that were free is compatible
abbrev pub class_of_new : Thing → Fact → Class
class_of_new o f =
    if option_map_or (λ bits. not (list_any (λ taken. overlap taken bits) o.taken)) f.bits false
    then classes.Compatible else f.class

abbrev pub new_fact : Thing → Thing → Fact → List DifferenceData
new_fact o n f =
    if is_some (fact_with f.key o.facts) then []
    else fact_difference (class_of_new o f) o n f None (Some f) ∷ []

-- ---- entries of schedule tables

abbrev pub entry_difference : Thing → Thing → EntryFact → Option EntryFact → Option EntryFact → DifferenceData
entry_difference o n e old new = record {
  class = classes.Timing;
  kind = o.kind;
  old_place = Some (option_map_or (λ x. x.place) old o.place);
  new_place = Some (option_map_or (λ x. x.place) new n.place);
  name = n.name;
  label = codes "entry";
  entry = e.word;
  old = option_map (λ x. x.position) old;
  new = option_map (λ x. x.position) new;
}

abbrev pub delay_difference : Thing → Thing → EntryFact → EntryFact → DifferenceData
delay_difference o n old new = record {
  class = classes.Timing;
  kind = o.kind;
  old_place = Some old.delay_place;
  new_place = Some new.delay_place;
  name = n.name;
  label = codes "delay";
  entry = old.word;
  old = Some old.delay;
  new = Some new.delay;
}

abbrev pub entry_with_id : List ℕ → List EntryFact → Option EntryFact
entry_with_id id es = find (λ e. bytes_eq (entry_id e) id) es

abbrev pub place_of_entry : List EntryFact → EntryFact → Option ℕ
place_of_entry es e = position_from (λ id. bytes_eq id (entry_id e)) 0 (map entry_id es)

-- the places in the old table of the entries that both have, in the order of the new one
abbrev pub old_places : List EntryFact → List EntryFact → List ℕ
old_places olds news = flat_map (λ e. option_map_or (λ p. p ∷ []) (place_of_entry olds e) []) news

-- whether an entry of the old table was moved
abbrev pub was_moved : List ℕ → ℕ → Bool
was_moved places p = list_any (λ (pair : ℕ × Bool). pair.1 && pair.0 == p) (zip places (moved_flags places))

-- of each entry of the old table
abbrev pub moved_entries : List EntryFact → List ℕ → List Bool
moved_entries olds places = map (was_moved places) (range_with_len 0 (length olds))

-- whether an entry of the old table was moved, by the places of the pairs
abbrev pub is_moved_by : List ℕ → List EntryFact → EntryFact → Bool
is_moved_by places olds e = option_map_or (was_moved places) (place_of_entry olds e) false

-- the same by the flags of the entries, and by a map of their places
abbrev pub TellsMoved : {S : Type 0} → List Bool → IndexMap (Bor (List ℕ)) ℕ S → EntryFact → Bool → Type 0
TellsMoved moved m e is_moved =
    (entries : List EntryFact) (places : List ℕ) → ArePlaces (map entry_id entries) m
    → moved ≡ moved_entries entries places → is_moved ≡ is_moved_by places entries e

abbrev pub is_moved_in : List EntryFact → List EntryFact → EntryFact → Bool
is_moved_in olds news e = is_moved_by (old_places olds news) olds e

abbrev pub pair_differences : Thing → Thing → Bool → EntryFact → EntryFact → List DifferenceData
pair_differences o n is_moved old new =
    (if is_moved then entry_difference o n old (Some old) (Some new) ∷ [] else [])
    ++ (if bytes_eq old.delay new.delay then [] else delay_difference o n old new ∷ [])

abbrev pub old_entry : Thing → Thing → EntryFact → List DifferenceData
old_entry o n e =
    option_map_or (pair_differences o n (is_moved_in o.entries n.entries e) e)
    (entry_with_id (entry_id e) n.entries) (entry_difference o n e (Some e) None ∷ [])

abbrev pub new_entry : Thing → Thing → EntryFact → List DifferenceData
new_entry o n e =
    if is_some (entry_with_id (entry_id e) o.entries) then [] else entry_difference o n e None (Some e) ∷ []

-- of two tables
abbrev pub entry_differences : Thing → Thing → List DifferenceData
entry_differences o n = flat_map (old_entry o n) o.entries ++ flat_map (new_entry o n) n.entries

-- ---- things

abbrev pub named_difference : Class → ThingKind → Option Location → Option Location → Option (List ℕ)
    → Option (List ℕ) → DifferenceData
named_difference class kind old_place new_place old new = record {
  class = class;
  kind = kind;
  old_place = old_place;
  new_place = new_place;
  name = [];
  label = [];
  entry = [];
  old = old;
  new = new;
}

-- of names with their places
abbrev pub difference_between : Class → ThingKind → Option (Bor (List ℕ) × Location)
    → Option (Bor (List ℕ) × Location) → DifferenceData
difference_between class kind old new =
    named_difference class kind (option_map (λ t. t.1) old) (option_map (λ t. t.1) new)
    (option_map (λ t. t.0.now) old) (option_map (λ t. t.0.now) new)

abbrev pub thing_difference : Class → ThingKind → Option Thing → Option Thing → DifferenceData
thing_difference class kind old new =
    named_difference class kind (option_map (λ t. t.place) old) (option_map (λ t. t.place) new)
    (option_map (λ t. t.name) old) (option_map (λ t. t.name) new)

-- a thing that both have
abbrev pub thing_differences : Thing → Thing → List DifferenceData
thing_differences o n =
    (if bytes_eq o.name n.name then [] else thing_difference classes.Names o.kind (Some o) (Some n) ∷ [])
    ++ (flat_map (old_fact o n) o.facts
    ++ (flat_map (new_fact o n) n.facts ++ entry_differences o n))

abbrev pub thing_named : List ℕ → List Thing → Option Thing
thing_named name ts = find (λ t. bytes_eq t.new_name name) ts

abbrev pub old_thing : List Thing → Thing → List DifferenceData
old_thing news o =
    option_map_or (thing_differences o) (thing_named o.new_name news)
    (thing_difference (class_if_gone o.kind) o.kind (Some o) None ∷ [])

abbrev pub new_thing : List Thing → Thing → List DifferenceData
new_thing olds n =
    if is_some (thing_named n.new_name olds) then []
    else thing_difference (class_if_new n.kind) n.kind None (Some n) ∷ []

abbrev pub kind_differences : List Thing → List Thing → List DifferenceData
kind_differences olds news = flat_map (old_thing news) olds ++ flat_map (new_thing olds) news

abbrev pub all_differences : List (List Thing) → List (List Thing) → List DifferenceData
all_differences olds news =
    flat_map (λ (kinds : List Thing × List Thing). kind_differences kinds.0 kinds.1) (zip olds news)

-- ---- what contracts see of the code's types

abbrev pub difference_data : Difference → DifferenceData
difference_data d = record {
  class = d.class;
  kind = d.kind;
  old_place = d.old_place;
  new_place = d.new_place;
  name = d.name.now;
  label = d.label.now;
  entry = d.entry.now;
  old = option_map (λ v. v.now) d.old;
  new = option_map (λ v. v.now) d.new;
}

abbrev pub differences_data : List Difference → List DifferenceData
differences_data ds = map difference_data ds

-- so many flags, each by its place
abbrev pub AreFlags : ℕ → (ℕ → Bool) → List Bool → Type 0
AreFlags count f flags = flags ≡ map f (range_with_len 0 count)

-- a list of differences got these at its end
abbrev pub AddsDifferences : List Difference → List Difference → List DifferenceData → Type 0
AddsDifferences before after more = differences_data after ≡ differences_data before ++ more
