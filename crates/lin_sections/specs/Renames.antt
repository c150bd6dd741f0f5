-- The things of the old LDF that have another name in the new one, kind by kind: the key of one has the new names
-- of others.
use Rattle.std.specs.Prelude.{◌≡◌, ℕ, ◌++◌, List, [], ◌∷◌, codes, filter, find, flat_map, fold, if◌then◌else◌, map}
use Rattle.std.specs.Prelude.{Option}
use Rattle.std.specs.Fmt.{decimal}
use Rattle.std.specs.Option.{option_map_or, option_or}
use Rattle.std.specs.Str.{bytes_eq}
use Rattle.lin_cluster.specs.FindingsNames.{same_name}
use Rattle.lin_cluster.specs.LintNames.{has_dot}
use Rattle.lin_cluster.specs.Models.{block_named}
use Rattle.lin_parts.specs.declared.description.Attributes.{Attributes}
use Rattle.lin_parts.specs.declared.description.Description.{Description}
use Rattle.lin_parts.specs.declared.description.Frame.{Frame}
use Rattle.lin_parts.specs.declared.description.Name.{Name}
use Rattle.lin_parts.specs.declared.description.Number.{Number}
use Rattle.lin_parts.specs.declared.description.PlacedSignal.{PlacedSignal}
use Rattle.lin_parts.specs.declared.description.Signal.{Signal}
use Rattle.lin_parts.specs.declared.description.Sporadic.{Sporadic}
use Rattle.lin_parts.specs.declared.description.Table.{Table}
use Rattle.lin_sections.specs.FactTexts.{with_spaces}
use Rattle.lin_sections.specs.NewNames.{alone, is_among, keyed_name, name_in, new_names, no_renames, KeyedName, NameMap}
use Rattle.lin_sections.specs.NewNames.{renames_data, RenamesData}
use Rattle.lin_sections.specs.SortedTexts.{sorted_texts}
use Rattle.lin_sections.specs.Things.{encoding_items, entries_in, first_types, lines_in, member_names, nad_of, size_text}
use Rattle.lin_sections.specs.Things.{compared_data, ComparedData}
use Rattle.lin_values.specs.declared.codings.CodingType.{CodingType}
use Rattle.lin_sections.specs.declared.diff.compared.LdfFacts.{LdfFacts}
use Rattle.lin_sections.specs.declared.diff.fact.EntryFact.{EntryFact}
use Rattle.lin_sections.specs.declared.diff.fact.Fact.{Fact}
use Rattle.lin_sections.specs.declared.diff.new_names.Keyed.{Keyed}
use Rattle.lin_sections.specs.declared.diff.renames.Ldfs.{Ldfs}
use Rattle.lin_sections.specs.declared.diff.renames.Renames.{Renames}
use Rattle.lin_sections.specs.declared.diff.table_facts.TableLines.{TableLines}

abbrev pub number_key : Name → Number → KeyedName
number_key name id = record { name = name.text; key = decimal id.value }

-- ---- nodes: that it is the commander, or the address of a responder

abbrev pub all_node_names : Description → List (List ℕ)
all_node_names d = d.master.text ∷ map (λ n. n.text) d.slaves

abbrev pub responder_keys : Name → Option Attributes → List KeyedName
responder_keys name block =
    option_map_or (λ nad. number_key name nad ∷ []) (nad_of block) []

abbrev pub all_responder_keys : List Attributes → List Name → List KeyedName
all_responder_keys attributes slaves =
    flat_map (λ n. responder_keys n (find (λ a. same_name a.node n) attributes)) slaves

abbrev pub commander_key : Description → KeyedName
commander_key d = record { name = d.master.text; key = codes "commander" }

abbrev pub node_keys : ComparedData → List KeyedName
node_keys d =
    commander_key d.description
    ∷ flat_map (λ n. responder_keys n (block_named d.description n)) d.description.slaves

-- ---- unconditional and event-triggered frames: the identifier

abbrev pub frame_keys : ComparedData → List KeyedName
frame_keys d = map (λ f. number_key f.name f.id) d.description.frames

abbrev pub event_keys : ComparedData → List KeyedName
event_keys d = map (λ e. number_key e.name e.id) d.description.events

-- ---- signals: the size, and all places

abbrev pub place_text : List ℕ → PlacedSignal → List ℕ
place_text frame p = with_spaces (frame ∷ decimal p.offset.value ∷ [])

abbrev pub places_in : RenamesData → List ℕ → Frame → List (List ℕ)
places_in r signal f =
    map (place_text (name_in r.frames f.name.text)) (filter (λ p. bytes_eq p.signal.text signal) f.placed)

abbrev pub all_places : ComparedData → RenamesData → List ℕ → List (List ℕ)
all_places d r signal = sorted_texts (flat_map (places_in r signal) d.description.frames)

abbrev pub signal_key : Signal → List (List ℕ) → List KeyedName
signal_key s [] = []
signal_key s (p ∷ ps) =
    record { name = s.name.text; key = with_spaces (size_text s ∷ with_spaces (p ∷ ps) ∷ []) } ∷ []

abbrev pub signal_keys : ComparedData → RenamesData → List KeyedName
signal_keys d r = flat_map (λ s. signal_key s (all_places d r s.name.text)) d.description.signals

-- ---- sporadic frames: the members

abbrev pub sporadic_key : RenamesData → Sporadic → KeyedName
sporadic_key r s = record { name = s.name.text; key = with_spaces (member_names r s.members) }

abbrev pub sporadic_keys : ComparedData → RenamesData → List KeyedName
sporadic_keys d r = map (sporadic_key r) d.description.sporadic

-- ---- schedule tables: the words of the entries

abbrev pub words_key : List EntryFact → List ℕ
words_key es = flat_map (λ e. e.word ++ 10 ∷ []) es

-- a table that `--field` adds has none
abbrev pub table_keys_of : List TableLines → RenamesData → Table → List KeyedName
table_keys_of lines r t =
    if has_dot t.name.text then []
    else record { name = t.name.text; key = words_key (entries_in lines r t) } ∷ []

abbrev pub table_keys : ComparedData → RenamesData → List KeyedName
table_keys d r = flat_map (table_keys_of (lines_in d) r) d.description.tables

-- ---- encodings: all items

abbrev pub with_item : List ℕ → Fact → List ℕ
with_item text f = with_spaces (text ∷ (f.key ++ 58 ∷ []) ∷ f.value ∷ []) ++ 59 ∷ []

abbrev pub encoding_key : CodingType → KeyedName
encoding_key t = record { name = t.name.text; key = fold with_item [] (encoding_items t) }

abbrev pub encoding_keys : ComparedData → List KeyedName
encoding_keys d = map encoding_key (first_types [] d.codings.types)

-- ---- kind by kind
-- (names that are known keep their new names)

abbrev pub name_texts : {A : Type 0} → (A → Name) → List A → List (List ℕ)
name_texts name_of all = map (λ x. (name_of x).text) all

-- the new names of the things of a kind, by their names and keys in each LDF
abbrev pub renamed_names : List (List ℕ) → List (List ℕ) → List KeyedName → List KeyedName → NameMap
renamed_names old_names names olds news =
    new_names old_names (alone (is_among names) olds) (alone (is_among old_names) news)

abbrev pub and_names : NameMap → NameMap → NameMap
and_names known more name = option_or (known name) (more name)

abbrev pub with_node_names : ComparedData → ComparedData → RenamesData → RenamesData
with_node_names old new r = record r {
  nodes =
      and_names r.nodes
      (renamed_names (all_node_names old.description) (all_node_names new.description) (node_keys old) (node_keys new));
}

abbrev pub all_frame_names : ComparedData → List (List ℕ)
all_frame_names d = name_texts (λ f. f.name) d.description.frames

abbrev pub all_event_names : ComparedData → List (List ℕ)
all_event_names d = name_texts (λ e. e.name) d.description.events

abbrev pub with_frame_names : ComparedData → ComparedData → RenamesData → RenamesData
with_frame_names old new r = record r {
  frames =
      and_names r.frames (renamed_names (all_frame_names old) (all_frame_names new) (frame_keys old) (frame_keys new));
}

abbrev pub with_event_names : ComparedData → ComparedData → RenamesData → RenamesData
with_event_names old new r = record r {
  frames =
      and_names r.frames (renamed_names (all_event_names old) (all_event_names new) (event_keys old) (event_keys new));
}

abbrev pub all_signal_names : ComparedData → List (List ℕ)
all_signal_names d = name_texts (λ s. s.name) d.description.signals

abbrev pub with_signal_names : ComparedData → ComparedData → RenamesData → RenamesData
with_signal_names old new r = record r {
  signals =
      and_names r.signals
      (renamed_names (all_signal_names old) (all_signal_names new) (signal_keys old r) (signal_keys new no_renames));
}

abbrev pub all_sporadic_names : ComparedData → List (List ℕ)
all_sporadic_names d = name_texts (λ s. s.name) d.description.sporadic

abbrev pub with_sporadic_names : ComparedData → ComparedData → RenamesData → RenamesData
with_sporadic_names old new r = record r {
  frames =
      and_names r.frames
      (renamed_names (all_sporadic_names old) (all_sporadic_names new) (sporadic_keys old r) (sporadic_keys new no_renames));
}

abbrev pub all_table_names : ComparedData → List (List ℕ)
all_table_names d = name_texts (λ t. t.name) d.description.tables

abbrev pub with_table_names : ComparedData → ComparedData → RenamesData → RenamesData
with_table_names old new r = record r {
  tables =
      and_names r.tables
      (renamed_names (all_table_names old) (all_table_names new) (table_keys old r) (table_keys new no_renames));
}

abbrev pub all_encoding_names : ComparedData → List (List ℕ)
all_encoding_names d = name_texts (λ t. t.name) d.codings.types

abbrev pub with_encoding_names : ComparedData → ComparedData → RenamesData → RenamesData
with_encoding_names old new r = record r {
  encodings =
      and_names r.encodings
      (renamed_names (all_encoding_names old) (all_encoding_names new) (encoding_keys old) (encoding_keys new));
}

abbrev pub all_renames : ComparedData → ComparedData → RenamesData
all_renames old new =
    with_encoding_names old new (with_table_names old new (with_sporadic_names old new (with_signal_names old new
    (with_event_names old new (with_frame_names old new (with_node_names old new no_renames))))))

-- ---- what contracts see of the code's types

-- the new names are those with the names of a kind of things
abbrev pub RenamesBy : (ComparedData → ComparedData → RenamesData → RenamesData) → Ldfs → Renames → Renames → Type 0
RenamesBy with_names ldfs before after =
    renames_data after ≡ with_names (compared_data ldfs.old.now.ldf) (compared_data ldfs.new.now.ldf) (renames_data before)

-- the keys of the things of which the other LDF doesn't have the names
abbrev pub AreKeys : (ComparedData → List (List ℕ)) → LdfFacts → List Keyed → List KeyedName → Type 0
AreKeys names_in other keys things = map keyed_name keys ≡ alone (is_among (names_in (compared_data other.ldf))) things
