-- The facts of the things that an LDF declares (LIN 2.2A, section 9), each with its class and its place. Names are
-- those that the new LDF has.
use Rattle.std.specs.Prelude.{◌≡◌, ℕ, ◌+◌, ◌-◌, ◌%◌, ◌&&◌, ◌||◌, ◌++◌, Bool, List, [], ◌∷◌, codes, filter, find}
use Rattle.std.specs.Prelude.{flat_map}
use Rattle.std.specs.Prelude.{fold, if◌then◌else◌, map, nat_le, not, option_and_then, slice_get, zip}
use Rattle.std.specs.Prelude.{Option, Some, None}
use Rattle.std.specs.Fmt.{decimal}
use Rattle.std.specs.List.{list_any}
use Rattle.std.specs.Option.{option_map_or}
use Rattle.std.specs.Str.{bytes_eq}
use Rattle.lin_cluster.specs.FindingsNames.{same_name, signal_named}
use Rattle.lin_cluster.specs.LintNames.{has_dot}
use Rattle.lin_cluster.specs.Models.{block_named}
use Rattle.lin_frame.specs.declared.sums.SumKind.{SumKind}
use Rattle.lin_frame.specs.declared.sums.SumKind.TheVariants.{Classic, Enhanced}
use Rattle.lin_ldf.specs.Forms.{front, has_front, tail}
use Rattle.lin_ldf.specs.Grammar.{without_quotes}
use Rattle.lin_ldf.specs.Loops.{is_next}
use Rattle.lin_ldf.specs.Stream.{start_of}
use Rattle.lin_ldf.specs.Symbols.{Symbol, symbols_in}
use Rattle.lin_ldf.specs.Words.{is_word_next, name_of, place_of}
use Rattle.lin_ldf.specs.declared.token.TokenKind.TheVariants as kinds
use Rattle.lin_parts.specs.declared.description.Attributes.{Attributes}
use Rattle.lin_parts.specs.declared.description.Description.{Description}
use Rattle.lin_parts.specs.declared.description.EventFrame.{EventFrame}
use Rattle.lin_parts.specs.declared.description.Frame.{Frame}
use Rattle.lin_parts.specs.declared.description.Init.{Init}
use Rattle.lin_parts.specs.declared.description.Init.TheVariants.{Scalar, Array}
use Rattle.lin_parts.specs.declared.description.Name.{Name}
use Rattle.lin_parts.specs.declared.description.Number.{Number}
use Rattle.lin_parts.specs.declared.description.PlacedSignal.{PlacedSignal}
use Rattle.lin_parts.specs.declared.description.Signal.{Signal}
use Rattle.lin_parts.specs.declared.description.Sporadic.{Sporadic}
use Rattle.lin_parts.specs.declared.description.Table.{Table}
use Rattle.lin_parts.specs.declared.description.TableEntry.{TableEntry}
use Rattle.lin_parts.specs.declared.parts.Parts.{Parts}
use Rattle.lin_parts.specs.declared.place.Location.{Location}
use Rattle.lin_sections.specs.AttributeValues.{is_one_word, is_timing, milliseconds_in}
use Rattle.lin_sections.specs.Attributes.{node_attributes}
use Rattle.lin_values.specs.Coded.{is_named, named_in}
use Rattle.lin_sections.specs.FactTexts.{two_hex_digits, with_spaces}
use Rattle.lin_values.specs.Gathered.{AreNamed}
use Rattle.lin_sections.specs.Facts.{fact, is_compatible, place_of_name, place_of_number, thing}
use Rattle.lin_sections.specs.NewNames.{is_among, name_in, RenamesData}
use Rattle.lin_sections.specs.Numbering.{numbered_facts, numbered_entries}
use Rattle.lin_sections.specs.Passed.{behind_line, has_line}
use Rattle.lin_values.specs.Shown.{decimal_shown}
use Rattle.lin_values.specs.Spelled.{in_quotes}
use Rattle.lin_sections.specs.SortedTexts.{sorted_texts}
use Rattle.lin_sections.specs.Statements.{inside, is_group, statements}
use Rattle.lin_sections.specs.Texts.{shown_text}
use Rattle.lin_sections.specs.TokenTexts.{as_they_are, command_text, lines_of_header, with_decimals, with_frame_names_of, with_signal_names_of}
use Rattle.lin_sections.specs.TokenTexts.{value_text, without_equals}
use Rattle.lin_sections.specs.declared.attribute_blocks.NodeAttributes.{NodeAttributes}
use Rattle.lin_values.specs.declared.codings.CodingType.{CodingType}
use Rattle.lin_values.specs.declared.codings.Codings.{Codings}
use Rattle.lin_values.specs.declared.decimals.Decimal.{Decimal}
use Rattle.lin_values.specs.declared.codings.Item.{Item}
use Rattle.lin_values.specs.declared.codings.Item.TheVariants.{Logical, Physical, Bcd, Ascii}
use Rattle.lin_sections.specs.declared.diff.compared.ComparedLdf.{ComparedLdf}
use Rattle.lin_sections.specs.declared.diff.compared.LdfFacts.{LdfFacts}
use Rattle.lin_schedule.specs.declared.table_load.TableLoad.{TableLoad}
use Rattle.lin_sections.specs.declared.diff.fact.Bits.{Bits}
use Rattle.lin_sections.specs.declared.diff.fact.Class.{Class}
use Rattle.lin_sections.specs.declared.diff.fact.Class.TheVariants as classes
use Rattle.lin_sections.specs.declared.diff.fact.EntryFact.{EntryFact}
use Rattle.lin_sections.specs.declared.diff.fact.Fact.{Fact}
use Rattle.lin_sections.specs.declared.diff.fact.ThingKind.TheVariants as things
use Rattle.lin_sections.specs.declared.diff.table_facts.TableLines.{TableLines}
use Rattle.lin_sections.specs.declared.diff.fact.Thing.{Thing}

-- an LDF: the tokens of its text, its description, the cluster that it describes, its encodings, and the load of
-- each of its schedule tables
pub record ComparedData : Type 0 where
  pub tokens : List Symbol
  pub description : Description
  pub cluster : Parts
  pub codings : Codings
  pub loads : List TableLoad

abbrev pub number_fact : List ℕ → Number → Class → Fact
number_fact key n class = fact key (decimal n.value) (place_of_number n) class

-- ---- the header

-- a text in quotes, or a number as it is written
abbrev pub version_value : List Symbol → List ℕ
version_value ts =
    if is_next kinds.Text ts then shown_text (without_quotes (front ts).text) else (front ts).text

abbrev pub version_fact : List ℕ → List Symbol → List Fact
version_fact key ts =
    let value = without_equals (tail ts)
    in if has_front value then fact key (version_value value) (place_of (front value)) classes.Names ∷ [] else []

-- the first line with a word
abbrev pub version_facts : List ℕ → List ℕ → List (List Symbol) → List Fact
version_facts word key lines = option_map_or (version_fact key) (find (is_word_next word) lines) []

abbrev pub is_other_line : List Symbol → Bool
is_other_line ts =
    not (is_word_next (codes "LIN_description_file") ts || is_word_next (codes "LIN_protocol_version") ts
    || is_word_next (codes "LIN_language_version") ts || is_word_next (codes "LIN_speed") ts)

abbrev pub line_fact : List Symbol → Fact
line_fact ts =
    fact (with_spaces (codes "header" ∷ (front ts).text ∷ [])) (value_text as_they_are (tail ts))
    (place_of (front ts)) classes.Names

abbrev pub header_facts : ComparedData → List Fact
header_facts d =
    let lines = lines_of_header d.tokens
    in number_fact (codes "speed") d.description.speed classes.Bytes
    ∷ number_fact (codes "time_base") d.description.time_base classes.Timing
    ∷ number_fact (codes "jitter") d.description.jitter classes.Timing
    ∷ (version_facts (codes "LIN_protocol_version") (codes "protocol") lines
    ++ (version_facts (codes "LIN_language_version") (codes "language") lines
    ++ map line_fact (filter is_other_line lines)))

abbrev pub header_thing : ComparedData → Thing
header_thing d = thing things.Header [] [] (record { line = 1; column = 1 }) (numbered_facts (header_facts d))

-- ---- nodes

-- the fact of an attribute with a value
abbrev pub fact_of : List Symbol → List ℕ → Class → Fact
fact_of ts value class = fact (front ts).text value (place_of (front ts)) class

-- a response_error that isn't one word has its tokens as value, and so has a time that isn't one
abbrev pub attribute_fact : RenamesData → List Symbol → Fact
attribute_fact r ts =
    let word = (front ts).text
    in let place = place_of (front ts)
    in let value = tail ts
    in if is_word_next (codes "product_id") ts || is_word_next (codes "initial_NAD") ts
    then fact word (value_text with_decimals value) place classes.Bytes
    else if is_word_next (codes "configurable_frames") ts
    then fact word (value_text (with_frame_names_of r) value) place classes.Bytes
    else if is_word_next (codes "response_error") ts
    then fact word (value_text (if is_one_word value then with_signal_names_of r else as_they_are) value) place classes.Meaning
    else if is_timing ts
    then fact word (option_map_or decimal (milliseconds_in ts) (value_text as_they_are value)) place classes.Timing
    else fact word (value_text as_they_are value) place classes.Names

-- (these two are facts of the node)
abbrev pub is_other_attribute : List Symbol → Bool
is_other_attribute ts =
    not (is_word_next (codes "LIN_protocol") ts || is_word_next (codes "configured_NAD") ts)

-- a fact, unless it is one of the node
abbrev pub other_attribute : RenamesData → List Symbol → List Fact
other_attribute r ts = if is_other_attribute ts then attribute_fact r ts ∷ [] else []

abbrev pub attribute_facts : RenamesData → Option NodeAttributes → List Fact
attribute_facts r block =
    option_map_or (λ b. map (attribute_fact r) (filter is_other_attribute b.attributes)) block []

abbrev pub protocol_facts : Option Attributes → List Fact
protocol_facts block =
    option_map_or
    (λ b. option_map_or (λ p. fact (codes "protocol") (shown_text p) (place_of_name b.node) classes.Names ∷ [])
    b.protocol []) block []

abbrev pub nad_of : Option Attributes → Option Number
nad_of block = option_and_then (λ b. b.configured_nad) block

abbrev pub nad_facts : Option Attributes → List Fact
nad_facts block = option_map_or (λ n. number_fact (codes "nad") n classes.Bytes ∷ []) (nad_of block) []

abbrev pub role_fact : List ℕ → Name → Fact
role_fact role name = fact (codes "role") role (place_of_name name) classes.Bytes

abbrev pub node_facts : ComparedData → RenamesData → Name → List Fact
node_facts d r name =
    protocol_facts (block_named d.description name)
    ++ attribute_facts r (find (λ b. same_name b.node name) (node_attributes d.tokens))

abbrev pub node_thing : RenamesData → Name → List Fact → Thing
node_thing r name facts =
    thing things.Node name.text (name_in r.nodes name.text) (place_of_name name) (numbered_facts facts)

abbrev pub commander_thing : ComparedData → RenamesData → Thing
commander_thing d r =
    let name = d.description.master
    in node_thing r name (role_fact (codes "commander") name ∷ node_facts d r name)

abbrev pub responder_thing : ComparedData → RenamesData → Name → Thing
responder_thing d r name =
    node_thing r name
    (role_fact (codes "responder") name ∷ (nad_facts (block_named d.description name) ++ node_facts d r name))

abbrev pub node_things : ComparedData → RenamesData → List Thing
node_things d r = commander_thing d r ∷ map (responder_thing d r) d.description.slaves

-- ---- signals

-- bits, after `array` for an array
abbrev pub size_by : Init → List ℕ → List ℕ
size_by (Scalar n) bits = bits
size_by (Array place values) bits = codes "array " ++ bits

abbrev pub size_text : Signal → List ℕ
size_text s = size_by s.init (decimal s.size.value)

abbrev pub array_text : List Number → List ℕ
array_text values = codes "x" ++ flat_map (λ n. two_hex_digits (n.value % 256)) values

-- as in scripts
abbrev pub initial_fact : Init → Fact
initial_fact (Scalar n) = number_fact (codes "initial") n classes.Bytes
initial_fact (Array place values) = fact (codes "initial") (array_text values) place classes.Bytes

-- whether the fact is that a node subscribes the signal
abbrev pub is_subscriber : List ℕ → Fact → Bool
is_subscriber node f = is_compatible f.class && bytes_eq f.value node

-- a subscriber counts once
abbrev pub with_subscriber : RenamesData → List Fact → Name → List Fact
with_subscriber r facts subscriber =
    let name = name_in r.nodes subscriber.text
    in if list_any (is_subscriber name) facts then facts
    else facts ++ fact (with_spaces (codes "subscriber" ∷ name ∷ [])) name (place_of_name subscriber) classes.Compatible ∷ []

-- the first line of a signal, and the first type of a name
abbrev pub encoding_of : Codings → Signal → Option CodingType
encoding_of k s =
    option_and_then (λ p. find (λ t. same_name t.name p.1) k.types) (find (is_named s.name.text) (named_in k.lines))

abbrev pub encoding_facts : RenamesData → Signal → Option CodingType → List Fact
encoding_facts r s coding =
    option_map_or
    (λ t. fact (codes "encoding") (name_in r.encodings t.name.text) (place_of_name s.name) classes.Meaning ∷ [])
    coding []

abbrev pub value_facts : RenamesData → Signal → List Fact
value_facts r s =
    fact (codes "size") (size_text s) (place_of_number s.size) classes.Bytes
    ∷ initial_fact s.init
    ∷ fact (codes "publisher") (name_in r.nodes s.publisher.text) (place_of_name s.publisher) classes.Bytes
    ∷ []

abbrev pub facts_of_signal : ComparedData → RenamesData → Signal → List Fact
facts_of_signal d r s =
    fold (with_subscriber r) (value_facts r s) s.subscribers ++ encoding_facts r s (encoding_of d.codings s)

abbrev pub signal_thing : ComparedData → RenamesData → Signal → Thing
signal_thing d r s =
    thing things.Signal s.name.text (name_in r.signals s.name.text) (place_of_name s.name) (facts_of_signal d r s)

-- ---- unconditional frames

abbrev pub id_fact : Number → Fact
id_fact id = fact (codes "id") (codes "0x" ++ two_hex_digits (id.value % 256)) (place_of_number id) classes.Bytes

abbrev pub model_text : SumKind → List ℕ
model_text Classic = codes "classic"
model_text Enhanced = codes "enhanced"

-- the bits of a signal of this declaration
abbrev pub signal_bits : PlacedSignal → Option Signal → Bits
signal_bits p signal = record {
  from = p.offset.value;
  end = p.offset.value + option_map_or (λ s. s.size.value) signal 0;
}

abbrev pub bits_in : Description → PlacedSignal → Bits
bits_in d p = signal_bits p (signal_named d p.signal)

abbrev pub place_fact : List ℕ → PlacedSignal → Bits → Fact
place_fact name p bits =
    record (fact (with_spaces (codes "place" ∷ name ∷ [])) (decimal p.offset.value) (place_of_number p.offset)
    classes.Bytes) { bits = Some bits }

abbrev pub placed_fact : Description → RenamesData → PlacedSignal → Fact
placed_fact d r p = place_fact (name_in r.signals p.signal.text) p (bits_in d p)

abbrev pub placed_facts : Description → RenamesData → List PlacedSignal → List Fact
placed_facts d r ps = map (placed_fact d r) ps

abbrev pub own_facts : Frame → List ℕ → SumKind → List Fact
own_facts f publisher model =
    id_fact f.id
    ∷ fact (codes "publisher") publisher (place_of_name f.publisher) classes.Bytes
    ∷ number_fact (codes "size") f.size classes.Bytes
    ∷ fact (codes "model") (model_text model) (place_of_name f.name) classes.Bytes
    ∷ []

abbrev pub facts_of_frame : Description → RenamesData → Frame → SumKind → List Fact
facts_of_frame d r f model =
    own_facts f (name_in r.nodes f.publisher.text) model ++ placed_facts d r f.placed

-- whether an event-triggered frame lists the name of a frame: then the frame's first byte has an identifier
abbrev pub is_event_member : List EventFrame → List ℕ → Bool
is_event_member events name = list_any (λ e. is_among (map (λ m. m.text) e.members) name) events

abbrev pub is_in_an_event : Description → Frame → Bool
is_in_an_event d f = is_event_member d.events f.name.text

abbrev pub taken_bits : Description → Frame → List Bits
taken_bits d f =
    (if is_in_an_event d f then record { from = 0; end = 8 } ∷ [] else []) ++ map (bits_in d) f.placed

abbrev pub frame_thing : Description → RenamesData → Frame → SumKind → Thing
frame_thing d r f model =
    record (thing things.Frame f.name.text (name_in r.frames f.name.text) (place_of_name f.name)
    (facts_of_frame d r f model)) { taken = taken_bits d f }

abbrev pub frame_things : ComparedData → RenamesData → List Thing
frame_things d r =
    map (λ (f : Frame × SumKind). frame_thing d.description r f.0 f.1)
    (zip d.description.frames (map (λ f. f.model) d.cluster.frames))

-- ---- sporadic and event-triggered frames

abbrev pub member_names : RenamesData → List Name → List (List ℕ)
member_names r members = map (λ m. name_in r.frames m.text) members

abbrev pub place_of_first : List Name → Name → Location
place_of_first members name = place_of_name (option_map_or (λ m. m) (slice_get members 0) name)

abbrev pub sporadic_thing : RenamesData → Sporadic → Thing
sporadic_thing r s =
    thing things.Sporadic s.name.text (name_in r.frames s.name.text) (place_of_name s.name)
    (fact (codes "members") (with_spaces (member_names r s.members)) (place_of_first s.members s.name) classes.Timing ∷ [])

-- a table that `--field` adds isn't one of the LDF
abbrev pub table_facts : RenamesData → Name → List Fact
table_facts r table =
    if has_dot table.text then []
    else fact (codes "table") (name_in r.tables table.text) (place_of_name table) classes.Timing ∷ []

abbrev pub event_thing : RenamesData → EventFrame → Thing
event_thing r e =
    thing things.Event e.name.text (name_in r.frames e.name.text) (place_of_name e.name)
    (id_fact e.id
    ∷ (table_facts r e.table
    ++ fact (codes "members") (with_spaces (sorted_texts (member_names r e.members))) (place_of_first e.members e.name)
    classes.Bytes ∷ []))

-- ---- schedule tables

-- a table, and the lines of its group
abbrev pub named_lines : List Symbol → List TableLines
named_lines ts = if is_group ts then record { name = name_of (front ts); inside = inside ts } ∷ [] else []

abbrev pub section_tables : List Symbol → List TableLines
section_tables ts =
    if is_group ts && is_word_next (codes "Schedule_tables") ts
    then flat_map named_lines (statements (inside ts)) else []

abbrev pub has_command : Table → Bool
has_command t = list_any (λ e. e.has_group) t.entries

-- the tables of the text; without a configuration entry, they aren't looked at
abbrev pub text_tables : List Symbol → List Table → List TableLines
text_tables ts tables =
    if list_any has_command tables then flat_map section_tables (statements ts) else []

abbrev pub lines_of_table : List TableLines → Name → List Symbol
lines_of_table lines name = option_map_or (λ l. l.inside) (find (λ l. same_name l.name name) lines) []

-- a frame, or a configuration command with its group, which is the next line
abbrev pub entry_word : RenamesData → TableEntry → List Symbol → List ℕ
entry_word r e line =
    if e.has_group && has_line line then command_text r line else name_in r.frames e.name.text

abbrev pub entry_fact : List ℕ → ℕ → TableEntry → EntryFact
entry_fact word position e = record {
  word = word;
  again = None;
  position = decimal position;
  place = place_of_name e.name;
  delay = decimal e.delay.value;
  delay_place = place_of_number e.delay;
}

-- entries, each in a line
abbrev pub entry_facts : RenamesData → ℕ → List Symbol → List TableEntry → List EntryFact
entry_facts r position lines [] = []
entry_facts r position lines (e ∷ es) =
    entry_fact (entry_word r e lines) position e ∷ entry_facts r (position + 1) (behind_line 0 lines) es

-- the entries of a table, by the tables of the text
abbrev pub entries_in : List TableLines → RenamesData → Table → List EntryFact
entries_in lines r t = numbered_entries (entry_facts r 0 (lines_of_table lines t.name) t.entries)

abbrev pub lines_in : ComparedData → List TableLines
lines_in d = text_tables d.tokens d.description.tables

abbrev pub table_entries : ComparedData → RenamesData → Table → List EntryFact
table_entries d r t = entries_in (lines_in d) r t

-- what a slot leaves of its delay, or what is missing after `-`
abbrev pub slack_text : TableLoad → List ℕ
slack_text load =
    if nat_le load.needed_us load.delay_us then decimal (load.delay_us - load.needed_us)
    else 45 ∷ decimal (load.needed_us - load.delay_us)

abbrev pub load_facts : TableLoad → Location → List Fact
load_facts load place =
    fact (codes "cycle") (decimal load.cycle_us) place classes.Timing
    ∷ fact (codes "load") (decimal load.load) place classes.Timing
    ∷ fact (codes "slack") (slack_text load) place classes.Timing
    ∷ []

abbrev pub table_thing : List ℕ → Table → TableLoad → List EntryFact → Thing
table_thing new_name t load entries =
    record (thing things.Table t.name.text new_name (place_of_name t.name)
    (load_facts load (place_of_name t.name))) { entries = entries }

-- a table that `--field` adds is none
abbrev pub table_thing_of : List TableLines → RenamesData → Table → TableLoad → List Thing
table_thing_of lines r t load =
    if has_dot t.name.text then []
    else table_thing (name_in r.tables t.name.text) t load (entries_in lines r t) ∷ []

abbrev pub table_things : ComparedData → RenamesData → List Thing
table_things d r =
    flat_map (λ (t : Table × TableLoad). table_thing_of (lines_in d) r t.0 t.1) (zip d.description.tables d.loads)

-- ---- encodings

abbrev pub item_key : Item → List ℕ
item_key (Logical value text) = codes "logical " ++ decimal value
item_key (Physical min max scale offset unit) = codes "physical " ++ decimal min ++ codes ".." ++ decimal max
item_key Bcd = codes "bcd"
item_key Ascii = codes "ascii"

-- a text in quotes, if there is one
abbrev pub quoted_words : List ℕ → List (List ℕ)
quoted_words [] = []
quoted_words (b ∷ bs) = in_quotes (b ∷ bs) ∷ []

abbrev pub logical_value : List ℕ → List ℕ
logical_value [] = codes "-"
logical_value (b ∷ bs) = in_quotes (b ∷ bs)

abbrev pub physical_value : Decimal → Decimal → List ℕ → List ℕ
physical_value scale offset unit = with_spaces (decimal_shown scale ∷ decimal_shown offset ∷ quoted_words unit)

abbrev pub item_value : Item → List ℕ
item_value (Logical value text) = logical_value text
item_value (Physical min max scale offset unit) = physical_value scale offset unit
item_value Bcd = codes "yes"
item_value Ascii = codes "yes"

abbrev pub item_fact : Location → Item → Fact
item_fact place item = fact (item_key item) (item_value item) place classes.Meaning

abbrev pub encoding_items : CodingType → List Fact
encoding_items t = numbered_facts (map (λ p. item_fact (place_of_name t.name) p.item) t.items)

abbrev pub encoding_thing : RenamesData → CodingType → Thing
encoding_thing r t =
    thing things.Encoding t.name.text (name_in r.encodings t.name.text) (place_of_name t.name) (encoding_items t)

-- a type, if no earlier one has its name
abbrev pub first_type : List CodingType → CodingType → List CodingType
first_type before t = if list_any (λ u. same_name u.name t.name) before then [] else t ∷ []

-- the first type of each name, behind others
abbrev pub first_types : List CodingType → List CodingType → List CodingType
first_types before [] = []
first_types before (t ∷ ts) = first_type before t ++ first_types (before ++ t ∷ []) ts

-- ---- all things, of each kind in its order

abbrev pub all_things : ComparedData → RenamesData → List (List Thing)
all_things d r =
    (header_thing d ∷ [])
    ∷ node_things d r
    ∷ map (signal_thing d r) d.description.signals
    ∷ frame_things d r
    ∷ map (sporadic_thing r) d.description.sporadic
    ∷ map (event_thing r) d.description.events
    ∷ table_things d r
    ∷ map (encoding_thing r) (first_types [] d.codings.types)
    ∷ []

-- ---- what contracts see of the code's types

abbrev pub compared_data : ComparedLdf → ComparedData
compared_data ldf = record {
  tokens = symbols_in ldf.source.now (start_of ldf.source.now).tokens;
  description = ldf.description.now;
  cluster = ldf.cluster.now;
  codings = ldf.codings.now;
  loads = ldf.loads.now;
}

-- what the text of an LDF says besides the description
pub record IsReadOf (f : LdfFacts) : Type 0 where
  pub lines : f.lines.items ≡ lines_of_header (compared_data f.ldf).tokens
  pub blocks : f.blocks ≡ node_attributes (compared_data f.ldf).tokens
  pub types : map (λ t. t.now) f.types.items ≡ first_types [] f.ldf.codings.now.types
  pub codings : AreNamed f.ldf.codings.now.types (named_in f.ldf.codings.now.lines) f.codings.map
