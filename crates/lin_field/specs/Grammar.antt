-- The grammar of LDF texts of the field: that of LIN 2.2A, section 9, with the productions of LIN
-- 1.3 (a frame without a size, Diagnostic_addresses), of LIN 2.0 (an event-triggered frame without
-- a table), of J2602 (a list after the jitter), of ISO 17987 (the order of bytes), and of tools that
-- write an initial value of up to 64 bits as a number.
use Rattle.std.specs.Prelude.{◌≡◌, ℕ, List, [], ◌∷◌, ◌++◌, ◌+◌, ◌^◌, Bool, true, false, not, ◌&&◌}
use Rattle.std.specs.Prelude.{Option, Some, None, is_some, if◌then◌else◌, codes, fold, nat_le}
use Rattle.std.specs.Prelude.{nat_lt}
use Rattle.std.specs.Str.{bytes_eq}
use Rattle.lin_ldf.specs.Symbols.{Symbol, is_kind}
use Rattle.lin_ldf.specs.Forms.{Form, ◌>>=◌, end, token, mark, keyword, as_value, either, choice}
use Rattle.lin_ldf.specs.Forms.{front, is_front, is_keyword, nothing, ◌&◌, ◌&>◌, ◌<&◌, ◌&=◌}
use Rattle.lin_ldf.specs.Loops.{gathering, is_next}
use Rattle.lin_ldf.specs.Numbers.{thousandths, fraction_part, fraction_digit, has_zero_tail}
use Rattle.lin_ldf.specs.Numbers.{is_hexadecimal, is_in_limit, is_whole, int_value}
use Rattle.lin_ldf.specs.Words.{open_brace, close_brace, colon, semicolon, comma, equals, word}
use Rattle.lin_ldf.specs.Words.{is_word_but, name_of, place_of, new_word, placed_number, int, ints, opening}
use Rattle.lin_ldf.specs.Words.{is_word_next, words, other_words, same_state, with_name, block}
use Rattle.lin_ldf.specs.Words.{no_word, list, once}
use Rattle.lin_ldf.specs.Grammar.{slaves, placed_signals, frame_before, event_rest}
use Rattle.lin_ldf.specs.Grammar.{protocol_text, nad_attribute, attr, no_settings, with_node, entry_before}
use Rattle.lin_ldf.specs.Grammar.{section, no_sections, or_empty}
use Rattle.lin_ldf.specs.declared.token.TokenKind.{TokenKind}
use Rattle.lin_ldf.specs.declared.token.TokenKind.TheVariants as kinds
use Rattle.lin_ldf.specs.declared.node_attributes.AttributeSettings.{AttributeSettings}
use Rattle.lin_ldf.specs.declared.node_attributes.NodeBlocks.{NodeBlocks}
use Rattle.lin_ldf.specs.declared.section.Sections.{Sections}
use Rattle.lin_parts.specs.declared.description.Name.{Name}
use Rattle.lin_parts.specs.declared.description.Number.{Number}
use Rattle.lin_parts.specs.declared.description.PlacedSignal.{PlacedSignal}
use Rattle.lin_parts.specs.declared.place.Location.{Location}
use Rattle.lin_field.specs.declared.loose.RoundedDecimal.{RoundedDecimal}
use Rattle.lin_field.specs.declared.loose.Header.{Header}
use Rattle.lin_field.specs.declared.loose.LooseNodes.{LooseNodes}
use Rattle.lin_field.specs.declared.loose.WideNumber.{WideNumber}
use Rattle.lin_field.specs.declared.loose.LooseInit.{LooseInit}
use Rattle.lin_field.specs.declared.loose.LooseInit.TheVariants.{Scalar, Array}
use Rattle.lin_field.specs.declared.loose.LooseSignal.{LooseSignal}
use Rattle.lin_field.specs.declared.loose.LooseFrame.{LooseFrame}
use Rattle.lin_field.specs.declared.loose.LooseEvent.{LooseEvent}
use Rattle.lin_field.specs.declared.loose.LooseAttributes.{LooseAttributes}
use Rattle.lin_field.specs.declared.loose.NodeAddress.{NodeAddress}
use Rattle.lin_field.specs.declared.loose.LooseEntry.{LooseEntry}
use Rattle.lin_field.specs.declared.loose.LooseTable.{LooseTable}
use Rattle.lin_field.specs.declared.loose.Loose.{Loose}
use Rattle.lin_field.specs.declared.header.Lines.{Lines}
use Rattle.lin_field.specs.declared.header.LineWord.{LineWord}
use Rattle.lin_field.specs.declared.header.LineWord.TheVariants as line_words
use Rattle.lin_field.specs.declared.items.LooseSettings.{LooseSettings}
use Rattle.lin_field.specs.declared.file.FieldWord.{FieldWord}
use Rattle.lin_field.specs.declared.file.FieldWord.TheVariants as field_words
use Rattle.lin_field.specs.declared.file.LooseSections.{LooseSections}

-- ---- forms

-- This form where the next token is a WORD that is none of these.
abbrev pub unless : {A : Type 0} → List (List ℕ) → Form A → Form A
unless words f = record {
  spells = λ ts a rest. (is_front (is_word_but words) ts ≡ true) × f.spells ts a rest;
  read = λ ts. if is_front (is_word_but words) ts then f.read ts else None;
}

-- The same, with what is made of the value, where something is.
abbrev pub made_of : {A B : Type 0} → (A → Option B) → Form A → Form B
made_of make f = record {
  spells = λ ts b rest. (a : _) × f.spells ts a rest × (make a ≡ Some b);
  read = λ ts. f.read ts >>= λ a. make a.0 >>= λ b. Some (b, a.1);
}

abbrev pub some_of : {A : Type 0} → A → Option A
some_of x = Some x

-- This form, or nothing, as the next token tells.
abbrev pub optional : {A : Type 0} → (List Symbol → Bool) → Form A → Form (Option A)
optional test f = either test (as_value some_of f) (nothing None)

-- ---- numbers

-- the value of a NUM in decimal form, in thousandths, rounded half up
abbrev pub rounded_thousandths : List ℕ → ℕ
rounded_thousandths w = thousandths w + (if nat_le 5 (fraction_digit (fraction_part w) 3) then 1 else 0)

abbrev pub is_decimal : List ℕ → Bool
is_decimal w = not (is_hexadecimal w) && is_in_limit (rounded_thousandths w)

abbrev pub rounded_decimal : Symbol → RoundedDecimal
rounded_decimal t = record {
  number = placed_number rounded_thousandths t;
  is_rounded = not (has_zero_tail (fraction_part t.text));
}

-- DECR: a NUM in decimal form, in thousandths within the limit
abbrev pub decimal : Form RoundedDecimal
decimal = token (λ t. is_kind kinds.Number t.kind && is_decimal t.text) rounded_decimal

-- DECR, unit, mark
abbrev pub decimal_in : List ℕ → TokenKind → Form RoundedDecimal
decimal_in unit end = decimal <& (keyword unit <& mark end)

-- at most 18,446,744,073,709,551,615
abbrev pub is_in_wide_limit : ℕ → Bool
is_in_wide_limit n = nat_lt n (2 ^ 64)

abbrev pub number_in_wide_limit : ℕ → Option ℕ
number_in_wide_limit n = if is_in_wide_limit n then Some n else None

abbrev pub wide_number_of : Symbol → WideNumber
wide_number_of t = record { value = int_value t.text; place = place_of t }

-- WIDE: a NUM without fraction, of up to 64 bits
abbrev pub wide_int : Form WideNumber
wide_int =
    token
    (λ t. is_kind kinds.Number t.kind && (is_whole t.text && is_in_wide_limit (int_value t.text)))
    wide_number_of

-- ---- the header

-- WORD '=' ( TEXT | NUM ) ';'
abbrev pub loose_version : List ℕ → Form (List ℕ)
loose_version w = keyword w <& equals &> protocol_text <& semicolon

-- 'LIN_speed' '=' DECR 'kbps' ';'
abbrev pub loose_speed : Form RoundedDecimal
loose_speed =
    keyword (codes "LIN_speed") <& equals &> decimal_in (codes "kbps") kinds.Semicolon

-- the words of the lines that stand once at most
abbrev pub line_words_known : List (List ℕ)
line_words_known =
    codes "LIN_protocol_version" ∷ codes "LIN_language_version" ∷ codes "LIN_speed"
    ∷ codes "LIN_sig_byte_order_little_endian" ∷ codes "LIN_sig_byte_order_big_endian" ∷ []

-- the words that begin no line
abbrev pub line_ends : List (List ℕ)
line_ends = codes "LIN_description_file" ∷ codes "Nodes" ∷ []

abbrev pub other_of : Name × Bool → Option Name
other_of p = if p.1 then None else Some p.0

-- WORD '=' list ';' | WORD ';', the WORD being none of these: of the second it is kept
abbrev pub other_line : Form (Option Name)
other_line =
    as_value other_of
    (word
    & either (is_next kinds.Equals) (as_value (λ u. true) (equals &> list))
    (as_value (λ u. false) semicolon))

abbrev pub line_word : List ℕ → LineWord
line_word w =
    if bytes_eq w (codes "LIN_protocol_version") then line_words.Version
    else (if bytes_eq w (codes "LIN_language_version") then line_words.Language
    else (if bytes_eq w (codes "LIN_speed") then line_words.Speed
    else (if bytes_eq w (codes "LIN_sig_byte_order_little_endian") then line_words.LittleEndian
    else (if bytes_eq w (codes "LIN_sig_byte_order_big_endian") then line_words.BigEndian
    else line_words.Other))))

abbrev pub front_line : List Symbol → LineWord
front_line ts = line_word (front ts).text

-- word ';', whose place counts
abbrev pub order_line : List ℕ → Form Name
order_line w = token (is_keyword w) name_of <& semicolon

abbrev pub with_version : Lines → List ℕ → Lines
with_version s x = record s { version = Some x }

abbrev pub with_language : Lines → List ℕ → Lines
with_language s x = record s { language = Some x }

abbrev pub with_speed : Lines → RoundedDecimal → Lines
with_speed s x = record s { speed = Some x }

abbrev pub with_little : Lines → Name → Lines
with_little s x = record s { little_endian = Some x }

abbrev pub with_big : Lines → Name → Lines
with_big s x = record s { big_endian = Some x }

abbrev pub with_other : Lines → Option Name → Lines
with_other s None = s
with_other s (Some name) = record s { unknown = s.unknown ++ name ∷ [] }

-- a line after others: the first five once at most
abbrev pub header_line_of : LineWord → Lines → Form Lines
header_line_of line_words.Version s =
    as_value (with_version s) (once s.version (loose_version (codes "LIN_protocol_version")))
header_line_of line_words.Language s =
    as_value (with_language s) (once s.language (loose_version (codes "LIN_language_version")))
header_line_of line_words.Speed s = as_value (with_speed s) (once s.speed loose_speed)
header_line_of line_words.LittleEndian s =
    as_value (with_little s)
    (once s.little_endian (order_line (codes "LIN_sig_byte_order_little_endian")))
header_line_of line_words.BigEndian s =
    as_value (with_big s)
    (once s.big_endian (order_line (codes "LIN_sig_byte_order_big_endian")))
header_line_of line_words.Other s = as_value (with_other s) (unless line_words_known other_line)

abbrev pub header_line : Lines → Form Lines
header_line s = choice front_line (λ w. header_line_of w s)

abbrev pub is_line_next : List Symbol → Bool
is_line_next ts = is_front (is_word_but line_ends) ts

abbrev pub no_line : List Symbol → Bool
no_line ts = not (is_line_next ts)

abbrev pub no_lines : Lines
no_lines = record {
  version = None;
  language = None;
  speed = None;
  little_endian = None;
  big_endian = None;
  unknown = [];
}

-- a line that begins with none of those words
abbrev pub one_line : Lines → Form Lines
one_line s = unless line_ends (header_line s)

-- { line }*
abbrev pub lines_behind : Lines → Form Lines
lines_behind s = gathering no_line one_line s

-- 'LIN_description_file' ';' { line }*
abbrev pub header_lines : Form Lines
header_lines = keyword (codes "LIN_description_file") <& semicolon &> lines_behind no_lines

-- the line of little endian, which a line of big endian leaves out
abbrev pub order_left_out : Option Name → Option Name → List Name
order_left_out None big = []
order_left_out (Some little) None = []
order_left_out (Some little) (Some big) = little ∷ []

abbrev pub header_by : Lines → List ℕ → RoundedDecimal → Header
header_by s version speed = record {
  version = version;
  language = s.language;
  speed = speed;
  is_big_endian = is_some s.big_endian;
  unknown = s.unknown ++ order_left_out s.little_endian s.big_endian;
}

abbrev pub complete_header : Lines → Option Header
complete_header s = s.version >>= λ version. s.speed >>= λ speed. Some (header_by s version speed)

-- lines, among them a version and a speed
abbrev pub loose_header : Form Header
loose_header = made_of complete_header header_lines

-- ---- nodes

-- [ ',' list ] ';'
abbrev pub master_rest : Form (Unit {0})
master_rest = either (is_next kinds.Comma) (comma &> list) semicolon

-- 'Master' ':' WORD ',' DECR 'ms' ',' DECR 'ms' [ ',' list ] ';'
abbrev pub loose_master : List (List ℕ) → Form (Name × (RoundedDecimal × RoundedDecimal))
loose_master seen =
    keyword (codes "Master") <& colon &> new_word seen <& comma
    & decimal_in (codes "ms") kinds.Comma & decimal <& keyword (codes "ms") <& master_rest

abbrev pub as_loose_nodes : (Name × (RoundedDecimal × RoundedDecimal)) × List Name → LooseNodes
as_loose_nodes p = record { master = p.0.0; time_base = p.0.1.0; jitter = p.0.1.1; slaves = p.1 }

-- 'Nodes' '{' master slaves
abbrev pub loose_nodes : Form LooseNodes
loose_nodes =
    as_value as_loose_nodes
    (keyword (codes "Nodes") <& open_brace &> loose_master [] &= λ m. slaves (with_name [] m.0))

abbrev pub loose_node_names : LooseNodes → List (List ℕ)
loose_node_names n = fold with_name (n.master.text ∷ []) n.slaves

-- ---- signals

abbrev pub as_loose_array : Location × List Number → LooseInit
as_loose_array p = Array p.0 p.1

-- '{' ints '}'
abbrev pub loose_array : Form LooseInit
loose_array = as_value as_loose_array (opening & ints <& close_brace)

abbrev pub as_loose_scalar : WideNumber → LooseInit
as_loose_scalar n = Scalar n

-- WIDE | array
abbrev pub loose_init : Form LooseInit
loose_init = either (is_next kinds.OpenBrace) loose_array (as_value as_loose_scalar wide_int)

abbrev pub as_loose_signal : Name × (Number × (LooseInit × (Name × List Name))) → LooseSignal
as_loose_signal p = record {
  name = p.0;
  size = p.1.0;
  init = p.1.1.0;
  publisher = p.1.1.1.0;
  subscribers = p.1.1.1.1;
}

-- WORD ':' INT ',' init ',' WORD { ',' WORD }* ';'
abbrev pub loose_signal : List (List ℕ) → Form LooseSignal
loose_signal seen =
    as_value as_loose_signal
    (new_word seen <& colon & int <& comma & loose_init <& comma & word & other_words <& semicolon)

abbrev pub with_loose_signal : List (List ℕ) → LooseSignal → List (List ℕ)
with_loose_signal seen s = seen ++ s.name.text ∷ []

-- ---- frames

-- [ ',' INT ]
abbrev pub optional_size : Form (Option Number)
optional_size = optional (is_next kinds.Comma) (comma &> int)

abbrev pub as_loose_frame : Name × (Number × (Name × (Option Number × List PlacedSignal))) → LooseFrame
as_loose_frame p = record {
  name = p.0;
  id = p.1.0;
  publisher = p.1.1.0;
  size = p.1.1.1.0;
  placed = p.1.1.1.1;
}

-- WORD ':' INT ',' WORD [ ',' INT ] placed_signals
abbrev pub loose_frame : List (List ℕ) → Form LooseFrame
loose_frame seen = as_value as_loose_frame (frame_before (word & optional_size & placed_signals) seen)

abbrev pub with_loose_frame : List (List ℕ) → LooseFrame → List (List ℕ)
with_loose_frame seen f = seen ++ f.name.text ∷ []

-- [ WORD ',' ]
abbrev pub event_table : Form (Option Name)
event_table = optional (is_next kinds.Word) (word <& comma)

abbrev pub as_loose_event : Name × (Option Name × (Number × List Name)) → LooseEvent
as_loose_event p = record { name = p.0; table = p.1.0; id = p.1.1.0; members = p.1.1.1 }

-- WORD ':' [ WORD ',' ] INT ',' words ';'
abbrev pub loose_event : List (List ℕ) → Form LooseEvent
loose_event seen = as_value as_loose_event (new_word seen <& colon & event_table & event_rest)

abbrev pub with_loose_event : List (List ℕ) → LooseEvent → List (List ℕ)
with_loose_event seen e = seen ++ e.name.text ∷ []

-- ---- node attributes

abbrev pub initial_word : List (List ℕ)
initial_word = codes "initial_NAD" ∷ []

abbrev pub with_initial : LooseSettings → Number → LooseSettings
with_initial s n = record s { initial_nad = Some n }

abbrev pub with_settings : LooseSettings → AttributeSettings → LooseSettings
with_settings s plain = record s { plain = plain }

-- attr = 'initial_NAD' '=' INT ';' | .., the first once at most
abbrev pub loose_attr : LooseSettings → Form LooseSettings
loose_attr s =
    either (is_word_next (codes "initial_NAD"))
    (as_value (with_initial s) (once s.initial_nad (nad_attribute (codes "initial_NAD"))))
    (as_value (with_settings s) (unless initial_word (attr s.plain)))

abbrev pub no_loose_settings : LooseSettings
no_loose_settings = record { plain = no_settings; initial_nad = None }

-- '{' { attr }* '}'
abbrev pub loose_settings : Form LooseSettings
loose_settings = open_brace &> gathering no_word loose_attr no_loose_settings <& close_brace

abbrev pub as_loose_attributes : Name × LooseSettings → LooseAttributes
as_loose_attributes p = record {
  block = record {
    node = p.0;
    protocol = p.1.plain.protocol;
    configured_nad = p.1.plain.configured_nad;
    response_error = p.1.plain.response_error;
  };
  initial_nad = p.1.initial_nad;
}

-- WORD settings, where the WORD isn't a node that has a block
abbrev pub loose_block : NodeBlocks → Form LooseAttributes
loose_block s = as_value as_loose_attributes (new_word s.seen & loose_settings)

abbrev pub with_loose_block : NodeBlocks → LooseAttributes → NodeBlocks
with_loose_block s a = with_node s a.block.node.text

abbrev pub as_node_address : Name × Number → NodeAddress
as_node_address p = record { node = p.0; nad = p.1 }

-- WORD ':' INT ';'
abbrev pub node_address : Form NodeAddress
node_address = as_value as_node_address (word <& colon & int <& semicolon)

-- ---- schedule tables

abbrev pub as_loose_entry : Name × (Bool × RoundedDecimal) → LooseEntry
as_loose_entry p = record { name = p.0; has_group = p.1.0; delay = p.1.1 }

-- WORD [ group ] 'delay' DECR 'ms' ';'
abbrev pub loose_entry : Form LooseEntry
loose_entry = as_value as_loose_entry (entry_before (decimal_in (codes "ms") kinds.Semicolon))

abbrev pub loose_entries : Form (List LooseEntry)
loose_entries = block same_state (λ (s : Unit {0}). loose_entry) tt

abbrev pub as_loose_table : Name × List LooseEntry → LooseTable
as_loose_table p = record { name = p.0; entries = p.1 }

-- WORD entries
abbrev pub loose_table : List (List ℕ) → Form LooseTable
loose_table seen = as_value as_loose_table (new_word seen & loose_entries)

abbrev pub with_loose_table : List (List ℕ) → LooseTable → List (List ℕ)
with_loose_table seen t = seen ++ t.name.text ∷ []

-- ---- sections

-- the sections that aren't spelled as in plain texts
abbrev pub field_section_words : List (List ℕ)
field_section_words =
    codes "Signals" ∷ codes "Frames" ∷ codes "Event_triggered_frames" ∷ codes "Node_attributes"
    ∷ codes "Diagnostic_addresses" ∷ codes "Schedule_tables" ∷ []

abbrev pub field_word : List ℕ → FieldWord
field_word w =
    if bytes_eq w (codes "Signals") then field_words.Signals
    else (if bytes_eq w (codes "Frames") then field_words.Frames
    else (if bytes_eq w (codes "Event_triggered_frames") then field_words.Event
    else (if bytes_eq w (codes "Node_attributes") then field_words.Attributes
    else (if bytes_eq w (codes "Diagnostic_addresses") then field_words.Addresses
    else (if bytes_eq w (codes "Schedule_tables") then field_words.Tables
    else field_words.Plain)))))

abbrev pub front_word : List Symbol → FieldWord
front_word ts = field_word (front ts).text

abbrev pub with_plain : LooseSections → Sections → LooseSections
with_plain s plain = record s { plain = plain }

abbrev pub with_loose_signals : LooseSections → List LooseSignal → LooseSections
with_loose_signals s x = record s { signals = Some x }

abbrev pub with_loose_frames : LooseSections → List LooseFrame → LooseSections
with_loose_frames s x = record s {
  frames = Some x;
  plain = record s.plain { frame_names = fold with_loose_frame s.plain.frame_names x };
}

abbrev pub with_loose_events : LooseSections → List LooseEvent → LooseSections
with_loose_events s x = record s {
  events = Some x;
  plain = record s.plain { frame_names = fold with_loose_event s.plain.frame_names x };
}

abbrev pub with_loose_attributes : LooseSections → List LooseAttributes → LooseSections
with_loose_attributes s x = record s {
  attributes = Some x;
  plain = record s.plain { blocks = fold with_loose_block s.plain.blocks x };
}

abbrev pub with_addresses : LooseSections → List NodeAddress → LooseSections
with_addresses s x = record s { addresses = Some x }

abbrev pub with_loose_tables : LooseSections → List LooseTable → LooseSections
with_loose_tables s x = record s { tables = Some x }

-- a section after others: each used one stands once at most, and the names of frames, sporadic
-- frames and event-triggered frames differ
abbrev pub loose_section_of : FieldWord → LooseSections → Form LooseSections
loose_section_of field_words.Signals s =
    as_value (with_loose_signals s)
    (once s.signals (keyword (codes "Signals") &> block with_loose_signal loose_signal []))
loose_section_of field_words.Frames s =
    as_value (with_loose_frames s)
    (once s.frames
    (keyword (codes "Frames") &> block with_loose_frame loose_frame s.plain.frame_names))
loose_section_of field_words.Event s =
    as_value (with_loose_events s)
    (once s.events
    (keyword (codes "Event_triggered_frames") &> block with_loose_event loose_event s.plain.frame_names))
loose_section_of field_words.Attributes s =
    as_value (with_loose_attributes s)
    (once s.attributes
    (keyword (codes "Node_attributes") &> block with_loose_block loose_block s.plain.blocks))
loose_section_of field_words.Addresses s =
    as_value (with_addresses s)
    (once s.addresses
    (keyword (codes "Diagnostic_addresses")
    &> block same_state (λ (s : Unit {0}). node_address) tt))
loose_section_of field_words.Tables s =
    as_value (with_loose_tables s)
    (once s.tables (keyword (codes "Schedule_tables") &> block with_loose_table loose_table []))
loose_section_of field_words.Plain s =
    as_value (with_plain s) (unless field_section_words (section s.plain))

abbrev pub loose_section : LooseSections → Form LooseSections
loose_section s = choice front_word (λ w. loose_section_of w s)

-- ---- the file

-- no section yet, in a cluster of these nodes
abbrev pub no_loose_sections : List (List ℕ) → LooseSections
no_loose_sections names = record {
  plain = no_sections names;
  signals = None;
  frames = None;
  events = None;
  attributes = None;
  addresses = None;
  tables = None;
}

abbrev pub loose_of : (Header × LooseNodes) × LooseSections → Loose
loose_of p = record {
  header = p.0.0;
  nodes = p.0.1;
  signals = or_empty p.1.signals;
  frames = or_empty p.1.frames;
  sporadic = or_empty p.1.plain.sporadic;
  events = or_empty p.1.events;
  attributes = or_empty p.1.attributes;
  addresses = or_empty p.1.addresses;
  tables = or_empty p.1.tables;
}

-- file = header nodes { section }*, and nothing after
abbrev pub field_file : Form Loose
field_file =
    as_value loose_of
    ((loose_header & loose_nodes)
    &= λ p. gathering no_word loose_section (no_loose_sections (loose_node_names p.1)) <& end)
