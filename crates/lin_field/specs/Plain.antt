-- The settled description as a plain LDF text (LIN 2.2A, section 9.2), with what the text has beside
-- it: a text of lines.
use Rattle.std.specs.Prelude.{ℕ, zero, suc, ◌+◌, ◌-◌, ◌/◌, ◌%◌, ◌==◌, ◌&&◌, ◌≡◌, ◌<◌, List, [], ◌∷◌, ◌++◌}
use Rattle.std.specs.Prelude.{Bool, false, not, map, filter, find, flat_map, length, Option}
use Rattle.std.specs.Prelude.{Some, None, codes, drop, zip, nat_lt, slice_index_or, slice_range}
use Rattle.std.specs.Prelude.{if◌then◌else◌, Result}
use Rattle.std.specs.List.{list_any}
use Rattle.std.specs.Borrow.{Bor}
use Rattle.std.specs.Fmt.{decimal}
use Rattle.std.specs.Option.{option_map_or}
use Rattle.std.specs.Str.{bytes_eq}
use Rattle.lin_ldf.specs.Names.{has_name}
use Rattle.lin_text.specs.Written.{WritesText}
use Rattle.lin_ldf.specs.Tokens.{AreTokens}
use Rattle.lin_ldf.specs.Symbols.{is_kind}
use Rattle.lin_ldf.specs.UpTo.{is_open_brace, is_close_brace}
use Rattle.lin_ldf.specs.declared.token.Token.{Token}
use Rattle.lin_ldf.specs.declared.token.TokenKind.{TokenKind}
use Rattle.lin_ldf.specs.declared.token.TokenKind.TheVariants as kinds
use Rattle.lin_parts.specs.declared.description.Attributes.{Attributes}
use Rattle.lin_parts.specs.declared.description.Description.{Description}
use Rattle.lin_parts.specs.declared.description.EventFrame.{EventFrame}
use Rattle.lin_parts.specs.declared.description.Frame.{Frame}
use Rattle.lin_parts.specs.declared.description.Init.{Init}
use Rattle.lin_parts.specs.declared.description.Init.TheVariants.{Scalar, Array}
use Rattle.lin_parts.specs.declared.description.Name.{Name}
use Rattle.lin_parts.specs.declared.description.Number.{Number}
use Rattle.lin_parts.specs.declared.description.PlacedSignal.{PlacedSignal}
use Rattle.lin_parts.specs.declared.description.Signal.{Signal}
use Rattle.lin_parts.specs.declared.description.Sporadic.{Sporadic}
use Rattle.lin_parts.specs.declared.description.Table.{Table}
use Rattle.lin_parts.specs.declared.description.TableEntry.{TableEntry}
use Rattle.lin_field.specs.Tables.{is_members_name}
use Rattle.lin_field.specs.declared.loose.Header.{Header}
use Rattle.lin_field.specs.declared.normalizing.Normalized.{Normalized}

-- ---- parts of a text: WORD '=' list ';', WORD ';' or WORD group

-- how many braces are open after a token
abbrev pub brace_depth : ℕ → TokenKind → ℕ
brace_depth depth kind =
    if is_open_brace kind then depth + 1 else (if is_close_brace kind then depth - 1 else depth)

-- the tokens up to the first one of a kind outside of braces, with it, and those after it
abbrev pub before_end : TokenKind → ℕ → List Token → List Token × List Token
before_end end depth [] = ([], [])
before_end end depth (t ∷ ts) =
    if brace_depth depth t.kind == 0 && is_kind end t.kind then (t ∷ [], ts)
    else (
      t ∷ (before_end end (brace_depth depth t.kind) ts).0,
      (before_end end (brace_depth depth t.kind) ts).1,
    )

abbrev pub is_token_next : TokenKind → List Token → Bool
is_token_next kind [] = false
is_token_next kind (t ∷ ts) = is_kind kind t.kind

abbrev pub part_end : List Token → TokenKind
part_end ts = if is_token_next kinds.OpenBrace ts then kinds.CloseBrace else kinds.Semicolon

-- the parts of so many tokens at most
abbrev pub parts_in : ℕ → List Token → List (List Token)
parts_in zero ts = []
parts_in (suc n) [] = []
parts_in (suc n) (t ∷ ts) =
    (t ∷ (before_end (part_end ts) 0 ts).0) ∷ parts_in n (before_end (part_end ts) 0 ts).1

abbrev pub parts : List Token → List (List Token)
parts ts = parts_in (length ts) ts

-- the first part, and the tokens after it
abbrev pub IsFirstPart : List Token → Option (Bor (List Token) × Bor (List Token)) → Type 0
IsFirstPart ts None = ts ≡ []
IsFirstPart ts (Some p) = (parts ts ≡ p.0.now ∷ parts p.1.now) × (length p.1.now < length ts)

abbrev pub first_token_text : List ℕ → List Token → List ℕ
first_token_text source [] = []
first_token_text source (t ∷ ts) = slice_range source t.start t.end

abbrev pub is_line : List Token → Bool
is_line [] = false
is_line (t ∷ ts) = is_token_next kinds.Equals ts

abbrev pub is_section : List Token → Bool
is_section [] = false
is_section (t ∷ ts) = is_token_next kinds.OpenBrace ts

abbrev pub end_of_tokens : ℕ → List Token → ℕ
end_of_tokens at [] = at
end_of_tokens at (t ∷ ts) = end_of_tokens t.end ts

-- the bytes of a part as they stand
abbrev pub source_bytes : List ℕ → List Token → List ℕ
source_bytes source [] = []
source_bytes source (t ∷ ts) = slice_range source t.start (end_of_tokens t.end ts)

-- ---- words and numbers

-- a text between two others
abbrev pub text_between : List ℕ → List ℕ → List ℕ → List ℕ
text_between before text after = before ++ (text ++ after)

abbrev pub digit_text : ℕ → ℕ → List ℕ
digit_text digit from = if not (from == 0) then decimal digit else []

-- thousandths after a point, with no more digits than they need
abbrev pub decimals_text : ℕ → List ℕ
decimals_text rest =
    if not (rest == 0)
    then codes "." ++ (decimal (rest / 100) ++ (digit_text (rest / 10 % 10) (rest % 100)
    ++ digit_text (rest % 10) (rest % 10)))
    else []

abbrev pub thousandths_text : ℕ → List ℕ
thousandths_text n = decimal (n / 1000) ++ decimals_text (n % 1000)

-- items, each after a comma
abbrev pub after_commas : {A : Type 0} → (A → List ℕ) → List A → List ℕ
after_commas text xs = flat_map (λ x. codes ", " ++ text x) xs

-- items with commas between them
abbrev pub comma_list : {A : Type 0} → (A → List ℕ) → List A → List ℕ
comma_list text [] = []
comma_list text (x ∷ xs) = text x ++ after_commas text xs

abbrev pub name_text : Name → List ℕ
name_text n = n.text

-- ---- declarations

abbrev pub number_text : Number → List ℕ
number_text n = decimal n.value

abbrev pub init_text : Init → List ℕ
init_text (Scalar n) = number_text n
init_text (Array place ns) = codes "{" ++ (comma_list number_text ns ++ codes "}")

abbrev pub signal_text : Signal → List ℕ
signal_text s =
    text_between (codes "  ") s.name.text (codes ": ") ++ ((number_text s.size ++ codes ", ")
    ++ (init_text s.init ++ (codes ", " ++ (s.publisher.text
    ++ (after_commas name_text s.subscribers ++ codes ";\n")))))

abbrev pub placed_text : PlacedSignal → List ℕ
placed_text p = p.signal.text ++ (codes ", " ++ (number_text p.offset ++ codes "; "))

abbrev pub frame_text : Frame → List ℕ
frame_text f =
    text_between (codes "  ") f.name.text (codes ": ") ++ ((number_text f.id ++ codes ", ")
    ++ (f.publisher.text ++ (codes ", " ++ ((number_text f.size ++ codes " { ")
    ++ (flat_map placed_text f.placed ++ codes "}\n")))))

abbrev pub sporadic_text : Sporadic → List ℕ
sporadic_text f =
    text_between (codes "  ") f.name.text (codes ": ")
    ++ (comma_list name_text f.members ++ codes ";\n")

-- a section of this word that says these, where there are some
abbrev pub braced_section : {A : Type 0} → List ℕ → List A → List ℕ → List ℕ
braced_section word xs text =
    if length xs == 0 then [] else (word ++ codes " {\n") ++ (text ++ codes "}\n")

abbrev pub section_text : {A : Type 0} → List ℕ → (A → List ℕ) → List A → List ℕ
section_text word text xs = braced_section word xs (flat_map text xs)

-- ---- names of tables

abbrev pub declared_names : Description → List (List ℕ)
declared_names d =
    d.master.text ∷ map name_text d.slaves ++ map (λ s. s.name.text) d.signals
    ++ map (λ f. f.name.text) d.frames ++ map (λ f. f.name.text) d.sporadic
    ++ map (λ e. e.name.text) d.events ++ map (λ t. t.name.text) d.tables

-- a text with so many `_` at most, until nothing has it
abbrev pub free_from : ℕ → List (List ℕ) → List ℕ → List ℕ
free_from zero taken text = text
free_from (suc n) taken text =
    if has_name taken text then free_from n taken (text ++ codes "_") else text

-- a point in a name as `_`
abbrev pub without_points : List ℕ → List ℕ
without_points text = map (λ c. if c == 46 then 95 else c) text

-- E_members for E.members, with `_` until nothing has it
abbrev pub plain_name : List (List ℕ) → Name → List ℕ
plain_name taken n =
    if is_members_name n then free_from (length taken) taken (without_points n.text) else n.text

-- ---- what isn't used, as it stands

abbrev pub without_last : List Token → List Token
without_last [] = []
without_last (t ∷ []) = []
without_last (t ∷ (u ∷ ts)) = t ∷ without_last (u ∷ ts)

-- what stands in the braces of WORD group
abbrev pub tokens_in_braces : List Token → List Token
tokens_in_braces ts = without_last (drop 2 ts)

-- a section of this word; a line of the header may begin with it, too
abbrev pub is_section_of : List ℕ → List ℕ → List Token → Bool
is_section_of source word p = is_section p && bytes_eq (first_token_text source p) word

-- what stands in the braces of the section of this word
abbrev pub inside_of : List ℕ → List (List Token) → List ℕ → List Token
inside_of source ps word =
    option_map_or tokens_in_braces (find (is_section_of source word) ps) []

abbrev pub kept_text : List ℕ → List ℕ → List Token → List ℕ
kept_text source before part = text_between before (source_bytes source part) (codes "\n")

abbrev pub header_words_read : List (List ℕ)
header_words_read =
    codes "LIN_protocol_version" ∷ codes "LIN_language_version" ∷ codes "LIN_speed" ∷ []

abbrev pub read_sections : List (List ℕ)
read_sections =
    codes "Nodes" ∷ codes "Signals" ∷ codes "Frames" ∷ codes "Sporadic_frames"
    ∷ codes "Event_triggered_frames" ∷ codes "Node_attributes" ∷ codes "Diagnostic_addresses"
    ∷ codes "Schedule_tables" ∷ []

abbrev pub sections_between : List (List ℕ)
sections_between =
    codes "composite" ∷ codes "Diagnostic_signals" ∷ codes "Diagnostic_frames" ∷ []

abbrev pub read_attributes : List (List ℕ)
read_attributes = codes "LIN_protocol" ∷ codes "configured_NAD" ∷ []

-- a line of the header, where it isn't used
abbrev pub kept_line : List ℕ → List Token → List ℕ
kept_line source p =
    if is_line p && not (has_name header_words_read (first_token_text source p)) then kept_text source [] p else []

abbrev pub kept_lines : List ℕ → List (List Token) → List ℕ
kept_lines source ps = flat_map (kept_line source) ps

-- a section, where it has this word
abbrev pub kept_section : List ℕ → List ℕ → List Token → List ℕ
kept_section source word p =
    if is_section_of source word p then kept_text source [] p else []

abbrev pub kept_sections : List ℕ → List (List Token) → List ℕ → List ℕ
kept_sections source ps word = flat_map (kept_section source word) ps

-- a section, where it has no place between those that are read
abbrev pub other_section : List ℕ → List Token → List ℕ
other_section source p =
    if is_section p && (not (has_name read_sections (first_token_text source p))
    && not (has_name sections_between (first_token_text source p)))
    then kept_text source [] p else []

abbrev pub other_sections : List ℕ → List (List Token) → List ℕ
other_sections source ps = flat_map (other_section source) ps

-- ---- attributes and tables

abbrev pub protocol_line : Option (List ℕ) → List ℕ
protocol_line None = []
protocol_line (Some p) = text_between (codes "    LIN_protocol = \"") p (codes "\";\n")

abbrev pub nad_text : Option Number → List ℕ
nad_text None = []
nad_text (Some n) = codes "    configured_NAD = " ++ (number_text n ++ codes ";\n")

-- an attribute, where it isn't used
abbrev pub attribute_text : List ℕ → List Token → List ℕ
attribute_text source p =
    if not (has_name read_attributes (first_token_text source p))
    then kept_text source (codes "    ") p else []

abbrev pub kept_attributes : List ℕ → List Token → List ℕ
kept_attributes source ts = flat_map (attribute_text source) (parts ts)

-- a block, of which these are the tokens in the text
abbrev pub block_text : List ℕ → Attributes → List Token → List ℕ
block_text source a ts =
    text_between (codes "  ") a.node.text (codes " {\n") ++ (protocol_line a.protocol
    ++ (nad_text a.configured_nad ++ (kept_attributes source ts ++ codes "  }\n")))

abbrev pub described_node_names : Description → List (List ℕ)
described_node_names d = d.master.text ∷ map name_text d.slaves

-- the text's blocks of these nodes
abbrev pub blocks_of_nodes : List ℕ → List (List Token) → List (List ℕ) → List (List Token)
blocks_of_nodes source ps nodes =
    filter (λ p. has_name nodes (first_token_text source p))
    (parts (inside_of source ps (codes "Node_attributes")))

-- the tokens in the braces of the n-th part, where there is one
abbrev pub inside_at : List (List Token) → ℕ → List Token
inside_at ps n = tokens_in_braces (slice_index_or ps n [])

-- an event-triggered frame, with the name of its table
abbrev pub event_text_by : EventFrame → List ℕ → List ℕ
event_text_by e table =
    text_between (codes "  ") e.name.text (codes ": ") ++ (table ++ (codes ", "
    ++ ((number_text e.id ++ codes ", ") ++ (comma_list name_text e.members ++ codes ";\n"))))

-- the group between an entry's name and its delay
abbrev pub group_text : List ℕ → TableEntry → List Token → List ℕ
group_text source e ts =
    if e.has_group then source_bytes source (before_end kinds.CloseBrace 0 (drop 1 ts)).0 ++ codes " "
    else []

abbrev pub entry_text : List ℕ → TableEntry → List Token → List ℕ
entry_text source e ts =
    text_between (codes "    ") e.name.text (codes " ") ++ (group_text source e ts
    ++ (codes "delay " ++ (thousandths_text e.delay.value ++ codes " ms;\n")))

-- entries, each with its tokens
abbrev pub table_entries_text : List ℕ → List TableEntry → List Token → List ℕ
table_entries_text source [] ts = []
table_entries_text source (e ∷ es) ts =
    entry_text source e ts ++ table_entries_text source es (before_end kinds.Semicolon 0 ts).1

-- the text's tables that aren't left out
abbrev pub is_filled_part : List Token → Bool
is_filled_part p = nat_lt 0 (length (tokens_in_braces p))

abbrev pub table_parts : List ℕ → List (List Token) → List (List Token)
table_parts source ps =
    let ts = parts (inside_of source ps (codes "Schedule_tables"))
    in if list_any is_filled_part ts then filter is_filled_part ts else ts

-- a table by its name, of which these are the tokens in the text
abbrev pub table_text_by : List ℕ → Table → List ℕ → List Token → List ℕ
table_text_by source t name ts =
    text_between (codes "  ") name (codes " {\n")
    ++ (table_entries_text source t.entries ts ++ codes "  }\n")

-- items one after the other, each with the part of its number
abbrev pub with_parts : {A : Type 0} → (A → List Token → List ℕ) → List (List Token) → ℕ → List A
    → List ℕ
with_parts text ps n [] = []
with_parts text ps n (x ∷ xs) = text x (inside_at ps n) ++ with_parts text ps (n + 1) xs

-- ---- the text

abbrev pub language : Header → List ℕ
language h = option_map_or (λ l. l) h.language h.version

abbrev pub header_text : Header → Number → List ℕ
header_text h speed =
    codes "LIN_description_file;\n"
    ++ (text_between (codes "LIN_protocol_version = \"") h.version (codes "\";\n")
    ++ (text_between (codes "LIN_language_version = \"") (language h) (codes "\";\n")
    ++ (codes "LIN_speed = " ++ (thousandths_text speed.value ++ codes " kbps;\n"))))

abbrev pub nodes_text : Description → List ℕ
nodes_text d =
    text_between (codes "Nodes {\n  Master: ") d.master.text (codes ", ")
    ++ ((thousandths_text d.time_base.value ++ codes " ms, ")
    ++ ((thousandths_text d.jitter.value ++ codes " ms;\n  Slaves: ")
    ++ (comma_list name_text d.slaves ++ codes ";\n}\n")))

-- a description, with the source that it was read in, and the source's tokens
pub record PlainData : Type 0 where
  pub header : Header
  pub description : Description
  pub source : List ℕ
  pub tokens : List Token

abbrev pub plain_data : Header → Description → List ℕ → List Token → PlainData
plain_data h d source ts = record { header = h; description = d; source = source; tokens = ts }

-- lines of the header, and sections: what stands after LIN_description_file ;
abbrev pub sections_of : PlainData → List (List Token)
sections_of d = parts (drop 2 d.tokens)

abbrev pub blocks_in : PlainData → List (List Token)
blocks_in d = blocks_of_nodes d.source (sections_of d) (described_node_names d.description)

abbrev pub tables_in : PlainData → List (List Token)
tables_in d = table_parts d.source (sections_of d)

abbrev pub names_of_tables : Description → List (List ℕ)
names_of_tables d = map (λ t. plain_name (declared_names d) t.name) d.tables

abbrev pub names_of_events : Description → List (List ℕ)
names_of_events d = map (λ e. plain_name (declared_names d) e.table) d.events

-- event-triggered frames, with the names of their tables
abbrev pub events_text : List EventFrame → List (List ℕ) → List ℕ
events_text events tables =
    braced_section (codes "Event_triggered_frames") events
    (flat_map (λ p. event_text_by p.0 p.1) (zip events tables))

abbrev pub blocks_text : List ℕ → List Attributes → List (List Token) → List ℕ
blocks_text source blocks ps =
    braced_section (codes "Node_attributes") blocks (with_parts (block_text source) ps 0 blocks)

abbrev pub table_texts : List ℕ → List Table → List (List ℕ) → List (List Token) → List ℕ
table_texts source tables names ps =
    with_parts (λ p. table_text_by source p.0 p.1) ps 0 (zip tables names)

abbrev pub tables_text : List ℕ → List Table → List (List ℕ) → List (List Token) → List ℕ
tables_text source tables names ps =
    braced_section (codes "Schedule_tables") tables (table_texts source tables names ps)

-- the header and the nodes
abbrev pub header_part : PlainData → List ℕ
header_part d =
    header_text d.header d.description.speed ++ (kept_lines d.source (sections_of d)
    ++ (nodes_text d.description ++ kept_sections d.source (sections_of d) (codes "composite")))

-- signals and frames
abbrev pub frames_part : PlainData → List ℕ
frames_part d =
    section_text (codes "Signals") signal_text d.description.signals
    ++ (kept_sections d.source (sections_of d) (codes "Diagnostic_signals")
    ++ (section_text (codes "Frames") frame_text d.description.frames
    ++ (section_text (codes "Sporadic_frames") sporadic_text d.description.sporadic
    ++ (events_text d.description.events (names_of_events d.description)
    ++ kept_sections d.source (sections_of d) (codes "Diagnostic_frames")))))

-- attributes, schedule tables, and what isn't used
abbrev pub tables_part : PlainData → List ℕ
tables_part d =
    blocks_text d.source d.description.attributes (blocks_in d)
    ++ (tables_text d.source d.description.tables (names_of_tables d.description) (tables_in d)
    ++ other_sections d.source (sections_of d))

abbrev pub plain_text : PlainData → List ℕ
plain_text d = header_part d ++ (frames_part d ++ tables_part d)

-- what a source was settled to
abbrev pub plain_of : Normalized → List ℕ → List Token → PlainData
plain_of s source ts = plain_data s.header s.description source ts

-- a beginning of the text of what a source was settled to was written, and after Ok all of it
abbrev pub WritesPlainText : {E : Type 0} → Normalized → List ℕ → Option (List ℕ) → Option (List ℕ)
    → Result Unit E → Type 0
WritesPlainText s source old new result =
    (ts : List Token) → AreTokens source ts
    → WritesText old new result (plain_text (plain_of s source ts))
