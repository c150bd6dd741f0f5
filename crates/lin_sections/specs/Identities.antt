-- The identities of responders, and the frames that they list as configurable (LIN 2.2A, section 9.2.2.2;
-- message identifiers: LIN 2.0); and 78 BadIdentity.
use Rattle.std.specs.Prelude.{ℕ, ◌==◌, List, [], ◌∷◌, ◌++◌, Bool, Option, Some, None, Ok, Err, codes}
use Rattle.std.specs.Prelude.{find, flat_map, map, if◌then◌else◌, option_and_then}
use Rattle.std.specs.Option.{option_map, option_map_or, unwrap_or}
use Rattle.std.specs.Str.{bytes_eq}
use Rattle.lin_cluster.specs.declared.finding.Finding.{Finding}
use Rattle.lin_cluster.specs.declared.finding.FindingKind.TheVariants.{BadIdentity}
use Rattle.lin_ldf.specs.Forms.{front, tail}
use Rattle.lin_ldf.specs.Loops.{is_next}
use Rattle.lin_ldf.specs.Symbols.{Symbol}
use Rattle.lin_ldf.specs.Words.{is_word_next}
use Rattle.lin_ldf.specs.declared.token.TokenKind.TheVariants as kinds
use Rattle.lin_parts.specs.declared.parts.Product.{Product}
use Rattle.lin_sections.specs.AttributeValues.{product_id}
use Rattle.lin_sections.specs.Lines.{token_lines}
use Rattle.lin_sections.specs.Stops.{◌>>=◌, mark_next, number_next, findings_at_stop, stopped_at, value_read}
use Rattle.lin_sections.specs.Stops.{Reading}
use Rattle.lin_sections.specs.declared.attribute_blocks.NodeAttributes.{NodeAttributes}
use Rattle.lin_sections.specs.declared.identities.ConfigurableFrame.{ConfigurableFrame}
use Rattle.lin_sections.specs.declared.identities.NodeIdentity.{NodeIdentity}

-- ---- product_id = supplier , function [ , variant ] ;
-- the first attribute of this word, as it is read
abbrev pub product_read : List (List Symbol) → Option (Reading Product)
product_read attributes =
    option_map (λ ts. product_id (tail ts)) (find (is_word_next (codes "product_id")) attributes)

abbrev pub product_in : List (List Symbol) → Option Product
product_in attributes = option_and_then value_read (product_read attributes)

-- a warning at the token at which reading stopped
abbrev pub product_warnings : List (List Symbol) → List Finding
product_warnings attributes = option_map_or (findings_at_stop BadIdentity) (product_read attributes) []

-- ---- initial_NAD = NAD ;
-- 1 to 127, but for the functional address 126, at which reading stops
abbrev pub nad_next : List Symbol → Reading ℕ
nad_next ts = do
  n ← number_next 1 127 ts
  if n.0.value == 126 then Err ts else Ok (n.0.value, n.1)

abbrev pub initial_nad : List Symbol → Reading ℕ
initial_nad ts = do
  u ← mark_next kinds.Equals ts
  n ← nad_next u.1
  e ← mark_next kinds.Semicolon n.1
  Ok (n.0, e.1)

abbrev pub initial_read : List (List Symbol) → Option (Reading ℕ)
initial_read attributes =
    option_map (λ ts. initial_nad (tail ts)) (find (is_word_next (codes "initial_NAD")) attributes)

abbrev pub initial_in : List (List Symbol) → Option ℕ
initial_in attributes = option_and_then value_read (initial_read attributes)

abbrev pub initial_warnings : List (List Symbol) → List Finding
initial_warnings attributes = option_map_or (findings_at_stop BadIdentity) (initial_read attributes) []

-- ---- configurable_frames { { WORD ; | WORD = message ; }* }
-- after the name of a frame
abbrev pub message_behind : List Symbol → Reading (Option ℕ)
message_behind ts = do
  n ← number_next 0 0xFFFF ts
  e ← mark_next kinds.Semicolon n.1
  Ok (Some n.0.value, e.1)

abbrev pub no_message : List Symbol → Reading (Option ℕ)
no_message ts = do
  e ← mark_next kinds.Semicolon ts
  Ok (None, e.1)

abbrev pub line_message : List Symbol → Reading (Option ℕ)
line_message ts = if is_next kinds.Equals ts then message_behind (tail ts) else no_message ts

-- a line that doesn't begin with a name stops there
abbrev pub line_read : List Symbol → Reading (Option ℕ)
line_read ts = if is_next kinds.Word ts then line_message (tail ts) else Err ts

abbrev pub line_name : List Symbol → List ℕ
line_name ts = if is_next kinds.Word ts then (front ts).text else []

-- a line in another form keeps its place in the list
abbrev pub configurable_frame : List Symbol → ConfigurableFrame
configurable_frame ts = record {
  name = line_name ts;
  message = unwrap_or (value_read (line_read ts)) None;
}

abbrev pub frame_line_warnings : List Symbol → List Finding
frame_line_warnings ts = findings_at_stop BadIdentity (line_read ts)

abbrev pub is_list : List Symbol → Bool
is_list ts = is_word_next (codes "configurable_frames") ts

-- the frames of an attribute
abbrev pub attribute_frames : List Symbol → List ConfigurableFrame
attribute_frames ts =
    if is_list ts
    then (if is_next kinds.OpenBrace (tail ts) then map configurable_frame (token_lines (tail (tail ts)))
    else [])
    else []

abbrev pub frame_list_warnings : List Symbol → List Finding
frame_list_warnings ts =
    if is_list ts
    then (if is_next kinds.OpenBrace (tail ts) then flat_map frame_line_warnings (token_lines (tail (tail ts)))
    else stopped_at BadIdentity (tail ts))
    else []

-- ---- blocks; that of the commander isn't read
abbrev pub identity_of : NodeAttributes → NodeIdentity
identity_of b = record {
  node = b.node.text;
  product = product_in b.attributes;
  initial = initial_in b.attributes;
  frames = flat_map attribute_frames b.attributes;
}

abbrev pub identity_warnings : NodeAttributes → List Finding
identity_warnings b =
    product_warnings b.attributes
    ++ (initial_warnings b.attributes ++ flat_map frame_list_warnings b.attributes)

abbrev pub identity_unless : List ℕ → NodeAttributes → List NodeIdentity
identity_unless commander b = if bytes_eq b.node.text commander then [] else identity_of b ∷ []

abbrev pub warnings_unless : List ℕ → NodeAttributes → List Finding
warnings_unless commander b = if bytes_eq b.node.text commander then [] else identity_warnings b

abbrev pub identities_of : List ℕ → List NodeAttributes → List NodeIdentity
identities_of commander blocks = flat_map (identity_unless commander) blocks
