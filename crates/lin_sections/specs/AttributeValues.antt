-- What the attributes of nodes say (LIN 2.2A, section 9.2.2.2), each by the tokens from its word on; and the
-- version in the header (section 9.1).
use Rattle.std.specs.Prelude.{ℕ, List, ◌&&◌, ◌||◌, Bool, Option, Ok, codes, find}
use Rattle.std.specs.Prelude.{if◌then◌else◌, option_and_then}
use Rattle.std.specs.Option.{option_map}
use Rattle.lin_ldf.specs.Forms.{Form, ◌&>◌, ◌<&◌, keyword, tail}
use Rattle.lin_ldf.specs.Grammar.{protocol_text}
use Rattle.lin_ldf.specs.Loops.{is_next}
use Rattle.lin_ldf.specs.Symbols.{Symbol}
use Rattle.lin_ldf.specs.Words.{dec_in, equals, is_word_next, semicolon}
use Rattle.lin_ldf.specs.declared.token.TokenKind.TheVariants as kinds
use Rattle.lin_parts.specs.declared.description.Number.{Number}
use Rattle.lin_parts.specs.declared.parts.Product.{Product}
use Rattle.lin_sections.specs.Statements.{statements}
use Rattle.lin_sections.specs.Stops.{◌>>=◌, mark_next, next_to, number_next, value_read, Reading}

-- ---- times: '=' DEC 'ms' ';', in microseconds

abbrev pub milliseconds_form : Form Number
milliseconds_form = equals &> dec_in (codes "ms") kinds.Semicolon

abbrev pub milliseconds_in : List Symbol → Option ℕ
milliseconds_in ts = option_map (λ r. r.0.value) (milliseconds_form.read (tail ts))

-- whether the attribute is a time
abbrev pub is_timing : List Symbol → Bool
is_timing ts =
    is_word_next (codes "P2_min") ts || is_word_next (codes "ST_min") ts
    || is_word_next (codes "N_As_timeout") ts || is_word_next (codes "N_Cr_timeout") ts

-- ---- product identifications: '=' supplier ',' function [ ',' variant ] ';', of which the last is 0 if it
-- isn't there; 0x7FFF and 0xFFFF are wildcards of requests (section 4.2.1)

abbrev pub given_variant : List Symbol → Reading ℕ
given_variant ts = do
  v ← next_to 0xFF ts
  Ok (v.0.value, v.1)

abbrev pub variant : List Symbol → Reading ℕ
variant ts = if is_next kinds.Comma ts then given_variant ts else Ok (0, ts)

abbrev pub product_id : List Symbol → Reading Product
product_id ts = do
  u ← mark_next kinds.Equals ts
  s ← number_next 0 0x7FFE u.1
  f ← next_to 0xFFFE s.1
  v ← variant f.1
  e ← mark_next kinds.Semicolon v.1
  Ok (record { supplier = s.0.value; function = f.0.value; variant = v.0 }, e.1)

abbrev pub product_of : List Symbol → Option Product
product_of ts = value_read (product_id (tail ts))

-- ---- one word: '=' WORD ';'

abbrev pub is_one_word : List Symbol → Bool
is_one_word ts =
    is_next kinds.Equals ts && is_next kinds.Word (tail ts) && is_next kinds.Semicolon (tail (tail ts))

-- ---- the version: 'LIN_protocol_version' '=' ( TEXT | NUM ) ';', the text without its quotes

abbrev pub version_line : Form (List ℕ)
version_line =
    keyword (codes "LIN_protocol_version") <& equals &> protocol_text <& semicolon

abbrev pub header_version : List Symbol → Option (List ℕ)
header_version ts =
    option_and_then (λ us. option_map (λ r. r.0) (version_line.read us))
    (find (is_word_next (codes "LIN_protocol_version")) (statements ts))
