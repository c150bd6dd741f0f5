-- Values that are tokens of an LDF: those of attributes and of lines of the header, and the groups of
-- configuration entries (LIN 2.2A, sections 9.1, 9.2.2.2 and 9.2.5).
use Rattle.std.specs.Prelude.{ℕ, ◌==◌, ◌&&◌, ◌||◌, ◌++◌, Bool, true, false, List, [], ◌∷◌, codes, filter}
use Rattle.std.specs.Prelude.{if◌then◌else◌, map, not, take_while}
use Rattle.std.specs.Fmt.{decimal}
use Rattle.std.specs.Option.{option_map_or}
use Rattle.lin_ldf.specs.Forms.{front, tail}
use Rattle.lin_ldf.specs.Loops.{is_next}
use Rattle.lin_ldf.specs.Grammar.{without_quotes}
use Rattle.lin_ldf.specs.Symbols.{Symbol, is_kind}
use Rattle.lin_ldf.specs.Words.{int}
use Rattle.lin_ldf.specs.declared.token.TokenKind.TheVariants as kinds
use Rattle.lin_sections.specs.FactTexts.{with_spaces}
use Rattle.lin_sections.specs.NewNames.{any_name, name_in, renames_data, RenamesData}
use Rattle.lin_sections.specs.Passed.{brace_depth}
use Rattle.lin_values.specs.Spelled.{in_quotes}
use Rattle.lin_sections.specs.Statements.{is_group, statements}
use Rattle.lin_sections.specs.Texts.{shown_text}
use Rattle.lin_sections.specs.declared.diff.tokens.Spelling.{Spelling}
use Rattle.lin_sections.specs.declared.diff.tokens.Spelling.TheVariants as spellings

-- how words are written, and whether numbers are decimal and commas are ignored
pub record Spelled : Type 0 where
  pub word : List ℕ → List ℕ
  pub has_decimals : Bool

abbrev pub as_they_are : Spelled
as_they_are = record { word = λ w. w; has_decimals = false }

abbrev pub with_decimals : Spelled
with_decimals = record { word = λ w. w; has_decimals = true }

abbrev pub with_frame_names_of : RenamesData → Spelled
with_frame_names_of r = record { word = name_in r.frames; has_decimals = false }

abbrev pub with_signal_names_of : RenamesData → Spelled
with_signal_names_of r = record { word = name_in r.signals; has_decimals = false }

abbrev pub with_names_of : RenamesData → Spelled
with_names_of r = record { word = any_name r; has_decimals = false }

-- ---- a token: a text in its quotes as it is shown, a word as it is written

-- an integer of up to 32 bits is decimal
abbrev pub number_token : List Symbol → List ℕ
number_token ts = option_map_or (λ r. decimal r.0.value) (int.read ts) (front ts).text

abbrev pub token_text : Spelled → Symbol → List ℕ
token_text s t =
    if is_kind kinds.Text t.kind then in_quotes (shown_text (without_quotes t.text))
    else if is_kind kinds.Word t.kind then s.word t.text
    else if s.has_decimals && is_kind kinds.Number t.kind then number_token (t ∷ [])
    else t.text

-- (without commas where numbers are decimal)
abbrev pub tokens_words : Spelled → List Symbol → List (List ℕ)
tokens_words s ts =
    map (token_text s) (filter (λ t. not (s.has_decimals && is_kind kinds.Comma t.kind)) ts)

-- ---- values

-- up to the brace that closes the group, or up to a semicolon outside of braces if that ends the value; n braces
-- are open
abbrev pub tokens_until : Bool → ℕ → List Symbol → List Symbol
tokens_until at_semicolon n [] = []
tokens_until at_semicolon n (t ∷ ts) =
    if n == 0 && (is_kind kinds.CloseBrace t.kind || at_semicolon && is_kind kinds.Semicolon t.kind)
    then []
    else t ∷ tokens_until at_semicolon (brace_depth n t.kind) ts

abbrev pub words_until : Spelled → Bool → List Symbol → List (List ℕ)
words_until s at_semicolon ts = tokens_words s (tokens_until at_semicolon 0 ts)

-- a group, from its opening brace on
abbrev pub group_words : Spelled → List Symbol → List (List ℕ)
group_words s ts = codes "{" ∷ words_until s false (tail ts) ++ codes "}" ∷ []

abbrev pub without_equals : List Symbol → List Symbol
without_equals ts = if is_next kinds.Equals ts then tail ts else ts

abbrev pub or_yes : List ℕ → List ℕ
or_yes [] = codes "yes"
or_yes (b ∷ bs) = b ∷ bs

-- the value of an attribute or a line, from behind its word on
abbrev pub value_text : Spelled → List Symbol → List ℕ
value_text s ts =
    if is_next kinds.OpenBrace ts then with_spaces (group_words s ts)
    else or_yes (with_spaces (words_until s true (without_equals ts)))

-- a configuration entry, from its word on
abbrev pub command_text : RenamesData → List Symbol → List ℕ
command_text r ts = with_spaces ((front ts).text ∷ group_words (with_names_of r) (tail ts))

-- ---- what contracts see of the code's type

abbrev pub spelling_of : Spelling → Spelled
spelling_of spellings.AsTheyAre = as_they_are
spelling_of spellings.Numbers = with_decimals
spelling_of (spellings.Frames r) = with_frame_names_of (renames_data r.now)
spelling_of (spellings.Signals r) = with_signal_names_of (renames_data r.now)
spelling_of (spellings.Names r) = with_names_of (renames_data r.now)

-- ---- the lines of the header: the statements before the first section

abbrev pub lines_of_header : List Symbol → List (List Symbol)
lines_of_header ts = take_while (λ us. not (is_group us)) (statements ts)
