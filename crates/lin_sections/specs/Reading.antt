-- What the two sections say, among all tokens of a text. What is in no form is noted at its first
-- token. Reading goes on behind the next semicolon of its depth; of a type without a name that is
-- one, behind its group.
use Rattle.std.specs.Prelude.{◌≡◌, ◌-◌, ◌^◌, ℕ, List, [], ◌∷◌, ◌++◌, length, Option, Some, None}
use Rattle.std.specs.Prelude.{codes, if◌then◌else◌}
use Rattle.std.specs.Str.{bytes_eq}
use Rattle.lin_parts.specs.declared.description.Name.{Name}
use Rattle.lin_parts.specs.declared.place.Location.{Location}
use Rattle.lin_ldf.specs.Forms.{has_front, front, tail}
use Rattle.lin_ldf.specs.Loops.{is_next}
use Rattle.lin_ldf.specs.Symbols.{Symbol}
use Rattle.lin_ldf.specs.Words.{place_of}
use Rattle.lin_ldf.specs.declared.token.TokenKind.TheVariants.{Word, OpenBrace}
use Rattle.lin_sections.specs.Coding.{item, type_head, coded_line}
use Rattle.lin_sections.specs.Passed.{has_line, behind_line, behind_closing, behind_group}
use Rattle.lin_sections.specs.Passed.{behind_block, steps_while}
use Rattle.lin_values.specs.declared.codings.CodedLine.{CodedLine}
use Rattle.lin_values.specs.declared.codings.Codings.{Codings}
use Rattle.lin_values.specs.declared.codings.Item.{Item}
use Rattle.lin_values.specs.declared.codings.PlacedItem.{PlacedItem}
use Rattle.lin_sections.specs.declared.coding_sections.ReadCodings.{ReadCodings}

abbrev pub found_of : ReadCodings → Codings
found_of f = record { types = f.types.items; lines = f.lines.items; bad = f.bad.items; wide = [] }

-- ---- repeated: up to the brace that closes the group, each time what one line makes of the rest and
-- of what was read

abbrev pub through_lines : {S : Type 0} → (List Symbol × S → List Symbol × S) → List Symbol × S
    → List Symbol × S
through_lines line x =
    let y = steps_while (length x.0) (λ y. has_line y.0) line x in (behind_closing y.0, y.1)

-- ---- what a call read ahead: a value in a form, behind which the parser then stands; or the place of
-- what is in no form, where the parser still stands

abbrev pub IsOrBad : {X : Type 0} → Option X → Option (X × List Symbol) → List Symbol → List Symbol
    → List Location → List Location → Type 0
IsOrBad (Some x) read ts left bad now = (read ≡ Some (x, left)) × (now ≡ bad)
IsOrBad None read ts left bad now =
    (read ≡ None) × (left ≡ ts) × (now ≡ bad ++ place_of (front ts) ∷ [])

-- ---- items

abbrev pub placed_item : List Symbol → Item → PlacedItem
placed_item ts i = record { item = i; place = place_of (front ts) }

abbrev pub or_bad_item : Option (Item × List Symbol) → List Symbol × (List PlacedItem × List Location)
    → List Symbol × (List PlacedItem × List Location)
or_bad_item (Some read) x = (read.1, (x.1.0 ++ placed_item x.0 read.0 ∷ [], x.1.1))
or_bad_item None x = (behind_line 0 x.0, (x.1.0, x.1.1 ++ place_of (front x.0) ∷ []))

-- an item more, or a place that is bad
abbrev pub with_item : ℕ → List Symbol × (List PlacedItem × List Location)
    → List Symbol × (List PlacedItem × List Location)
with_item most x = or_bad_item (item most x.0) x

-- the items of a type
abbrev pub with_items : ℕ → List Symbol → List Location
    → List Symbol × (List PlacedItem × List Location)
with_items most ts bad = through_lines (with_item most) (ts, ([], bad))

-- ---- types

-- the place of what is in no form, behind which these tokens are left
abbrev pub with_bad : List Symbol → List Symbol × Codings → List Symbol × Codings
with_bad left x = (left, record x.1 { bad = x.1.bad ++ place_of (front x.0) ∷ [] })

abbrev pub with_encoding : Name → List Symbol × (List PlacedItem × List Location) → Codings
    → List Symbol × Codings
with_encoding name read f = (
  read.0,
  record f {
    types = f.types ++ record { name = name; items = read.1.0 } ∷ [];
    bad = read.1.1;
  },
)

abbrev pub or_bad_type : ℕ → Option (Name × List Symbol) → List Symbol × Codings
    → List Symbol × Codings
or_bad_type most (Some head) x = with_encoding head.0 (with_items most head.1 x.1.bad) x.1
or_bad_type most None x = with_bad (behind_block x.0) x

abbrev pub with_type : ℕ → List Symbol → Codings → List Symbol × Codings
with_type most ts f = or_bad_type most (type_head ts) (ts, f)

-- the types of a section, which begins with a brace
abbrev pub with_types : ℕ → List Symbol → Codings → List Symbol × Codings
with_types most ts f = through_lines (λ x. with_type most x.0 x.1) (tail ts, f)

-- ---- lines of signals

abbrev pub or_bad_line : Option (CodedLine × List Symbol) → List Symbol × Codings
    → List Symbol × Codings
or_bad_line (Some read) x = (read.1, record x.1 { lines = x.1.lines ++ read.0 ∷ [] })
or_bad_line None x = with_bad (behind_line 0 x.0) x

abbrev pub with_coded_line : List Symbol → Codings → List Symbol × Codings
with_coded_line ts f = or_bad_line (coded_line ts) (ts, f)

abbrev pub with_lines : List Symbol → Codings → List Symbol × Codings
with_lines ts f = through_lines (λ x. with_coded_line x.0 x.1) (tail ts, f)

-- ---- sections and lines of the text

-- a section of this word, from its brace on
abbrev pub with_section : ℕ → List ℕ → List Symbol → Codings → List Symbol × Codings
with_section most w ts f =
    if bytes_eq w (codes "Signal_encoding_types") then with_types most ts f
    else if bytes_eq w (codes "Signal_representation") then with_lines ts f
    else (behind_group ts, f)

-- what begins with a token outside of all braces: a section, where that is a WORD before a brace, or
-- a line, where it is any other WORD
abbrev pub with_statement : ℕ → List Symbol → Codings → List Symbol × Codings
with_statement most ts f =
    if is_next Word ts
    then (if is_next OpenBrace (tail ts) then with_section most (front ts).text (tail ts) f
    else (behind_line 0 (tail ts), f))
    else (tail ts, f)

abbrev pub nothing_read : Codings
nothing_read = record { types = []; lines = []; bad = []; wide = [] }

-- values up to a limit (each statement takes a token)
abbrev pub codings_up_to : ℕ → List Symbol → Codings
codings_up_to most ts =
    (steps_while (length ts) (λ x. has_front x.0) (λ x. with_statement most x.0 x.1) (ts, nothing_read)).1

-- those of 16 bits
abbrev pub codings : List Symbol → Codings
codings ts = codings_up_to 65535 ts

-- with `--field` those of 64 bits, and the names of the wide signals
abbrev pub field_codings : List Name → List Symbol → Codings
field_codings wide ts = record (codings_up_to (2 ^ 64 - 1) ts) { wide = wide }
