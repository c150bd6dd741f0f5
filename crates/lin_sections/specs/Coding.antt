-- How items and lines of the two sections are spelled (LIN 2.2A, section 9.2.6).
use Rattle.std.specs.Prelude.{ℕ, ◌+◌, ◌-◌, ◌==◌, ◌&&◌, ◌||◌, List, [], ◌∷◌, ◌++◌, Bool, true, false, nat_le}
use Rattle.std.specs.Prelude.{length, take, drop, codes, Option, Some, None, if◌then◌else◌, option_map}
use Rattle.std.specs.Str.{bytes_eq}
use Rattle.lin_field.specs.Grammar.{wide_int}
use Rattle.lin_parts.specs.declared.description.Name.{Name}
use Rattle.lin_ldf.specs.Forms.{◌>>=◌, front, tail, is_front, mark, keyword, ◌<&◌}
use Rattle.lin_ldf.specs.Loops.{is_next}
use Rattle.lin_ldf.specs.Symbols.{Symbol, is_kind}
use Rattle.lin_ldf.specs.Words.{word, words, is_word_next}
use Rattle.lin_ldf.specs.declared.token.TokenKind.TheVariants as kinds
use Rattle.lin_sections.specs.Real.{real_units}
use Rattle.lin_sections.specs.Texts.{shown_text}
use Rattle.lin_values.specs.Value.{shortest}
use Rattle.lin_values.specs.declared.decimals.Decimal.{Decimal}
use Rattle.lin_values.specs.declared.codings.CodedLine.{CodedLine}
use Rattle.lin_values.specs.declared.codings.Item.{Item}
use Rattle.lin_values.specs.declared.codings.Item.TheVariants as items

-- V = WIDE up to a limit
abbrev pub raw_value : ℕ → List Symbol → Option (ℕ × List Symbol)
raw_value most ts =
    wide_int.read ts >>= λ n. if nat_le n.0.value most then Some (n.0.value, n.1) else None

-- ',' V
abbrev pub next_raw_value : ℕ → List Symbol → Option (ℕ × List Symbol)
next_raw_value most ts = (mark kinds.Comma).read ts >>= λ u. raw_value most u.1

-- ---- REAL

abbrev pub is_mark_next : List ℕ → List Symbol → Bool
is_mark_next w ts = is_front (λ t. is_kind kinds.Other t.kind && bytes_eq t.text w) ts

-- whether a `-` is next; it, or a `+`, is passed over
abbrev pub optional_sign : List Symbol → Bool × List Symbol
optional_sign ts =
    if is_mark_next (codes "-") ts then (true, tail ts)
    else if is_mark_next (codes "+") ts then (false, tail ts)
    else (false, ts)

abbrev pub may_be_part : Symbol → Bool
may_be_part t =
    is_kind kinds.Number t.kind || (is_kind kinds.Word t.kind || is_kind kinds.Other t.kind)

abbrev pub is_part : ℕ → ℕ → Symbol → Bool
is_part line column t = may_be_part t && (t.line == line && t.column == column)

-- the text of tokens that stand without a gap one behind the other, from this place on
abbrev pub run_from : ℕ → ℕ → List Symbol → List ℕ × List Symbol
run_from line column [] = ([], [])
run_from line column (t ∷ ts) =
    if is_part line column t
    then (let more = run_from line (column + length t.text) ts in (t.text ++ more.0, more.1))
    else ([], t ∷ ts)

abbrev pub run : List Symbol → List ℕ × List Symbol
run ts = run_from (front ts).line (front ts).column ts

-- [ '-' | '+' ] ( NUM in decimal form [ '.' ] | '.' digits ) [ exponent ], without a gap from the
-- number on
abbrev pub real : List Symbol → Option (Decimal × List Symbol)
real ts =
    let s = optional_sign ts
    in let r = run s.1
    in option_map (λ n. (shortest s.0 n, r.1)) (real_units r.0)

-- ---- items

abbrev pub between_quotes : List ℕ → List ℕ
between_quotes w = take (length w - 2) (drop 1 w)

-- [ ',' TEXT ] ';'
abbrev pub text_of_item : List Symbol → Option (List ℕ × List Symbol)
text_of_item ts =
    if is_next kinds.Comma ts
    then ((mark kinds.Comma <& mark kinds.Text <& mark kinds.Semicolon).read ts
    >>= λ u. Some (shown_text (between_quotes (front (tail ts)).text), u.1))
    else ((mark kinds.Semicolon).read ts >>= λ u. Some (shown_text [], u.1))

-- 'logical_value' ',' V [ ',' TEXT ] ';'
abbrev pub logical : ℕ → List Symbol → Option (Item × List Symbol)
logical most ts = do
  u ← (keyword (codes "logical_value")).read ts
  v ← next_raw_value most u.1
  t ← text_of_item v.1
  Some (items.Logical v.0 t.0, t.1)

-- 'physical_value' ',' V ',' V ',' REAL ',' REAL [ ',' TEXT ] ';'
abbrev pub physical : ℕ → List Symbol → Option (Item × List Symbol)
physical most ts = do
  u ← (keyword (codes "physical_value")).read ts
  min ← next_raw_value most u.1
  max ← next_raw_value most min.1
  c ← (mark kinds.Comma).read max.1
  scale ← real c.1
  d ← (mark kinds.Comma).read scale.1
  offset ← real d.1
  unit ← text_of_item offset.1
  Some (items.Physical min.0 max.0 scale.0 offset.0 unit.0, unit.1)

abbrev pub bcd : List Symbol → Option (Item × List Symbol)
bcd ts =
    (keyword (codes "bcd_value") <& mark kinds.Semicolon).read ts >>= λ u. Some (items.Bcd, u.1)

abbrev pub ascii : List Symbol → Option (Item × List Symbol)
ascii ts =
    (keyword (codes "ascii_value") <& mark kinds.Semicolon).read ts >>= λ u. Some (items.Ascii, u.1)

abbrev pub item : ℕ → List Symbol → Option (Item × List Symbol)
item most ts =
    if is_word_next (codes "logical_value") ts then logical most ts
    else if is_word_next (codes "physical_value") ts then physical most ts
    else if is_word_next (codes "bcd_value") ts then bcd ts
    else ascii ts

-- ---- heads of types, and lines of signals

-- WORD '{'
abbrev pub type_head : List Symbol → Option (Name × List Symbol)
type_head ts = (word <& mark kinds.OpenBrace).read ts

-- WORD ':' words ';'
abbrev pub coded_line : List Symbol → Option (CodedLine × List Symbol)
coded_line ts = do
  encoding ← (word <& mark kinds.Colon).read ts
  signals ← (words <& mark kinds.Semicolon).read encoding.1
  Some (record { encoding = encoding.0; signals = signals.0 }, signals.1)
