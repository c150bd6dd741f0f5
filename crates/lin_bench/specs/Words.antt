-- Lines that say values of signals in words, behind `=` or `~`. Such a line says what it says with a
-- raw value in the place of the words; an expectation, that the value is one that the words say.
use Rattle.std.specs.Prelude.{ℕ, suc, zero, ◌+◌, ◌-◌, ◌==◌, ◌&&◌, ◌||◌, not, Bool, true, false, ℤ, List, []}
use Rattle.std.specs.Prelude.{◌∷◌, ◌++◌, length, take, drop, slice_index_or, Option, Some, None}
use Rattle.std.specs.Prelude.{Result, Ok, Err, codes, nat_lt, if◌then◌else◌, slice_index}
use Rattle.std.specs.Prelude.{position, int_lt, is_some, min, option_and_then, ◌-ℤ◌}
use Rattle.std.specs.List.{list_all}
use Rattle.std.specs.Option.{option_map, option_map_or}
use Rattle.std.specs.Str.{bytes_eq}
use Rattle.std.specs.Char.{is_ascii_digit}
use lib.IntN.{◌+ℤ◌}
use Rattle.hex.specs.Hex.{hex_digit_value}
use Rattle.lin_parts.specs.declared.parts.Parts.{Parts}
use Rattle.lin_frame.specs.declared.value.Value.{Value}
use Rattle.lin_frame.specs.declared.value.Value.TheVariants.{Scalar}
use Rattle.lin_log.specs.Words.{value_word}
use Rattle.lin_values.specs.Coded.{CodedData, encoding_of, signal_at}
use Rattle.lin_values.specs.Raws.{nearest, values_of}
use Rattle.lin_values.specs.Read.{number_and_unit, signed_number}
use Rattle.lin_values.specs.Value.{is_small}
use Rattle.lin_values.specs.declared.codings.PlacedItem.{PlacedItem}
use Rattle.lin_bench.specs.Fields.{◌>>=◌, all_fields, line_fields, range_ends, signal_field}
use Rattle.lin_bench.specs.Hints.{names_hash, texts_in, unit_hint, units_hint, units_in, value_hint, values_hint}
use Rattle.lin_bench.specs.Lines.{read_line}
use Rattle.lin_bench.specs.Meant.{values_within}
use Rattle.lin_bench.specs.OnLines.{off_at}
use Rattle.lin_bench.specs.RawValues.{some_value, unless_all}
use Rattle.lin_bench.specs.LineWords.{fields_text}
use Rattle.lin_bench.specs.declared.expected.Condition.{Condition}
use Rattle.lin_bench.specs.declared.expected.Condition.TheVariants as condition
use Rattle.lin_bench.specs.declared.expected.Expected.{Expected}
use Rattle.lin_bench.specs.declared.expected.Expected.TheVariants as expected
use Rattle.lin_bench.specs.declared.line.ScriptLine.{ScriptLine}
use Rattle.lin_bench.specs.declared.line.ScriptLine.TheVariants as lines
use Rattle.lin_bench.specs.declared.reason.Hint.{Hint}
use Rattle.lin_bench.specs.declared.reason.Reason.{Reason}
use Rattle.lin_bench.specs.declared.reason.Reason.TheVariants.{NoDecimal, NoWords, NoValue, SeveralValues, NoRange, Unmarked, WideSignal}
use Rattle.lin_bench.specs.declared.rules.Form.{Form}
use Rattle.lin_bench.specs.declared.rules.NodeLimits.{NodeLimits}
use Rattle.lin_bench.specs.declared.rules.Rule.{Rule}
use Rattle.lin_bench.specs.declared.rules.Rule.TheVariants as rule
use Rattle.lin_bench.specs.declared.rules.RuleEnd.{RuleEnd}
use Rattle.lin_bench.specs.declared.rules.RuleEnd.TheVariants as end
use Rattle.lin_bench.specs.declared.rules.Watched.{Watched}
use Rattle.lin_bench.specs.declared.words.Wish.{Wish}
use Rattle.lin_bench.specs.declared.words.Wish.TheVariants.{Write, Nearest, Expect}

-- ---- which lines they are

abbrev pub is_value_mark : List ℕ → Bool
is_value_mark f = bytes_eq f (codes "=") || bytes_eq f (codes "~")

abbrev pub mark_at : List (List ℕ) → Option ℕ
mark_at fs = position is_value_mark fs

-- a field counted from the end, 0 the last; no bytes where there is none
abbrev pub from_end : List (List ℕ) → ℕ → List ℕ
from_end fs n = if nat_lt n (length fs) then slice_index_or fs (length fs - 1 - n) [] else []

-- `write`, and a node or none, stand before the signal
abbrev pub is_write : List (List ℕ) → Bool
is_write before =
    bytes_eq (from_end before 0) (codes "write") || bytes_eq (from_end before 1) (codes "write")

-- `expect`, `until` or `while`, `not` or nothing, `signal` and a node
abbrev pub is_expectation_word : List ℕ → Bool
is_expectation_word word =
    bytes_eq word (codes "expect") || bytes_eq word (codes "until") || bytes_eq word (codes "while")

abbrev pub is_expect : List (List ℕ) → Bool
is_expect before =
    bytes_eq (from_end before 1) (codes "signal")
    && (is_expectation_word (from_end before 2)
    || (bytes_eq (from_end before 2) (codes "not") && is_expectation_word (from_end before 3)))

-- what is asked for by the fields before a signal and the mark behind it; nothing by the name of a test
abbrev pub is_test : List (List ℕ) → Bool
is_test before = bytes_eq (slice_index_or before 0 []) (codes "test")

abbrev pub wish_of : List (List ℕ) → List ℕ → Option Wish
wish_of before mark =
    if is_test before then None
    else if is_expect before then (if bytes_eq mark (codes "=") then Some Expect else None)
    else if is_write before then Some (if bytes_eq mark (codes "~") then Nearest else Write)
    else None

-- a line with words: what it asks for, its fields before the signal, the signal's, and the words
pub record WordedLine : Type 0 where
  pub wish : Wish
  pub before : List (List ℕ)
  pub signal : List ℕ
  pub words : List (List ℕ)

abbrev pub worded_at : List (List ℕ) → ℕ → Option WordedLine
worded_at fs at =
    option_map
    (λ wish. record {
      wish = wish;
      before = take (at - 1) fs;
      signal = slice_index_or fs (at - 1) [];
      words = drop (at + 1) fs;
    })
    (wish_of (take (at - 1) fs) (slice_index_or fs at []))

-- the parts of a line with words, by the first mark
unfoldable pub worded : List (List ℕ) → Option WordedLine
worded fs = option_and_then (worded_at fs) (mark_at fs)

-- ---- writes: the value that is written, and why there is none

abbrev pub begins_number : List ℕ → Bool
begins_number [] = false
begins_number (c ∷ []) = is_ascii_digit c
begins_number (c ∷ d ∷ cs) = is_ascii_digit c || ((c == 45 || c == 43) && is_ascii_digit d)

-- a decimal within the limits of an LDF's numbers, and its unit
abbrev pub small_number : List ℕ → Option (ℤ × List ℕ)
small_number text = option_and_then (λ p. if is_small p.0 then Some p else None) (number_and_unit text)

-- a text that begins like a number, and is none within the limits
abbrev pub is_bad_number : List ℕ → Bool
is_bad_number text = option_map_or (λ p. not (is_small p.0)) (number_and_unit text) (begins_number text)

abbrev pub no_value : CodedData → ℕ → List ℕ → List ℕ → Reason
no_value k s field text = NoValue text field (value_hint k s text)

abbrev pub why_none : CodedData → ℕ → List ℕ → List ℕ → List ℕ → Reason
why_none k s field text word =
    if is_bad_number text then NoDecimal word else no_value k s field text

-- the one value of a text, whose first word this is; else why there isn't one
abbrev pub only_value : CodedData → ℕ → List ℕ → List ℕ → List ℕ → List Value → Result Value Reason
only_value k s field text word [] = Err (why_none k s field text word)
only_value k s field text word (v ∷ []) = Ok v
only_value k s field text word (v ∷ w ∷ vs) = Err (SeveralValues (length (v ∷ w ∷ vs)) text field)

-- the value nearest to a number
abbrev pub nearest_to : CodedData → ℕ → List ℕ → List ℕ → ℤ × List ℕ → Result Value Reason
nearest_to k s field text p =
    option_map_or (λ raw. Ok (Scalar raw)) (nearest k s p.0 p.1) (Err (no_value k s field text))

abbrev pub nearest_value : CodedData → ℕ → List ℕ → List ℕ → List ℕ → Result Value Reason
nearest_value k s field text word =
    option_map_or (nearest_to k s field text) (small_number text) (Err (NoDecimal word))

-- ---- expectations: the values that the words say

abbrev pub decimal_field : List ℕ → Result ℤ Reason
decimal_field f =
    option_map_or (λ z. if is_small z then Ok z else Err (NoDecimal f)) (signed_number f) (Err (NoDecimal f))

abbrev pub decimal_fields : List (List ℕ) → Result (ℤ × List ℕ) Reason
decimal_fields [] = Err NoWords
decimal_fields (f ∷ fs) = option_map_or (λ p. Ok p) (small_number (fields_text (f ∷ fs))) (Err (NoDecimal f))

-- one value at least
abbrev pub some_values : Reason → List Value → Result (List Value) Reason
some_values why [] = Err why
some_values why (v ∷ vs) = Ok (v ∷ vs)

-- the values from one decimal to another with a unit, or with any if it is empty
abbrev pub some_between : CodedData → ℕ → List ℕ → List ℕ → ℤ → ℤ → List ℕ
    → Result (List Value) Reason
some_between k s field text low high unit =
    some_values (NoValue text field (unit_hint k s unit)) (values_within k s low high unit)

abbrev pub values_between : CodedData → ℕ → List ℕ → List ℕ → ℤ → ℤ → List ℕ → Result (List Value) Reason
values_between k s field text low high unit =
    if int_lt high low then Err (NoRange text) else some_between k s field text low high unit

-- the values of a decimal, give or take a tolerance
abbrev pub around : CodedData → ℕ → List ℕ → List ℕ → List ℕ → List (List ℕ)
    → Result (List Value) Reason
around k s field text f fs = do
  z ← decimal_field f
  t ← decimal_fields fs
  values_between k s field text (z -ℤ t.0) (z +ℤ t.0) t.1

-- those from one decimal to another
abbrev pub from_to : CodedData → ℕ → List ℕ → List ℕ → List ℕ → List (List ℕ)
    → Result (List Value) Reason
from_to k s field text f fs = do
  low ← decimal_field f
  high ← decimal_fields fs
  values_between k s field text low high.0 high.1

-- those with a text, whose first word this is
abbrev pub by_text : CodedData → ℕ → List ℕ → List ℕ → List ℕ → Result (List Value) Reason
by_text k s field text word =
    some_values (why_none k s field text word) (values_of k s text)

-- those that a text says, by its first word and the others
abbrev pub expected_values : CodedData → ℕ → List ℕ → List ℕ → List ℕ → List (List ℕ)
    → Result (List Value) Reason
expected_values k s field text f (m ∷ fs) =
    if begins_number f && bytes_eq m (codes "+-") then around k s field text f fs
    else if begins_number f && bytes_eq m (codes "..") then from_to k s field text f fs
    else by_text k s field text f
expected_values k s field text f [] = by_text k s field text f

-- an expectation of a value, with the values that words say in its place
abbrev pub meant_condition : Condition → List ℕ → List Value → Condition
meant_condition (condition.Signal node signal v) text values =
    condition.SignalMeans node signal text values
meant_condition other text values = other

abbrev pub meant_by : Expected → List ℕ → List Value → Expected
meant_by (expected.Is what) text values = expected.Is (meant_condition what text values)
meant_by (expected.Not what) text values = expected.Not (meant_condition what text values)
meant_by other text values = other

abbrev pub meant_form : List ℕ → List Value → Form → Form
meant_form text values f = record f { what = meant_condition f.what text values }

abbrev pub meant_on : List ℕ → List Value → Watched → Watched
meant_on text values w = record w { on = record w.on { form = meant_form text values w.on.form } }

abbrev pub meant_end : List ℕ → List Value → RuleEnd → RuleEnd
meant_end text values (end.On form) = end.On (meant_form text values form)
meant_end text values other = other

abbrev pub meant_rule : List ℕ → List Value → Rule → Rule
meant_rule text values (rule.On w) = rule.On (meant_on text values w)
meant_rule text values (rule.End e) = rule.End (meant_end text values e)
meant_rule text values other = other

abbrev pub meant_line : List ℕ → List Value → Option ScriptLine → Option ScriptLine
meant_line text values (Some (lines.Expect e)) = Some (lines.Expect (meant_by e text values))
meant_line text values (Some (lines.Until s e)) = Some (lines.Until s (meant_by e text values))
meant_line text values (Some (lines.While s e)) = Some (lines.While s (meant_by e text values))
meant_line text values (Some (lines.Rule r)) = Some (lines.Rule (meant_rule text values r))
meant_line text values other = other

-- ---- what lines say

-- the fields up to a signal, and a raw value
abbrev pub in_numbers : List (List ℕ) → List ℕ → Value → List ℕ
in_numbers before signal v = fields_text (before ++ signal ∷ value_word v ∷ [])

-- a write of the one value of a text, whose first word this is, and one of the value nearest to it
unfoldable pub written_line : Parts → CodedData → ℕ → WordedLine → List ℕ → List ℕ → List ℕ
    → Result (Option ScriptLine) Reason
written_line c k s w field text word = do
  v ← only_value k s field text word (values_of k s text)
  read_line c (in_numbers w.before w.signal v)

unfoldable pub nearest_line : Parts → CodedData → ℕ → WordedLine → List ℕ → List ℕ → List ℕ
    → Result (Option ScriptLine) Reason
nearest_line c k s w field text word = do
  v ← nearest_value k s field text word
  read_line c (in_numbers w.before w.signal v)

-- an expectation of the values that a text says, by what its line says with the signal's initial value. It
-- can't fail if they are all that the signal can have
unfoldable pub expected_line : Parts → CodedData → ℕ → List ℕ → List ℕ → List ℕ → List (List ℕ)
    → Option ScriptLine → Result (Option ScriptLine) Reason
expected_line c k s field text word ws at_initial = do
  values ← expected_values k s field text word ws
  some ← unless_all c s field text values
  Ok (meant_line text some at_initial)

-- a line that asks for this of a signal, by the first of its words and the others; with the signal's initial
-- value it says this
abbrev pub by_wish : Parts → CodedData → WordedLine → Option ScriptLine → List ℕ → List ℕ → List ℕ
    → List (List ℕ) → ℕ → Wish → Result (Option ScriptLine) Reason
by_wish c k w at_initial field text word ws s Write = written_line c k s w field text word
by_wish c k w at_initial field text word ws s Nearest = nearest_line c k s w field text word
by_wish c k w at_initial field text word ws s Expect = expected_line c k s field text word ws at_initial

unfoldable pub worded_by : Parts → CodedData → WordedLine → Option ScriptLine → List ℕ → List (List ℕ) → ℕ
    → Result (Option ScriptLine) Reason
worded_by c k w at_initial word ws s =
    by_wish c k w at_initial w.signal (fields_text w.words) word ws s w.wish

abbrev pub with_words : Parts → CodedData → WordedLine → Option ScriptLine → ℕ → List (List ℕ)
    → Result (Option ScriptLine) Reason
with_words c k w at_initial s [] = Err NoWords
with_words c k w at_initial s (word ∷ ws) = worded_by c k w at_initial word ws s

-- a line whose words go on to its end: it has no comment
abbrev pub without_comment : WordedLine → List ℕ → WordedLine
without_comment w l = record w { words = drop (length w.before + 2) (all_fields l) }

-- after `=` and `~`, `#` begins no comment if a text or a unit of the signal has one
abbrev pub with_hash : CodedData → ℕ → WordedLine → List ℕ → WordedLine
with_hash k s w l = if names_hash k s then without_comment w l else w

abbrev pub line_with_signal : Parts → CodedData → WordedLine → Option ScriptLine → ℕ → Result (Option ScriptLine) Reason
line_with_signal c k w at_initial s = with_words c k w at_initial s w.words

-- the signal that a field names; values of wide signals aren't said in words
abbrev pub narrow_signal : CodedData → List ℕ → ℕ → Result ℕ Reason
narrow_signal k field s = if (signal_at k s).is_wide then Err (WideSignal field) else Ok s

abbrev pub worded_signal : Parts → CodedData → List ℕ → Result ℕ Reason
worded_signal c k field = do
  s ← signal_field c field
  narrow_signal k field s

-- all fields before the words are judged as those of a line with a raw value are, and then the words
unfoldable pub worded_line : Parts → CodedData → WordedLine → List ℕ → Result (Option ScriptLine) Reason
worded_line c k w l = do
  at_initial ← read_line c (in_numbers w.before w.signal (some_value c w.signal))
  s ← worded_signal c k w.signal
  line_with_signal c k (with_hash k s w l) at_initial s

-- ---- lines without words: why one is bad in which `=` is missing

-- what is meant as a raw value or a range: digits, `0x` and more, `x-`, or `x` and hexadecimal digits
abbrev pub is_hex : ℕ → Bool
is_hex c = is_some (hex_digit_value c)

abbrev pub is_array_word : List ℕ → Bool
is_array_word f =
    slice_index f 0 == 120 && (bytes_eq (drop 1 f) (codes "-") || list_all is_hex (drop 1 f))

abbrev pub begins_hex : List ℕ → Bool
begins_hex f = slice_index f 0 == 48 && slice_index f 1 == 120

abbrev pub is_raw : List ℕ → Bool
is_raw f = list_all is_ascii_digit f || (begins_hex f || is_array_word f)

abbrev pub is_number_or_range : List (List ℕ) → Bool
is_number_or_range (f ∷ []) = is_raw f || is_some (range_ends f)
is_number_or_range fs = false

-- whether a line is good
abbrev pub is_good_line : Result (Option ScriptLine) Reason → Bool
is_good_line (Ok l) = true
is_good_line (Err why) = false

-- whether a line with a signal's initial value after the signal is good
abbrev pub reads_initial : Parts → List (List ℕ) → List ℕ → Bool
reads_initial c before signal =
    is_good_line (read_line c (in_numbers before signal (some_value c signal)))

-- whether a field is a signal with its value after it, by the fields before it
abbrev pub asks_value : List (List ℕ) → Bool
asks_value before = is_write before || is_expect before

abbrev pub is_signal_after : Parts → List (List ℕ) → List ℕ → Bool
is_signal_after c before signal = asks_value before && reads_initial c before signal

abbrev pub is_signal : Parts → List (List ℕ) → ℕ → Bool
is_signal c fs i = is_signal_after c (take i fs) (slice_index_or fs i [])

-- the last such field from this one down, not the first of the line
abbrev pub last_signal : Parts → List (List ℕ) → ℕ → Option ℕ
last_signal c fs zero = None
last_signal c fs (suc i) = if is_signal c fs (suc i) then Some (suc i) else last_signal c fs i

-- a signal is looked for after at most nine fields: `every N ms PORT write NODE` has six before it,
-- `slots N ms leave NODE until not signal NODE` nine
abbrev pub signal_in_fields : Parts → List (List ℕ) → Option ℕ
signal_in_fields c fs = last_signal c fs (min (length fs - 2) 9)

-- for a number the units, if the signal has some; else the texts, or the units
abbrev pub missing_hint : CodedData → ℕ → List PlacedItem → List ℕ → Hint
missing_hint k s ps text =
    if is_some (number_and_unit text) && nat_lt 0 (length (units_in ps)) then units_hint (units_in ps)
    else values_hint (units_in ps) (texts_in k s ps)

-- that `=` is missing before a value, if the signal has an encoding
abbrev pub unmarked_reason : CodedData → ℕ → Bool → List (List ℕ) → List PlacedItem → Reason
unmarked_reason k s ranged value ps = Unmarked value ranged (missing_hint k s ps (fields_text value))

abbrev pub why_coded : CodedData → ℕ → Bool → List (List ℕ) → Option Reason
why_coded k s ranged value = option_map (λ t. unmarked_reason k s ranged value t.items) (encoding_of k s)

-- of a wide signal, which this field names, that it is one
abbrev pub why_of_signal : CodedData → List ℕ → ℕ → Bool → List (List ℕ) → Option Reason
why_of_signal k field s ranged value =
    if (signal_at k s).is_wide then Some (WideSignal field) else why_coded k s ranged value

abbrev pub why_signal : CodedData → List ℕ → Result ℕ Reason → Bool → List (List ℕ) → Option Reason
why_signal k field (Ok s) ranged value = why_of_signal k field s ranged value
why_signal k field (Err other) ranged value = None

abbrev pub why_value : CodedData → List ℕ → Result ℕ Reason → Bool → List (List ℕ) → Option Reason
why_value k field signal ranged value =
    if is_number_or_range value then None else why_signal k field signal ranged value

abbrev pub why_at : Parts → CodedData → List (List ℕ) → ℕ → Option Reason
why_at c k fs i =
    why_value k (slice_index_or fs i []) (signal_field c (slice_index_or fs i [])) (is_expect (take i fs))
    (drop (i + 1) fs)

abbrev pub why_unmarked : Parts → CodedData → List (List ℕ) → Option Reason
why_unmarked c k fs = option_and_then (why_at c k fs) (signal_in_fields c fs)

abbrev pub or_this : Option Reason → Reason → Reason
or_this None why = why
or_this (Some better) why = better

-- what a line without words says, by what it says where what signals mean isn't known: that `=` is
-- missing, or else why the line is bad there
abbrev pub or_unmarked : Parts → CodedData → List (List ℕ) → Result (Option ScriptLine) Reason
    → Result (Option ScriptLine) Reason
or_unmarked c k fs (Ok l) = Ok l
or_unmarked c k fs (Err why) = Err (or_this (why_unmarked c k fs) why)

-- ---- all lines

abbrev pub worded_or_plain : Parts → CodedData → List ℕ → Option WordedLine → Result (Option ScriptLine) Reason
worded_or_plain c k l None = or_unmarked c k (line_fields l) (read_line c l)
worded_or_plain c k l (Some w) = worded_line c k w l

abbrev pub marked_line : Parts → CodedData → List ℕ → Result (Option ScriptLine) Reason
marked_line c k l = worded_or_plain c k l (worded (line_fields l))

-- ---- lines of `on` whose form says values in words, after `=`: such a line says what it says with the
-- signal's initial value in their place, in which its step may say a value in words, but its form is that the value is one
-- that the words say

-- a form ends with the first `do`, or with `off` at the end
abbrev pub or_off : List (List ℕ) → Option ℕ → Option ℕ
or_off fs None = off_at fs
or_off fs (Some at) = Some at

abbrev pub form_end : List (List ℕ) → Option ℕ
form_end fs = or_off fs (position (λ f. bytes_eq f (codes "do")) fs)

abbrev pub is_not_signal : List ℕ → List ℕ → List ℕ → Bool
is_not_signal f g h =
    bytes_eq f (codes "on") && bytes_eq g (codes "not") && bytes_eq h (codes "signal")

abbrev pub is_on_signal : List (List ℕ) → Bool
is_on_signal (f ∷ g ∷ n ∷ []) = bytes_eq f (codes "on") && bytes_eq g (codes "signal")
is_on_signal (f ∷ g ∷ h ∷ n ∷ []) = is_not_signal f g h
is_on_signal fs = false

-- its fields before the signal, the signal's, the words, and the fields after the form
pub record OnLine : Type 0 where
  pub before : List (List ℕ)
  pub signal : List ℕ
  pub words : List (List ℕ)
  pub behind : List (List ℕ)

abbrev pub on_line_at : List (List ℕ) → List (List ℕ) → ℕ → Option OnLine
on_line_at form behind zero = None
on_line_at form behind (suc at) =
    if is_on_signal (take at form)
    then Some (record {
      before = take at form;
      signal = slice_index_or form at [];
      words = drop (suc (suc at)) form;
      behind = behind;
    })
    else None

abbrev pub equals_place : List (List ℕ) → Option ℕ
equals_place fs = position (λ f. bytes_eq f (codes "=")) fs

abbrev pub marked_form : List (List ℕ) → List (List ℕ) → Option OnLine
marked_form form behind = option_and_then (on_line_at form behind) (equals_place form)

unfoldable pub worded_on : List (List ℕ) → Option OnLine
worded_on fs = option_and_then (λ at. marked_form (take at fs) (drop at fs)) (form_end fs)

abbrev pub with_initial : Parts → OnLine → List ℕ
with_initial c o =
    fields_text (o.before ++ o.signal ∷ value_word (some_value c o.signal) ∷ o.behind)

abbrev pub meant_by_words : Parts → CodedData → OnLine → Option ScriptLine → ℕ → List (List ℕ)
    → Result (Option ScriptLine) Reason
meant_by_words c k o at_initial s [] = Err NoWords
meant_by_words c k o at_initial s (word ∷ ws) =
    expected_line c k s o.signal (fields_text (word ∷ ws)) word ws at_initial

unfoldable pub worded_on_line : Parts → CodedData → OnLine → Result (Option ScriptLine) Reason
worded_on_line c k o = do
  at_initial ← marked_line c k (with_initial c o)
  s ← worded_signal c k o.signal
  meant_by_words c k o at_initial s o.words

abbrev pub on_or_marked : Parts → CodedData → List ℕ → Option OnLine → Result (Option ScriptLine) Reason
on_or_marked c k l None = marked_line c k l
on_or_marked c k l (Some o) = worded_on_line c k o

abbrev pub said_line : Parts → CodedData → List ℕ → Result (Option ScriptLine) Reason
said_line c k l = on_or_marked c k l (worded_on (line_fields l))

-- what a line of a bench script says, where what signals mean is known, or isn't
unfoldable pub line_in_words : Parts → Option CodedData → List ℕ → Result (Option ScriptLine) Reason
line_in_words c None l = read_line c l
line_in_words c (Some k) l = if slice_index l 0 == 62 then Ok None else said_line c k l

-- ---- `timeouts ldf`: the limits are those of the LDF
abbrev pub limited : List NodeLimits → Rule → Rule
limited limits (rule.TimeoutsLdf known) = rule.TimeoutsLdf limits
limited limits other = other

abbrev pub limited_line : List NodeLimits → Result (Option ScriptLine) Reason
    → Result (Option ScriptLine) Reason
limited_line limits (Ok (Some (lines.Rule r))) = Ok (Some (lines.Rule (limited limits r)))
limited_line limits other = other

unfoldable pub read_worded_line : Parts → Option CodedData → List NodeLimits → List ℕ
    → Result (Option ScriptLine) Reason
read_worded_line c k limits l = limited_line limits (line_in_words c k l)
