-- What the values of signals mean (LIN 2.2A, section 9.2.6), as lines.
use Rattle.std.specs.Prelude.{ℕ, List, [], ◌∷◌, ◌++◌, length, flat_map, codes, Option, Some, None}
use Rattle.std.specs.Prelude.{Bool, ◌&&◌, if◌then◌else◌, is_some, nat_le}
use Rattle.std.specs.Option.{option_map_or}
use Rattle.std.specs.Fmt.{decimal}
use lib.IntN.{pos, ◌+ℤ◌, ◌*ℤ◌}
use Rattle.lin_parts.specs.Cluster.{signal_of}
use Rattle.lin_parts.specs.declared.parts.Parts.{Parts}
use Rattle.lin_frame.specs.Words.{numbers}
use Rattle.lin_log.specs.CallerTexts.{seen_text}
use Rattle.lin_log.specs.Words.{line, value_word}
use Rattle.lin_frame.specs.declared.value.Value.{Value}
use Rattle.lin_values.specs.Coded.{encoding_of, signal_at, CodedData, RangeData}
use Rattle.lin_values.specs.Meaning.{meaning, raw_number}
use Rattle.lin_values.specs.Meant.{Meant}
use Rattle.lin_values.specs.Shown.{decimal_shown, shown}
use Rattle.lin_values.specs.Value.{decimal_of, fits, scaled_value}
use Rattle.lin_values.specs.declared.decimals.Decimal.{Decimal}
use Rattle.lin_values.specs.declared.codings.CodingType.{CodingType}
use Rattle.lin_values.specs.declared.codings.Item.{Item}
use Rattle.lin_values.specs.declared.codings.Item.TheVariants.{Logical, Physical, Bcd, Ascii}

abbrev pub encoding_word : Option CodingType → List ℕ
encoding_word None = codes "-"
encoding_word (Some t) = seen_text t.name.text

-- number, name, bits, and encoding or `-`
abbrev pub coding_line : Parts → CodedData → ℕ → List ℕ
coding_line c k s =
    line (codes "coding" ∷ decimal s ∷ seen_text (signal_of c s).name ∷ decimal (signal_of c s).size
    ∷ encoding_word (encoding_of k s) ∷ [])

-- ---- items

abbrev pub unit_words : List ℕ → List (List ℕ)
unit_words [] = []
unit_words (c ∷ cs) = (c ∷ cs) ∷ []

abbrev pub decimal_word : ℕ → Decimal → Decimal → List ℕ
decimal_word raw scale offset =
    decimal_shown (decimal_of (pos raw *ℤ scaled_value scale +ℤ scaled_value offset))

-- the raw ends, the decimals that they mean, and the unit
abbrev pub range_line : ℕ → RangeData → List ℕ
range_line s r =
    line (codes "range" ∷ decimal s ∷ decimal r.min ∷ decimal r.max
    ∷ decimal_word r.min r.scale r.offset ∷ decimal_word r.max r.scale r.offset ∷ unit_words r.unit)

abbrev pub text_or_number : ℕ → List ℕ → List ℕ
text_or_number n [] = decimal n
text_or_number n (c ∷ cs) = c ∷ cs

abbrev pub value_text_line : ℕ → ℕ → List ℕ → List ℕ
value_text_line s n text =
    line (codes "value" ∷ decimal s ∷ decimal n ∷ text_or_number n text ∷ [])

-- the line of an item, if it says what some value of the signal means: values and ranges say it of
-- numbers alone, and a range has no value if its first one is above its last, or if its values don't fit
abbrev pub item_line : Bool → ℕ → Item → List ℕ
item_line has_numbers s (Logical v text) = if has_numbers then value_text_line s v text else []
item_line has_numbers s (Physical from to scale offset unit) =
    if has_numbers && (nat_le from to && fits to scale offset)
    then range_line s
    (record { min = from; max = to; scale = scale; offset = offset; unit = unit }) else []
item_line has_numbers s Bcd = line (codes "bcd" ∷ decimal s ∷ [])
item_line has_numbers s Ascii = line (codes "ascii" ∷ decimal s ∷ [])

abbrev pub item_lines : Bool → ℕ → Option CodingType → List ℕ
item_lines has_numbers s None = []
item_lines has_numbers s (Some t) = flat_map (λ p. item_line has_numbers s p.item) t.items

-- whether the values of a signal are numbers: those of scalars and of wide signals
abbrev pub values_are_numbers : Parts → CodedData → ℕ → Bool
values_are_numbers c k s = is_some (raw_number (signal_at k s).is_wide (signal_of c s).initial)

-- ---- the initial value, and its text where it has one

abbrev pub meaning_words : Option Meant → List (List ℕ)
meaning_words None = []
meaning_words (Some m) = shown m ∷ []

-- the number of a value if it has one, or else its bytes
abbrev pub raw_word : CodedData → ℕ → Value → List ℕ
raw_word k s v = option_map_or decimal (raw_number (signal_at k s).is_wide v) (value_word v)

abbrev pub initial_line : Parts → CodedData → ℕ → List ℕ
initial_line c k s =
    line (codes "initial" ∷ decimal s ∷ raw_word k s (signal_of c s).initial
    ∷ meaning_words (meaning k s (signal_of c s).initial))

-- ---- all signals

abbrev pub signal_lines : Parts → CodedData → ℕ → List ℕ
signal_lines c k s =
    coding_line c k s
    ++ (item_lines (values_are_numbers c k s) s (encoding_of k s) ++ initial_line c k s)

abbrev pub signal_list : Parts → CodedData → List ℕ
signal_list c k = flat_map (signal_lines c k) (numbers (length c.signals))
