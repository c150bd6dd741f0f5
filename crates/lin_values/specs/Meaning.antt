-- What a raw value of a signal means, the first that holds (LIN 2.2A, section 9.2.6.1).
use Rattle.std.specs.Prelude.{ℕ, zero, suc, ◌+◌, ◌*◌, ◌/◌, ◌%◌, ◌^◌, ◌==◌, ◌&&◌, Bool, List, [], ◌∷◌}
use Rattle.std.specs.Prelude.{map, flat_map, reverse, Option, Some, None, nat_le, nat_lt, min}
use Rattle.std.specs.Prelude.{◌≡◌, ◌⊎◌, true, if◌then◌else◌, option_and_then}
use Rattle.std.specs.List.{list_all}
use lib.IntN.{pos, ◌+ℤ◌, ◌*ℤ◌}
use Rattle.lin_frame.specs.declared.value.Value.{Value}
use Rattle.lin_frame.specs.declared.value.Value.TheVariants.{Scalar, Bytes}
use Rattle.lin_values.specs.Coded.{all_codings, has_value, in_range, item_for, or_else, signal_at, CodedData, SignalCoding}
use Rattle.lin_values.specs.Meant.{Meant, Named, Number, Physical, Digits, Letters}
use Rattle.lin_values.specs.Value.{scaled_value}
use Rattle.lin_values.specs.declared.coded.CodedSignal.{CodedSignal}
use Rattle.lin_values.specs.declared.encoding.Coding.{Coding}
use Rattle.lin_values.specs.declared.encoding.Coding.TheVariants as codings
use Rattle.lin_values.specs.declared.codings.Item.{Item}
use Rattle.lin_values.specs.declared.codings.Item.TheVariants as items
use Rattle.lin_values.specs.declared.codings.PlacedItem.{PlacedItem}
use Rattle.lin_values.specs.declared.meaning.Meaning.{Meaning}
use Rattle.lin_values.specs.declared.meaning.Meaning.TheVariants as meanings

-- what the code's meaning stands for
abbrev pub meant : Meaning → Meant
meant (meanings.Named text) = Named text.now
meant (meanings.Number n) = Number n
meant (meanings.Physical units unit) = Physical units unit.now
meant (meanings.Digits digits) = Digits digits.items
meant (meanings.Letters letters) = Letters letters.items

-- a signal as code has it, without its encoding
abbrev pub plain_signal : CodedSignal → SignalCoding
plain_signal s =
    record { bits = s.bits; is_array = s.is_array; is_wide = s.is_wide; encoding = None }

-- ---- 1 and 2: of scalars and of wide signals

-- the number of a wide signal: the sum of its bytes times 256 ^ k
abbrev pub wide_number : List ℕ → ℕ
wide_number [] = 0
wide_number (b ∷ bs) = b + 256 * wide_number bs

abbrev pub named_or_number : ℕ → List ℕ → Meant
named_or_number raw [] = Number raw
named_or_number raw (c ∷ cs) = Named (c ∷ cs)

abbrev pub numeric_meaning : Item → ℕ → Option Meant
numeric_meaning (items.Logical v text) raw = Some (named_or_number raw text)
numeric_meaning (items.Physical from to scale offset unit) raw =
    Some (Physical (pos raw *ℤ scaled_value scale +ℤ scaled_value offset) unit)
numeric_meaning items.Bcd raw = None
numeric_meaning items.Ascii raw = None

-- an item that may count for a number: a value or a range that has it
abbrev pub CountsFor : ℕ → Item → Type 0
CountsFor n i = (has_value n i ≡ true) ⊎ (in_range n i ≡ true)

-- ---- 3: digits and characters

-- so many hexadecimal digits, the highest first
abbrev pub fours : ℕ → ℕ → List ℕ
fours zero n = []
fours (suc k) n = (n / 16 ^ k) % 16 ∷ fours k n

-- as characters, where all are 0 to 9
abbrev pub as_digits : List ℕ → Option (List ℕ)
as_digits ds = if list_all (λ d. nat_lt d 10) ds then Some (map (λ d. 48 + d) ds) else None

abbrev pub digits_of_scalar : ℕ → ℕ → Option (List ℕ)
digits_of_scalar raw bits = as_digits (fours ((min bits 16 + 3) / 4) raw)

abbrev pub bcd_digits : SignalCoding → Value → Option (List ℕ)
bcd_digits s (Scalar raw) = digits_of_scalar raw s.bits
bcd_digits s (Bytes bs) = as_digits (flat_map (fours 2) bs)

-- the lowest first, as many as so many bits need
abbrev pub bytes_of_scalar : ℕ → ℕ → List ℕ
bytes_of_scalar raw bits = if nat_lt 8 bits then raw % 256 ∷ raw / 256 ∷ [] else raw % 256 ∷ []

abbrev pub without_front_zeros : List ℕ → List ℕ
without_front_zeros [] = []
without_front_zeros (b ∷ bs) = if b == 0 then without_front_zeros bs else b ∷ bs

abbrev pub shown_character : ℕ → ℕ
shown_character b = if nat_le 0x20 b && nat_le b 0x7E then b else 63

-- without 00 at the end
abbrev pub shown_characters : List ℕ → List ℕ
shown_characters bs = map shown_character (reverse (without_front_zeros (reverse bs)))

abbrev pub value_bytes : SignalCoding → Value → List ℕ
value_bytes s (Scalar raw) = bytes_of_scalar raw s.bits
value_bytes s (Bytes bs) = bs

abbrev pub digits_meaning : Option (List ℕ) → Option Meant
digits_meaning None = None
digits_meaning (Some ds) = Some (Digits ds)

abbrev pub meaning_by : SignalCoding → Value → Coding → Option Meant
meaning_by s v codings.Bcd = digits_meaning (bcd_digits s v)
meaning_by s v codings.Ascii = Some (Letters (shown_characters (value_bytes s v)))

-- the first that there is
abbrev pub first_some : {A B : Type 0} → (A → Option B) → List A → Option B
first_some f [] = None
first_some f (x ∷ xs) = or_else (f x) (first_some f xs)

abbrev pub coded_meaning : SignalCoding → List PlacedItem → Value → Option Meant
coded_meaning s ps v = first_some (meaning_by s v) (all_codings ps)

-- ---- all

-- the number of a scalar, or of a wide signal
abbrev pub raw_number : Bool → Value → Option ℕ
raw_number is_wide (Scalar raw) = Some raw
raw_number is_wide (Bytes bs) = if is_wide then Some (wide_number bs) else None

abbrev pub by_item : SignalCoding → List PlacedItem → Value → ℕ → Option Item → Option Meant
by_item s ps v raw (Some i) = numeric_meaning i raw
by_item s ps v raw None = coded_meaning s ps v

abbrev pub meaning_in : SignalCoding → List PlacedItem → Value → Option Meant
meaning_in s ps (Scalar raw) = by_item s ps (Scalar raw) raw (item_for ps raw)
meaning_in s ps (Bytes bs) =
    if s.is_wide then by_item s ps (Bytes bs) (wide_number bs) (item_for ps (wide_number bs))
    else coded_meaning s ps (Bytes bs)

abbrev pub meaning_of : SignalCoding → Value → Option Meant
meaning_of s v = option_and_then (λ t. meaning_in s t.items v) s.encoding

abbrev pub meaning : CodedData → ℕ → Value → Option Meant
meaning k s v = meaning_of (signal_at k s) v

-- the same, where what signals mean is told
abbrev pub meaning_if_coded : Option CodedData → ℕ → Value → Option Meant
meaning_if_coded k s v = option_and_then (λ d. meaning d s v) k
