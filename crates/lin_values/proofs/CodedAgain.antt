-- The value that the text of digits or characters spells is the one with this text.
use Rattle.std.proofs.Common.{◌≡◌, ◌≢◌, ◌<◌, ◌≤◌, ◌+◌, ◌-◌, ◌*◌, ◌/◌, ◌%◌, ◌^◌, ◌==◌, ℕ, zero, suc, Bool, true, false, cond, not, ◌&&◌, List, [], ◌∷◌, ◌++◌, map, flat_map, reverse, length, refl, sym, ap, ◌∙◌, arith, subst}
use Rattle.std.specs.Prelude.{Option, Some, None, min, nat_le, nat_lt, option_and_then, replicate, slice_index}
use Rattle.std.specs.List.{list_all}
use Rattle.std.specs.Option.{option_map, option_map_or}
use Rattle.std.specs.Str.{bytes_eq}
use Rattle.std.proofs.Math.Nat.{div-eq_of_lt}
use Rattle.std.proofs.Math.Pow.{pow_mono}
use Rattle.std.proofs.lemmas.Bool.{eq-eqb, eqb-true}
use Rattle.std.proofs.lemmas.Bool.Decides.{nat_tests}
use Rattle.std.proofs.lemmas.List.{append-nil, reverse-append}
use Rattle.std.proofs.lemmas.Slice.Eq.{bytes_eq-Decides}
use Rattle.lin_frame.specs.declared.value.Value.{Value}
use Rattle.lin_frame.specs.declared.value.Value.TheVariants.{Scalar, Bytes}
use Rattle.lin_values.specs.Coded.{all_codings, item_for, or_else, signal_at, CodedData, SignalCoding}
use Rattle.lin_values.specs.Meaning.{as_digits, bcd_digits, by_item, bytes_of_scalar, digits_meaning, first_some, fours, shown_character, shown_characters, meaning, meaning_by, meaning_in, named_or_number, value_bytes, wide_number, without_front_zeros}
use Rattle.lin_values.specs.Meant.{Meant, Named, Number, Physical, Digits, Letters}
use Rattle.lin_values.specs.Raws.{coded_raws, value_has_text, is_coded, is_plain_from, is_value, is_printable, same_raw}
use Rattle.lin_values.specs.Spelled.{character_array, byte_of, in_quotes, bcd_after, pairs, character_scalar, scalar_within, IsHeld}
use Rattle.lin_values.specs.Shown.{shown}
use Rattle.lin_values.specs.Warnings.{greatest_raw}
use Rattle.lin_values.specs.declared.encoding.Coding.{Coding}
use Rattle.lin_values.specs.declared.encoding.Coding.TheVariants as codings
use Rattle.lin_values.specs.declared.codings.CodingType.{CodingType}
use Rattle.lin_values.specs.declared.codings.Item.{Item}
use Rattle.lin_values.specs.declared.codings.Item.TheVariants as items
use Rattle.lin_values.specs.declared.codings.PlacedItem.{PlacedItem}
use Rattle.lin_values.proofs.Digits.{sixteens}
use Rattle.lin_values.proofs.Letters.{fewer_at-end}
use Rattle.lin_values.proofs.OnlyRaw.{same-value, value-same}
use Rattle.lin_values.proofs.SpelledSteps.{paired}
use Rattle.lin_values.proofs.SpelledValues.{all-small, as-text, both-true, digits-are, first-small, is-digit, number-again, pairs-again, plain-split, rest-small, IsSplit}

-- ---- characters up to zeros at the end

visible-some : (b : ℕ) → is_printable b ≡ true → (b == 0) ≡ false
visible-some b e = grind (arith, nat_tests)

letter-same : (b : ℕ) → is_printable b ≡ true → shown_character b ≡ b
letter-same b e = ap (λ t. cond t b 63) e

some-behind : (xs : List ℕ) (b : ℕ) → (b == 0) ≡ false → without_front_zeros (xs ++ b ∷ []) ≡ without_front_zeros xs ++ b ∷ []
some-behind [] b e = ap (λ t. cond t [] (b ∷ [])) e
some-behind (x ∷ xs) b e = elim (x == 0) as (λ t. cond t (without_front_zeros (xs ++ b ∷ [])) (x ∷ (xs ++ b ∷ [])) ≡ cond t (without_front_zeros xs) (x ∷ xs) ++ b ∷ []) [
  | true ↦ some-behind xs b e
  | false ↦ refl
]

zero-behind : (xs : List ℕ) → without_front_zeros xs ≡ [] → without_front_zeros (xs ++ 0 ∷ []) ≡ []
zero-behind [] e = refl
zero-behind (x ∷ xs) e = elim (x == 0) as (λ t. cond t (without_front_zeros xs) (x ∷ xs) ≡ [] → cond t (without_front_zeros (xs ++ 0 ∷ [])) (x ∷ (xs ++ 0 ∷ [])) ≡ []) [
  | true ↦ zero-behind xs
  | false ↦ λ f. cc
] e

no-letters : (z : ℕ) → without_front_zeros (reverse (replicate z 0)) ≡ []
no-letters zero = refl
no-letters (suc z) = ap without_front_zeros (reverse-append (0 ∷ []) (replicate z 0)) ∙ zero-behind (reverse (replicate z 0)) (no-letters z)

letters-more : (b : ℕ) (bs : List ℕ) → is_printable b ≡ true → shown_characters (b ∷ bs) ≡ b ∷ shown_characters bs
letters-more b bs e =
    let w : List ℕ = without_front_zeros (reverse bs) in
    let a : without_front_zeros (reverse (b ∷ bs)) ≡ w ++ b ∷ [] = ap without_front_zeros (reverse-append (b ∷ []) bs) ∙ some-behind (reverse bs) b (visible-some b e) in
    ap (λ xs. map shown_character (reverse xs)) a ∙ ap (map shown_character) (reverse-append w (b ∷ [])) ∙ ap (λ c. c ∷ map shown_character (reverse w)) (letter-same b e)

pub letters-again : (vs : List ℕ) (z : ℕ) → list_all is_printable vs ≡ true → shown_characters (vs ++ replicate z 0) ≡ vs
letters-again [] z e = ap (λ xs. map shown_character (reverse xs)) (no-letters z)
letters-again (v ∷ vs) z e =
    letters-more v (vs ++ replicate z 0) (first-small (is_printable v) (list_all is_printable vs) e)
    ∙ ap (λ xs. v ∷ xs) (letters-again vs z (rest-small (is_printable v) (list_all is_printable vs) e))

-- ---- what digits and characters come from

abbrev pub IsFrom : SignalCoding → Value → Meant → Type 0
IsFrom g v (Named t) = Unit {0}
IsFrom g v (Number n) = Unit {0}
IsFrom g v (Physical z u) = Unit {0}
IsFrom g v (Digits t) = bcd_digits g v ≡ Some t
IsFrom g v (Letters t) = t ≡ shown_characters (value_bytes g v)

abbrev pub IsFromAny : SignalCoding → Value → Option Meant → Type 0
IsFromAny g v None = Unit {0}
IsFromAny g v (Some m) = IsFrom g v m

from-digits : (g : SignalCoding) (v : Value) (o : Option (List ℕ)) (rest : Option Meant) → bcd_digits g v ≡ o → IsFromAny g v rest → IsFromAny g v (or_else (digits_meaning o) rest)
from-digits g v None rest e h = h
from-digits g v (Some t) rest e h = e

from-codings : (g : SignalCoding) (v : Value) (cs : List Coding) → IsFromAny g v (first_some (meaning_by g v) cs)
from-codings g v [] = tt
from-codings g v (codings.Bcd ∷ cs) = from-digits g v (bcd_digits g v) (first_some (meaning_by g v) cs) refl (from-codings g v cs)
from-codings g v (codings.Ascii ∷ cs) = refl

from-text : (g : SignalCoding) (v : Value) (raw : ℕ) (t : List ℕ) → IsFrom g v (named_or_number raw t)
from-text g v raw [] = tt
from-text g v raw (c ∷ cs) = tt

from-item : (g : SignalCoding) (ps : List PlacedItem) (v : Value) (raw : ℕ) (o : Option Item) → IsFromAny g v (by_item g ps v raw o)
from-item g ps v raw (Some (items.Logical n t)) = from-text g v raw t
from-item g ps v raw (Some (items.Physical from to scale offset u)) = tt
from-item g ps v raw (Some items.Bcd) = tt
from-item g ps v raw (Some items.Ascii) = tt
from-item g ps v raw None = from-codings g v (all_codings ps)

from-in : (g : SignalCoding) (ps : List PlacedItem) (v : Value) → IsFromAny g v (meaning_in g ps v)
from-in g ps (Scalar raw) = from-item g ps (Scalar raw) raw (item_for ps raw)
from-in g ps (Bytes bs) =
    let raw : ℕ = wide_number bs in
    elim g.is_wide as (λ w. IsFromAny g (Bytes bs) (cond w (by_item g ps (Bytes bs) raw (item_for ps raw)) (first_some (meaning_by g (Bytes bs)) (all_codings ps)))) [
      | true ↦ from-item g ps (Bytes bs) raw (item_for ps raw)
      | false ↦ from-codings g (Bytes bs) (all_codings ps)
    ]

from-encoding : (g : SignalCoding) (v : Value) (o : Option CodingType) → IsFromAny g v (option_and_then (λ t. meaning_in g t.items v) o)
from-encoding g v None = tt
from-encoding g v (Some t) = from-in g t.items v

pub from-meaning : (k : CodedData) (s : ℕ) (v : Value) → IsFromAny (signal_at k s) v (meaning k s v)
from-meaning k s v = from-encoding (signal_at k s) v (signal_at k s).encoding

-- ---- the value that is spelled

pub record IsSpelled (bits : ℕ) (array : Bool) (text : List ℕ) (o : Option Value) : Type 0 where
  pub array_letters : array ≡ true → (ls : List ℕ) → text ≡ in_quotes ls → length ls ≤ bits / 8 → bits / 8 ≤ 8 → o ≡ Some (character_array bits ls)
  pub array_digits : array ≡ true → (bs : List ℕ) → slice_index text 0 ≢ 34 → pairs text ≡ Some bs → length bs ≤ bits / 8 → bits / 8 ≤ 8 → o ≡ Some (character_array bits bs)
  pub scalar_letters : array ≡ false → (ls : List ℕ) → text ≡ in_quotes ls → length ls ≤ 2 → o ≡ scalar_within bits (character_scalar ls)
  pub scalar_digits : array ≡ false → (n : ℕ) → slice_index text 0 ≢ 34 → bcd_after 0 text ≡ Some n → length text ≤ 4 → o ≡ scalar_within bits n

within-most : (bits n : ℕ) → n ≤ greatest_raw bits → scalar_within bits n ≡ Some (Scalar n)
within-most bits n h = let e : nat_le n (greatest_raw bits) ≡ true = grind (arith, nat_tests) in ap (λ t. cond t (Some (Scalar n)) None) e

no-quote : (ds : List ℕ) → slice_index (as-text ds) 0 ≢ 34
no-quote [] = λ e. cc
no-quote (d ∷ ds) = λ e. let h : 48 + d ≡ 34 = e in omega arith

few-digits : (bits : ℕ) → (min bits 16 + 3) / 4 ≤ 4
few-digits bits = omega arith

all-above : (bits n : ℕ) → n ≤ greatest_raw bits → n / 16 ^ ((min bits 16 + 3) / 4) ≡ 0
all-above bits n h =
    let k : ℕ = (min bits 16 + 3) / 4 in
    let p : 2 ^ min bits 16 ≤ 2 ^ (4 * k) = pow_mono {j = 4 * k} (omega arith) in
    let some : 2 ^ 0 ≤ 2 ^ min bits 16 = pow_mono {i = 0} {j = min bits 16} (omega arith) in
    let q : 2 ^ (4 * k) ≡ 16 ^ k = sixteens k in
    let lt : n < 16 ^ k = omega arith in
    div-eq_of_lt lt

text-length : (ds : List ℕ) → length (as-text ds) ≡ length ds
text-length [] = refl
text-length (d ∷ ds) = ap suc (text-length ds)

fours-length : (k n : ℕ) → length (fours k n) ≡ k
fours-length zero n = refl
fours-length (suc k) n = ap suc (fours-length k n)

scalar-digits : (bits : ℕ) (text : List ℕ) (o : Option Value) (n : ℕ) → IsSpelled bits false text o → n ≤ greatest_raw bits → as_digits (fours ((min bits 16 + 3) / 4) n) ≡ Some text → o ≡ Some (Scalar n)
scalar-digits bits text o n h le e =
    let k : ℕ = (min bits 16 + 3) / 4 in
    let p : (all-small (fours k n) ≡ true) × (text ≡ as-text (fours k n)) = digits-are (fours k n) text e in
    let number : bcd_after 0 text ≡ Some n = ap (bcd_after 0) p.1 ∙ ap (λ m. bcd_after m (as-text (fours k n))) (sym (all-above bits n le)) ∙ number-again k n p.0 in
    let few : length text ≤ 4 = omega (arith, ap length p.1, text-length (fours k n), fours-length k n, few-digits bits) in
    h.scalar_digits refl n (λ q. no-quote (fours k n) (ap (λ t. slice_index t 0) (sym p.1) ∙ q)) number few ∙ within-most bits n le

none-filled : (bits : ℕ) (bs : List ℕ) → length bs ≡ bits / 8 → character_array bits bs ≡ Bytes bs
none-filled bits bs e =
    let z : bits / 8 - length bs ≡ 0 = omega arith in
    ap (λ m. Bytes (bs ++ replicate m 0)) z ∙ ap Bytes (append-nil bs)

array-digits : (bits : ℕ) (text : List ℕ) (o : Option Value) (bs : List ℕ) → IsSpelled bits true text o → length bs ≡ bits / 8 → length bs ≤ 8 → list_all (λ b. nat_lt b 256) bs ≡ true → as_digits (flat_map (fours 2) bs) ≡ Some text → o ≡ Some (Bytes bs)
array-digits bits text o bs h len le bytes e =
    let ds : List ℕ = flat_map (fours 2) bs in
    let p : (all-small ds ≡ true) × (text ≡ as-text ds) = digits-are ds text e in
    h.array_digits refl bs (λ q. no-quote ds (ap (λ t. slice_index t 0) (sym p.1) ∙ q)) (ap pairs p.1 ∙ pairs-again bs bytes p.0) (omega arith) (omega arith)
    ∙ ap Some (none-filled bits bs len)

zeros-length : (vs : List ℕ) (z : ℕ) → length (vs ++ replicate z 0) ≡ length vs + z
zeros-length [] zero = refl
zeros-length [] (suc z) = omega (arith, zeros-length [] z)
zeros-length (v ∷ vs) z = omega (arith, zeros-length vs z)

array-letters : (bits : ℕ) (text : List ℕ) (o : Option Value) (bs : List ℕ) → IsSpelled bits true text o → length bs ≡ bits / 8 → length bs ≤ 8 → is_plain_from false bs ≡ true → text ≡ in_quotes (shown_characters bs) → o ≡ Some (Bytes bs)
array-letters bits text o bs h len le plain e =
    let split : IsSplit bs = plain-split bs plain in
    let vs : List ℕ = split.0 in
    let z : ℕ = split.1 in
    let same : shown_characters bs ≡ vs = ap shown_characters split.2 ∙ letters-again vs z split.3 in
    let whole : length bs ≡ length vs + z = ap length split.2 ∙ zeros-length vs z in
    let left : bits / 8 - length vs ≡ z = omega arith in
    h.array_letters refl vs (e ∙ ap in_quotes same) (omega arith) (omega arith)
    ∙ ap (λ m. Some (Bytes (vs ++ replicate m 0))) left
    ∙ ap (λ xs. Some (Bytes xs)) (sym split.2)

scalar-zeros : (vs : List ℕ) (z : ℕ) → character_scalar (vs ++ replicate z 0) ≡ character_scalar vs
scalar-zeros [] zero = refl
scalar-zeros [] (suc zero) = refl
scalar-zeros [] (suc (suc z)) = refl
scalar-zeros (a ∷ []) zero = refl
scalar-zeros (a ∷ []) (suc z) = let e : a + 256 * 0 ≡ a = omega arith in e
scalar-zeros (a ∷ b ∷ cs) z = refl

byte-scalar : (bits n : ℕ) → n ≤ greatest_raw bits → nat_lt 8 bits ≡ false → n % 256 ≡ n
byte-scalar bits n le e =
    let few : bits ≤ 8 = grind (arith, nat_tests) in
    let p : 2 ^ min bits 16 ≤ 2 ^ 8 = pow_mono {j = 8} (omega arith) in
    omega arith

bytes-scalar : (bits n : ℕ) → n ≤ greatest_raw bits → character_scalar (bytes_of_scalar n bits) ≡ n
bytes-scalar bits n le =
    elim (nat_lt 8 bits) as (λ b. nat_lt 8 bits ≡ b → character_scalar (cond b (n % 256 ∷ n / 256 ∷ []) (n % 256 ∷ [])) ≡ n) [
      | true ↦ λ e. (let s : n % 256 + 256 * (n / 256) ≡ n = omega arith in s)
      | false ↦ λ e. byte-scalar bits n le e
    ] refl

two-bytes : (bits n : ℕ) → length (bytes_of_scalar n bits) ≤ 2
two-bytes bits n = elim (nat_lt 8 bits) as (λ b. length (cond b (n % 256 ∷ n / 256 ∷ []) (n % 256 ∷ [])) ≤ 2) [ true ↦ omega arith | false ↦ omega arith ]

scalar-letters : (bits : ℕ) (text : List ℕ) (o : Option Value) (n : ℕ) → IsSpelled bits false text o → n ≤ greatest_raw bits → is_plain_from false (bytes_of_scalar n bits) ≡ true → text ≡ in_quotes (shown_characters (bytes_of_scalar n bits)) → o ≡ Some (Scalar n)
scalar-letters bits text o n h le plain e =
    let bs : List ℕ = bytes_of_scalar n bits in
    let split : IsSplit bs = plain-split bs plain in
    let vs : List ℕ = split.0 in
    let z : ℕ = split.1 in
    let same : shown_characters bs ≡ vs = ap shown_characters split.2 ∙ letters-again vs z split.3 in
    let whole : length bs ≡ length vs + z = ap length split.2 ∙ zeros-length vs z in
    let is : character_scalar vs ≡ n = sym (scalar-zeros vs z) ∙ ap character_scalar (sym split.2) ∙ bytes-scalar bits n le in
    h.scalar_letters refl vs (e ∙ ap in_quotes same) (omega (arith, whole, two-bytes bits n))
    ∙ ap (scalar_within bits) is ∙ within-most bits n le

not-array : (b : Bool) → not b ≡ true → b ≡ false
not-array true e = cc
not-array false e = refl

at-most : (a b : ℕ) → nat_le a b ≡ true → a ≤ b
at-most a b e = grind (arith, nat_tests)

none-coded : {A : Type 0} → false ≡ true → A
none-coded e = absurd (let no : false ≡ true = e in cc)

scalar-by : (k : CodedData) (s : ℕ) (text : List ℕ) (o : Option Value) → IsSpelled (signal_at k s).bits (signal_at k s).is_array text o → (n : ℕ) → is_value k s (Scalar n) ≡ true
    → (m : Meant) → IsFrom (signal_at k s) (Scalar n) m → is_coded m && value_has_text k s text (Scalar n) m ≡ true → o ≡ Some (Scalar n)
scalar-by k s text o h n value (Named t) from e = none-coded e
scalar-by k s text o h n value (Number i) from e = none-coded e
scalar-by k s text o h n value (Physical z u) from e = none-coded e
scalar-by k s text o h n value (Digits t) from e =
    let bits : ℕ = (signal_at k s).bits in
    let array : (signal_at k s).is_array ≡ false = not-array (signal_at k s).is_array (first-small (not (signal_at k s).is_array) (nat_le n (greatest_raw bits)) value) in
    let le : n ≤ greatest_raw bits = at-most n (greatest_raw bits) (rest-small (not (signal_at k s).is_array) (nat_le n (greatest_raw bits)) value) in
    let same : text ≡ t = (bytes_eq-Decides text t).0 (first-small (bytes_eq text t) true e) in
    scalar-digits bits text o n (subst (λ a. IsSpelled bits a text o) array h) le (from ∙ ap Some (sym same))
scalar-by k s text o h n value (Letters t) from e =
    let bits : ℕ = (signal_at k s).bits in
    let plain : Bool = is_plain_from false (bytes_of_scalar n bits) in
    let array : (signal_at k s).is_array ≡ false = not-array (signal_at k s).is_array (first-small (not (signal_at k s).is_array) (nat_le n (greatest_raw bits)) value) in
    let le : n ≤ greatest_raw bits = at-most n (greatest_raw bits) (rest-small (not (signal_at k s).is_array) (nat_le n (greatest_raw bits)) value) in
    let same : text ≡ in_quotes t = (bytes_eq-Decides text (in_quotes t)).0 (first-small (bytes_eq text (in_quotes t)) plain e) in
    scalar-letters bits text o n (subst (λ a. IsSpelled bits a text o) array h) le (rest-small (bytes_eq text (in_quotes t)) plain e) (same ∙ ap in_quotes from)

pub record IsArray (g : SignalCoding) (bs : List ℕ) : Type 0 where
  pub array : g.is_array ≡ true
  pub long : length bs ≡ g.bits / 8
  pub few : length bs ≤ 8
  pub bytes : list_all (λ b. nat_lt b 256) bs ≡ true

is-array : (k : CodedData) (s : ℕ) (bs : List ℕ) → is_value k s (Bytes bs) ≡ true → IsArray (signal_at k s) bs
is-array k s bs e =
    let long : Bool = length bs == (signal_at k s).bits / 8 in
    let few : Bool = nat_le (length bs) 8 in
    let bytes : Bool = list_all (λ b. nat_lt b 256) bs in
    let narrow : Bool = not (signal_at k s).is_wide in
    let more : long && (few && bytes) ≡ true = rest-small narrow (long && (few && bytes)) (rest-small (signal_at k s).is_array (narrow && (long && (few && bytes))) e) in
    let last : few && bytes ≡ true = rest-small long (few && bytes) more in
    record {
      array = first-small (signal_at k s).is_array (narrow && (long && (few && bytes))) e;
      long = eqb-true (length bs) ((signal_at k s).bits / 8) (first-small long (few && bytes) more);
      few = at-most (length bs) 8 (first-small few bytes last);
      bytes = rest-small few bytes last;
    }

array-by : (k : CodedData) (s : ℕ) (text : List ℕ) (o : Option Value) → IsSpelled (signal_at k s).bits (signal_at k s).is_array text o → (bs : List ℕ) → IsArray (signal_at k s) bs
    → (m : Meant) → IsFrom (signal_at k s) (Bytes bs) m → is_coded m && value_has_text k s text (Bytes bs) m ≡ true → o ≡ Some (Bytes bs)
array-by k s text o h bs is (Named t) from e = none-coded e
array-by k s text o h bs is (Number i) from e = none-coded e
array-by k s text o h bs is (Physical z u) from e = none-coded e
array-by k s text o h bs is (Digits t) from e =
    let bits : ℕ = (signal_at k s).bits in
    let same : text ≡ t = (bytes_eq-Decides text t).0 (first-small (bytes_eq text t) true e) in
    array-digits bits text o bs (subst (λ a. IsSpelled bits a text o) is.array h) is.long is.few is.bytes (from ∙ ap Some (sym same))
array-by k s text o h bs is (Letters t) from e =
    let bits : ℕ = (signal_at k s).bits in
    let plain : Bool = is_plain_from false bs in
    let same : text ≡ in_quotes t = (bytes_eq-Decides text (in_quotes t)).0 (first-small (bytes_eq text (in_quotes t)) plain e) in
    array-letters bits text o bs (subst (λ a. IsSpelled bits a text o) is.array h) is.long is.few (rest-small (bytes_eq text (in_quotes t)) plain e) (same ∙ ap in_quotes from)

value-by : (k : CodedData) (s : ℕ) (text : List ℕ) (o : Option Value) → IsSpelled (signal_at k s).bits (signal_at k s).is_array text o → (v : Value) → is_value k s v ≡ true
    → (m : Meant) → IsFrom (signal_at k s) v m → is_coded m && value_has_text k s text v m ≡ true → o ≡ Some v
value-by k s text o h (Scalar n) value = scalar-by k s text o h n value
value-by k s text o h (Bytes bs) value = array-by k s text o h bs (is-array k s bs value)

any-by : (k : CodedData) (s : ℕ) (text : List ℕ) (o : Option Value) → IsSpelled (signal_at k s).bits (signal_at k s).is_array text o → (v : Value) → is_value k s v ≡ true
    → (m : Option Meant) → IsFromAny (signal_at k s) v m → option_map_or (λ m. is_coded m && value_has_text k s text v m) m false ≡ true → o ≡ Some v
any-by k s text o h v value None from e = none-coded e
any-by k s text o h v value (Some m) from e = value-by k s text o h v value m from e

-- the value with the text is the one that it spells
pub spelled : (k : CodedData) (s : ℕ) (text : List ℕ) (o : Option Value) → IsSpelled (signal_at k s).bits (signal_at k s).is_array text o → (v : Value) → coded_raws k s text v ≡ true → o ≡ Some v
spelled k s text o h v e =
    let test : Bool = option_map_or (λ m. is_coded m && value_has_text k s text v m) (meaning k s v) false in
    any-by k s text o h v (first-small (is_value k s v) test e) (meaning k s v) (from-meaning k s v) (rest-small (is_value k s v) test e)

-- ---- the value that is spelled has the text

zeros-plain : (z : ℕ) → is_plain_from true (replicate z 0) ≡ true
zeros-plain zero = refl
zeros-plain (suc z) = zeros-plain z

plain-again : (vs : List ℕ) (z : ℕ) → list_all is_printable vs ≡ true → is_plain_from false (vs ++ replicate z 0) ≡ true
plain-again [] zero e = refl
plain-again [] (suc z) e = zeros-plain z
plain-again (v ∷ vs) z e =
    let here : is_printable v ≡ true = first-small (is_printable v) (list_all is_printable vs) e in
    let rest : is_plain_from false (vs ++ replicate z 0) ≡ true = plain-again vs z (rest-small (is_printable v) (list_all is_printable vs) e) in
    ap (λ t. cond t (is_plain_from true (vs ++ replicate z 0)) (cond false false (is_printable v && is_plain_from false (vs ++ replicate z 0)))) (visible-some v here)
    ∙ both-true (is_printable v) (is_plain_from false (vs ++ replicate z 0)) here rest

letter-visible : (b : ℕ) → is_printable (shown_character b) ≡ true
letter-visible b = elim (is_printable b) as (λ t. is_printable b ≡ t → is_printable (cond t b 63) ≡ true) [
  | true ↦ λ e. e
  | false ↦ λ e. refl
] refl

letters-visible : (xs : List ℕ) → list_all is_printable (map shown_character xs) ≡ true
letters-visible [] = refl
letters-visible (x ∷ xs) = both-true (is_printable (shown_character x)) (list_all is_printable (map shown_character xs)) (letter-visible x) (letters-visible xs)

map-length : (f : ℕ → ℕ) (xs : List ℕ) → length (map f xs) ≡ length xs
map-length f [] = refl
map-length f (x ∷ xs) = omega (arith, map-length f xs)

letters-few : (bs : List ℕ) → length (shown_characters bs) ≤ length bs
letters-few bs = omega (arith, map-length shown_character (reverse (without_front_zeros (reverse bs))), fewer_at-end bs)

visible-byte : (b : ℕ) → is_printable b ≡ true → b < 256
visible-byte b e = grind (arith, nat_tests)

abbrev IsFilled : List ℕ → List ℕ → Type 0
IsFilled t bs = (z : ℕ) × (bs ≡ t ++ replicate z 0)

one-byte : (t : List ℕ) → list_all is_printable t ≡ true → length t ≤ 1 → IsFilled t (character_scalar t % 256 ∷ [])
one-byte [] e le = (1, refl)
one-byte (a ∷ []) e le =
    let lt : a < 256 = visible-byte a (first-small (is_printable a) true e) in
    let same : a % 256 ≡ a = omega arith in
    (0, ap (λ x. x ∷ []) same)
one-byte (a ∷ b ∷ cs) e le = absurd (omega arith)

both-bytes : (t : List ℕ) → list_all is_printable t ≡ true → length t ≤ 2 → IsFilled t (character_scalar t % 256 ∷ character_scalar t / 256 ∷ [])
both-bytes [] e le = (2, refl)
both-bytes (a ∷ []) e le =
    let lt : a < 256 = visible-byte a (first-small (is_printable a) true e) in
    let low : a % 256 ≡ a = omega arith in
    let high : a / 256 ≡ 0 = omega arith in
    (1, ap (λ x. x ∷ a / 256 ∷ []) low ∙ ap (λ x. a ∷ x ∷ []) high)
both-bytes (a ∷ b ∷ []) e le =
    let lt : a < 256 = visible-byte a (first-small (is_printable a) (is_printable b && true) e) in
    let low : (a + 256 * b) % 256 ≡ a = omega arith in
    let high : (a + 256 * b) / 256 ≡ b = omega arith in
    (0, ap (λ x. x ∷ (a + 256 * b) / 256 ∷ []) low ∙ ap (λ x. a ∷ x ∷ []) high)
both-bytes (a ∷ b ∷ c ∷ cs) e le = absurd (omega arith)

scalar-filled : (bits : ℕ) (t : List ℕ) (n : ℕ) → list_all is_printable t ≡ true → n ≡ character_scalar t → length t ≤ length (bytes_of_scalar n bits) → IsFilled t (bytes_of_scalar n bits)
scalar-filled bits t n e same le =
    elim (nat_lt 8 bits) as (λ b. length t ≤ length (cond b (n % 256 ∷ n / 256 ∷ []) (n % 256 ∷ [])) → IsFilled t (cond b (n % 256 ∷ n / 256 ∷ []) (n % 256 ∷ []))) [
      | true ↦ λ l. subst (λ m. IsFilled t (m % 256 ∷ m / 256 ∷ [])) (sym same) (both-bytes t e l)
      | false ↦ λ l. subst (λ m. IsFilled t (m % 256 ∷ [])) (sym same) (one-byte t e l)
    ] le

filled-plain : (t bs : List ℕ) → list_all is_printable t ≡ true → IsFilled t bs → is_plain_from false bs ≡ true
filled-plain t bs e f = ap (is_plain_from false) f.1 ∙ plain-again t f.0 e

within-scalar : (bits m n : ℕ) → scalar_within bits m ≡ Some (Scalar n) → n ≡ m
within-scalar bits m n e = elim (nat_le m (greatest_raw bits)) as (λ b. cond b (Some (Scalar m)) None ≡ Some (Scalar n) → n ≡ m) [
  | true ↦ λ f. cc
  | false ↦ λ f. cc
] e

letters-plain : (g : SignalCoding) (text : List ℕ) (o : Option Value) → IsSpelled g.bits g.is_array text o → (v : Value) → o ≡ Some v → IsHeld g.bits g.is_array v → length (value_bytes g v) ≤ 8
    → text ≡ in_quotes (shown_characters (value_bytes g v)) → is_plain_from false (value_bytes g v) ≡ true
letters-plain g text o h (Scalar n) is held few e =
    let bs : List ℕ = bytes_of_scalar n g.bits in
    let t : List ℕ = shown_characters bs in
    let seen : list_all is_printable t ≡ true = letters-visible (reverse (without_front_zeros (reverse bs))) in
    let le : length t ≤ 2 = omega (arith, letters-few bs, two-bytes g.bits n) in
    let same : n ≡ character_scalar t = within-scalar g.bits (character_scalar t) n (sym (h.scalar_letters held.0 t e le) ∙ is) in
    filled-plain t bs seen (scalar-filled g.bits t n seen same (letters-few bs))
letters-plain g text o h (Bytes bs) is held few e =
    let t : List ℕ = shown_characters bs in
    let z : ℕ = g.bits / 8 - length t in
    let seen : list_all is_printable t ≡ true = letters-visible (reverse (without_front_zeros (reverse bs))) in
    let p : length bs ≡ g.bits / 8 = held.1 in
    let found : o ≡ Some (character_array g.bits t) = h.array_letters held.0 t e (omega (arith, letters-few bs, p)) (omega (arith, p, few)) in
    let same : bs ≡ t ++ replicate z 0 = cc in
    filled-plain t bs seen (z, same)

text-here : (k : CodedData) (s : ℕ) (text : List ℕ) (o : Option Value) → IsSpelled (signal_at k s).bits (signal_at k s).is_array text o → (v : Value) → o ≡ Some v → IsHeld (signal_at k s).bits (signal_at k s).is_array v → length (value_bytes (signal_at k s) v) ≤ 8
    → (m : Meant) → IsFrom (signal_at k s) v m → is_coded m ≡ true → text ≡ shown m → is_coded m && value_has_text k s text v m ≡ true
text-here k s text o h v is held few (Named t) from c e = none-coded c
text-here k s text o h v is held few (Number n) from c e = none-coded c
text-here k s text o h v is held few (Physical z u) from c e = none-coded c
text-here k s text o h v is held few (Digits t) from c e = both-true (bytes_eq text t) true ((bytes_eq-Decides text t).1 e) refl
text-here k s text o h v is held few (Letters t) from c e =
    both-true (bytes_eq text (in_quotes t)) (is_plain_from false (value_bytes (signal_at k s) v)) ((bytes_eq-Decides text (in_quotes t)).1 e)
    (letters-plain (signal_at k s) text o h v is held few (e ∙ ap in_quotes from))

few-bytes : (g : SignalCoding) (v : Value) → IsHeld g.bits g.is_array v → length (value_bytes g v) ≤ 8
few-bytes g (Scalar n) held = omega (arith, two-bytes g.bits n)
few-bytes g (Bytes bs) held = held.2

two-digits : (b : ℕ) → byte_of (48 + (b / 16 ^ 1) % 16) (48 + (b / 16 ^ 0) % 16) ≡ b % 256
two-digits b = omega arith

pairs-of : (bs : List ℕ) → all-small (flat_map (fours 2) bs) ≡ true → pairs (as-text (flat_map (fours 2) bs)) ≡ Some (map (λ b. b % 256) bs)
pairs-of [] small = refl
pairs-of (b ∷ bs) small =
    let high : ℕ = (b / 16 ^ 1) % 16 in
    let low : ℕ = (b / 16 ^ 0) % 16 in
    let rest : List ℕ = flat_map (fours 2) bs in
    let more : nat_lt low 10 && all-small rest ≡ true = rest-small (nat_lt high 10) (nat_lt low 10 && all-small rest) small in
    paired (48 + high) (48 + low) (as-text rest) (is-digit high (first-small (nat_lt high 10) (nat_lt low 10 && all-small rest) small)) (is-digit low (first-small (nat_lt low 10) (all-small rest) more))
    ∙ ap (λ x. option_map (λ cs. x ∷ cs) (pairs (as-text rest))) (two-digits b)
    ∙ ap (option_map (λ cs. b % 256 ∷ cs)) (pairs-of bs (rest-small (nat_lt low 10) (all-small rest) more))

abbrev all-bytes : List ℕ → Bool
all-bytes bs = list_all (λ b. nat_lt b 256) bs

byte-rest : (b : ℕ) → nat_lt (b % 256) 256 ≡ true
byte-rest b = let lt : b % 256 < 256 = omega arith in grind (arith, nat_tests)

rests-small : (bs : List ℕ) → all-bytes (map (λ b. b % 256) bs) ≡ true
rests-small [] = refl
rests-small (b ∷ bs) = both-true (nat_lt (b % 256) 256) (all-bytes (map (λ c. c % 256) bs)) (byte-rest b) (rests-small bs)

filled-small : (vs : List ℕ) (z : ℕ) → list_all is_printable vs ≡ true → all-bytes (vs ++ replicate z 0) ≡ true
filled-small [] zero e = refl
filled-small [] (suc z) e = filled-small [] z e
filled-small (v ∷ vs) z e =
    let lt : v < 256 = visible-byte v (first-small (is_printable v) (list_all is_printable vs) e) in
    let small : nat_lt v 256 ≡ true = grind (arith, nat_tests) in
    both-true (nat_lt v 256) (all-bytes (vs ++ replicate z 0)) small (filled-small vs z (rest-small (is_printable v) (list_all is_printable vs) e))

bytes-small : (g : SignalCoding) (text : List ℕ) (o : Option Value) → IsSpelled g.bits g.is_array text o → (bs : List ℕ) → o ≡ Some (Bytes bs) → IsHeld g.bits g.is_array (Bytes bs)
    → (m : Meant) → IsFrom g (Bytes bs) m → is_coded m ≡ true → text ≡ shown m → all-bytes bs ≡ true
bytes-small g text o h bs is held (Named t) from c e = none-coded c
bytes-small g text o h bs is held (Number n) from c e = none-coded c
bytes-small g text o h bs is held (Physical z u) from c e = none-coded c
bytes-small g text o h bs is held (Digits t) from c e =
    let ds : List ℕ = flat_map (fours 2) bs in
    let cs : List ℕ = map (λ b. b % 256) bs in
    let p : (all-small ds ≡ true) × (text ≡ as-text ds) = digits-are ds text (from ∙ ap Some (sym e)) in
    let long : length cs ≡ g.bits / 8 = map-length (λ b. b % 256) bs ∙ held.1 in
    let few : g.bits / 8 ≤ 8 = omega (arith, held.1, held.2) in
    let found : o ≡ Some (character_array g.bits cs) = h.array_digits held.0 cs (λ q. no-quote ds (ap (λ t. slice_index t 0) (sym p.1) ∙ q)) (ap pairs p.1 ∙ pairs-of bs p.0) (omega (arith, long)) few in
    let both : Some (Bytes bs) ≡ Some (Bytes cs) = sym is ∙ found ∙ ap Some (none-filled g.bits cs long) in
    let same : bs ≡ cs = cc in
    ap all-bytes same ∙ rests-small bs
bytes-small g text o h bs is held (Letters t) from c e =
    let split : IsSplit bs = plain-split bs (letters-plain g text o h (Bytes bs) is held held.2 (e ∙ ap in_quotes from)) in
    ap all-bytes split.2 ∙ filled-small split.0 split.1 split.3

held-value : (k : CodedData) (s : ℕ) (text : List ℕ) (o : Option Value) → IsSpelled (signal_at k s).bits (signal_at k s).is_array text o → (v : Value) → o ≡ Some v → IsHeld (signal_at k s).bits (signal_at k s).is_array v
    → (m : Meant) → IsFrom (signal_at k s) v m → is_coded m ≡ true → text ≡ shown m → ((signal_at k s).is_array ≡ true → (signal_at k s).is_wide ≡ false) → is_value k s v ≡ true
held-value k s text o h (Scalar n) is held m from c e narrow =
    let le : n ≤ greatest_raw (signal_at k s).bits = held.1 in
    both-true (not (signal_at k s).is_array) (nat_le n (greatest_raw (signal_at k s).bits)) (ap not held.0) (grind (arith, nat_tests))
held-value k s text o h (Bytes bs) is held m from c e narrow =
    let long : Bool = length bs == (signal_at k s).bits / 8 in
    let le : length bs ≤ 8 = held.2 in
    let small : nat_le (length bs) 8 ≡ true = grind (arith, nat_tests) in
    both-true (signal_at k s).is_array (not (signal_at k s).is_wide && (long && (nat_le (length bs) 8 && all-bytes bs))) held.0 (both-true (not (signal_at k s).is_wide) (long && (nat_le (length bs) 8 && all-bytes bs)) (ap not (narrow held.0)) (both-true long (nat_le (length bs) 8 && all-bytes bs) (eq-eqb (length bs) ((signal_at k s).bits / 8) held.1) (both-true (nat_le (length bs) 8) (all-bytes bs) small (bytes-small (signal_at k s) text o h bs is held m from c e))))

pub spelled-has : (k : CodedData) (s : ℕ) (text : List ℕ) (o : Option Value) → IsSpelled (signal_at k s).bits (signal_at k s).is_array text o → (v : Value) → o ≡ Some v → IsHeld (signal_at k s).bits (signal_at k s).is_array v
    → (m : Meant) → meaning k s v ≡ Some m → is_coded m ≡ true → text ≡ shown m → ((signal_at k s).is_array ≡ true → (signal_at k s).is_wide ≡ false) → coded_raws k s text v ≡ true
spelled-has k s text o h v is held m e c same narrow =
    let from : IsFrom (signal_at k s) v m = subst (IsFromAny (signal_at k s) v) e (from-meaning k s v) in
    both-true (is_value k s v) (option_map_or (λ m. is_coded m && value_has_text k s text v m) (meaning k s v) false) (held-value k s text o h v is held m from c same narrow)
    (ap (λ o. option_map_or (λ m. is_coded m && value_has_text k s text v m) o false) e ∙ text-here k s text o h v is held (few-bytes (signal_at k s) v held) m from c same)

-- ---- what is found

fails-both : (a : Bool) → a && false ≡ false
fails-both true = refl
fails-both false = refl

pub narrow-by : (array wide : Bool) → array ≡ true → array && wide ≡ false → wide ≡ false
narrow-by true wide e f = f
narrow-by false wide e f = absurd (let no : false ≡ true = e in cc)

-- of a wide signal nothing is
pub wide-found : (k : CodedData) (s : ℕ) (text : List ℕ) → (signal_at k s).is_array ≡ true → (signal_at k s).is_wide ≡ true → (v : Value) → false ≡ coded_raws k s text v
wide-found k s text array wide (Scalar n) =
    ap (λ a. (not a && nat_le n (greatest_raw (signal_at k s).bits)) && option_map_or (λ m. is_coded m && value_has_text k s text (Scalar n) m) (meaning k s (Scalar n)) false) (sym array)
wide-found k s text array wide (Bytes bs) =
    ap (λ b. b && option_map_or (λ m. is_coded m && value_has_text k s text (Bytes bs) m) (meaning k s (Bytes bs)) false)
    (sym (fails-both (signal_at k s).is_array)
    ∙ ap (λ w. (signal_at k s).is_array && (not w && (length bs == (signal_at k s).bits / 8 && (nat_le (length bs) 8 && list_all (λ b. nat_lt b 256) bs)))) (sym wide))

pub for-signal : (bits own : ℕ) (array one : Bool) (text : List ℕ) (o : Option Value) → bits ≡ own → array ≡ one → IsSpelled bits array text o → IsSpelled own one text o
for-signal bits own array one text o e f h = subst (λ b. IsSpelled b one text o) e (subst (λ a. IsSpelled bits a text o) f h)

pub none-found : (k : CodedData) (s : ℕ) (text : List ℕ) (o : Option Value) → IsSpelled (signal_at k s).bits (signal_at k s).is_array text o → o ≡ None → (v : Value) → false ≡ coded_raws k s text v
none-found k s text o h is v = elim (coded_raws k s text v) as (λ b. coded_raws k s text v ≡ b → false ≡ b) [
  | true ↦ λ e. (let some : o ≡ Some v = spelled k s text o h v e in absurd (let no : None ≡ Some v = sym is ∙ some in cc))
  | false ↦ λ e. refl
] refl

pub other-found : (k : CodedData) (s : ℕ) (text : List ℕ) (o : Option Value) → IsSpelled (signal_at k s).bits (signal_at k s).is_array text o → (w : Value) → o ≡ Some w → coded_raws k s text w ≡ false → (v : Value) → false ≡ coded_raws k s text v
other-found k s text o h w is none v = elim (coded_raws k s text v) as (λ b. coded_raws k s text v ≡ b → false ≡ b) [
  | true ↦ λ e. (let both : Some w ≡ Some v = sym is ∙ spelled k s text o h v e in
      let same : w ≡ v = cc in
      sym none ∙ ap (coded_raws k s text) same ∙ e)
  | false ↦ λ e. refl
] refl

pub one-found : (k : CodedData) (s : ℕ) (text : List ℕ) (o : Option Value) → IsSpelled (signal_at k s).bits (signal_at k s).is_array text o → (w : Value) → o ≡ Some w → coded_raws k s text w ≡ true → (v : Value) → same_raw w v ≡ coded_raws k s text v
one-found k s text o h w is here v = elim (same_raw w v) as (λ a. same_raw w v ≡ a → a ≡ coded_raws k s text v) [
  | true ↦ λ e. sym (sym (ap (coded_raws k s text) (same-value w v e)) ∙ here)
  | false ↦ λ e. elim (coded_raws k s text v) as (λ b. coded_raws k s text v ≡ b → false ≡ b) [
    | true ↦ λ f. (let both : Some w ≡ Some v = sym is ∙ spelled k s text o h v f in
        let same : w ≡ v = cc in
        sym e ∙ ap (same_raw w) (sym same) ∙ value-same w)
    | false ↦ λ f. refl
  ] refl
] refl

not-by : (k : CodedData) (s : ℕ) (text : List ℕ) (v : Value) (o : Option Meant) → option_map_or is_coded o false ≡ false → option_map_or (λ m. is_coded m && value_has_text k s text v m) o false ≡ false
not-by k s text v None e = refl
not-by k s text v (Some m) e = ap (λ b. b && value_has_text k s text v m) e

pub not-coded : (k : CodedData) (s : ℕ) (text : List ℕ) (v : Value) → option_map_or is_coded (meaning k s v) false ≡ false → coded_raws k s text v ≡ false
not-coded k s text v e = ap (λ b. is_value k s v && b) (not-by k s text v (meaning k s v) e) ∙ fails-both (is_value k s v)

other-by : (k : CodedData) (s : ℕ) (text : List ℕ) (v : Value) (m : Meant) → is_coded m ≡ true → bytes_eq text (shown m) ≡ false → is_coded m && value_has_text k s text v m ≡ false
other-by k s text v (Named t) c e = refl
other-by k s text v (Number n) c e = refl
other-by k s text v (Physical z u) c e = refl
other-by k s text v (Digits t) c e = ap (λ b. b && true) e
other-by k s text v (Letters t) c e = ap (λ b. b && is_plain_from false (value_bytes (signal_at k s) v)) e

pub other-text : (k : CodedData) (s : ℕ) (text : List ℕ) (v : Value) (m : Meant) → meaning k s v ≡ Some m → is_coded m ≡ true → bytes_eq text (shown m) ≡ false → coded_raws k s text v ≡ false
other-text k s text v m is c e =
    ap (λ o. is_value k s v && option_map_or (λ m. is_coded m && value_has_text k s text v m) o false) is
    ∙ ap (λ b. is_value k s v && b) (other-by k s text v m c e) ∙ fails-both (is_value k s v)

pub turned : (xs ys : List ℕ) → bytes_eq xs ys ≡ bytes_eq ys xs
turned xs ys = elim (bytes_eq xs ys) as (λ a. bytes_eq xs ys ≡ a → a ≡ bytes_eq ys xs) [
  | true ↦ λ e. sym ((bytes_eq-Decides ys xs).1 (sym ((bytes_eq-Decides xs ys).0 e)))
  | false ↦ λ e. elim (bytes_eq ys xs) as (λ b. bytes_eq ys xs ≡ b → false ≡ b) [
    | true ↦ λ f. sym e ∙ (bytes_eq-Decides xs ys).1 (sym ((bytes_eq-Decides ys xs).0 f))
    | false ↦ λ f. refl
  ] refl
] refl
