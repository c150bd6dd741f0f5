-- The raw values that are looked for, and those of the ways back.
use Rattle.std.proofs.Common.{◌≡◌, ◌⊎◌, ◌<◌, ◌≤◌, ◌-◌, ◌*◌, ◌/◌, ◌^◌, ◌==◌, ℕ, Bool, true, false, cond, not, ◌&&◌, ◌||◌, List, [], ◌∷◌, length, refl, sym, ap, ◌∙◌, inl, inr, arith}
use Rattle.std.specs.Prelude.{ℤ, ◌-ℤ◌, Option, Some, None, find, min, nat_le, nat_lt, unsigned_abs, All, option_and_then}
use Rattle.std.specs.List.{list_all, list_any}
use Rattle.std.specs.Option.{option_map, option_map_or}
use Rattle.std.specs.Str.{bytes_eq}
use lib.IntN.{pos, negsuc, ◌+ℤ◌, ◌*ℤ◌}
use mir.Syntax.{w128}
use mir.Val.{SFits, of_z, to_z}
use Rattle.std.proofs.lemmas.Int.{ints, to_z-of_z}
use Rattle.std.proofs.Math.Pow.{pow_mono}
use Rattle.std.proofs.lemmas.Bool.{cases_Bool, cases_lt, eq-eqb, eqb-true}
use Rattle.std.proofs.lemmas.Bool.Decides.{nat_tests}
use Rattle.std.proofs.lemmas.List.Elements.{All-weaker}
use Rattle.std.proofs.lemmas.List.Folds.{list_any_none}
use Rattle.lin_frame.specs.declared.value.Value.{Value}
use Rattle.lin_frame.specs.declared.value.Value.TheVariants.{Scalar, Bytes}
use Rattle.lin_values.specs.Coded.{all_codings, all_items, has_value, in_range, item_for, or_else, signal_at, CodedData, SignalCoding}
use Rattle.lin_values.specs.Layers.{in_span, IsSomeSpan}
use Rattle.lin_values.specs.Meaning.{bcd_digits, by_item, coded_meaning, digits_meaning, first_some, meaning, meaning_by, meaning_in, named_or_number, numeric_meaning, wide_number}
use Rattle.lin_values.specs.Meant.{Meant, Named, Number, Physical, Digits, Letters}
use Rattle.lin_values.specs.Raws.{coded_raws, decimals_of, value_has_text, in_spans, is_coded, is_decimal_within, is_exactly, is_number_without_unit, is_this, is_value, lies_within, has_raw, has_unit, raws_of, raws_within, sought_item, sought_of, sought_value, unit_behind}
use Rattle.lin_values.specs.Read.{number_and_unit}
use Rattle.lin_values.specs.Value.{scaled_value, IsReadable}
use Rattle.lin_values.specs.declared.decimals.Decimal.{Decimal}
use Rattle.lin_values.proofs.Powers.{readable-units}
use Rattle.lin_values.proofs.ShortestAgain.{size-of}
use Rattle.lin_values.proofs.OnlyRaw.{value-same}
use Rattle.lin_values.specs.Warnings.{greatest_raw}
use Rattle.lin_values.specs.declared.encoding.Coding.{Coding}
use Rattle.lin_values.specs.declared.encoding.Coding.TheVariants as codings
use Rattle.lin_values.specs.declared.codings.CodingType.{CodingType}
use Rattle.lin_values.specs.declared.codings.Item.{Item}
use Rattle.lin_values.specs.declared.codings.Item.TheVariants as items
use Rattle.lin_values.specs.declared.codings.PlacedItem.{PlacedItem}
use Rattle.lin_values.specs.declared.layers.Span.{Span}

and-none : (a : Bool) → a && false ≡ false
and-none true = refl
and-none false = refl

and-turned : (a b : Bool) → a && b ≡ b && a
and-turned true true = refl
and-turned true false = refl
and-turned false true = refl
and-turned false false = refl

and-grouped : (a b c : Bool) → a && (b && c) ≡ (a && b) && c
and-grouped true b c = refl
and-grouped false b c = refl

-- ---- the item that counts has the number

find-passes : (p : Item → Bool) (is : List Item) (i : Item) → find p is ≡ Some i → p i ≡ true
find-passes p [] i e = cc
find-passes p (x ∷ xs) i e =
    elim (p x) as (λ b. p x ≡ b → cond b (Some x) (find p xs) ≡ Some i → p i ≡ true) [
      | true ↦ λ t f. (let same : x ≡ i = cc in ap p (sym same) ∙ t)
      | false ↦ λ t f. find-passes p xs i f
    ] refl e

either-passes : (o q : Option Item) (i : Item) → or_else o q ≡ Some i → (o ≡ Some i) ⊎ (q ≡ Some i)
either-passes (Some x) q i e = inl e
either-passes None q i e = inr e

-- a value that counts for a number is that number
abbrev pub CountsFor : ℕ → Item → Type 0
CountsFor n (items.Logical v text) = v ≡ n
CountsFor n (items.Physical from to scale offset unit) = Unit {0}
CountsFor n items.Bcd = Unit {0}
CountsFor n items.Ascii = Unit {0}

value-counts : (n : ℕ) (i : Item) → has_value n i ≡ true → CountsFor n i
value-counts n (items.Logical v text) e = eqb-true v n e
value-counts n (items.Physical from to scale offset unit) e = tt
value-counts n items.Bcd e = tt
value-counts n items.Ascii e = tt

range-counts : (n : ℕ) (i : Item) → in_range n i ≡ true → CountsFor n i
range-counts n (items.Logical v text) e = absurd (let no : false ≡ true = e in cc)
range-counts n (items.Physical from to scale offset unit) e = tt
range-counts n items.Bcd e = tt
range-counts n items.Ascii e = tt

-- the item that counts for a number has it
pub may-count : (ps : List PlacedItem) (n : ℕ) (i : Item) → item_for ps n ≡ Some i → (has_value n i ≡ true) ⊎ (in_range n i ≡ true)
may-count ps n i e =
    elim (either-passes (find (has_value n) (all_items ps)) (find (in_range n) (all_items ps)) i e) [
      | inl h ↦ inl (find-passes (has_value n) (all_items ps) i h)
      | inr h ↦ inr (find-passes (in_range n) (all_items ps) i h)
    ]

item-counts : (ps : List PlacedItem) (n : ℕ) (i : Item) → item_for ps n ≡ Some i → CountsFor n i
item-counts ps n i e =
    elim (may-count ps n i e) [
      | inl h ↦ value-counts n i h
      | inr h ↦ range-counts n i h
    ]

-- ---- what is looked for, by a test of meanings that no digits or characters pass

abbrev pub IsNumeric : (Meant → Bool) → Type 0
IsNumeric test = ((t : List ℕ) → test (Digits t) ≡ false) × ((t : List ℕ) → test (Letters t) ≡ false)

digits-fail : (test : Meant → Bool) → IsNumeric test → (o : Option (List ℕ)) (rest : Option Meant) → option_map_or test rest false ≡ false → option_map_or test (or_else (digits_meaning o) rest) false ≡ false
digits-fail test numeric None rest e = e
digits-fail test numeric (Some ds) rest e = numeric.0 ds

codings-fail : (test : Meant → Bool) → IsNumeric test → (g : SignalCoding) (v : Value) (cs : List Coding) → option_map_or test (first_some (meaning_by g v) cs) false ≡ false
codings-fail test numeric g v [] = refl
codings-fail test numeric g v (codings.Bcd ∷ cs) = digits-fail test numeric (bcd_digits g v) (first_some (meaning_by g v) cs) (codings-fail test numeric g v cs)
codings-fail test numeric g v (codings.Ascii ∷ cs) = numeric.1 _

abbrev pub Agrees : (Meant → Bool) → Option (List ℕ) → Option (ℤ × ℤ) → List ℕ → Type 0
Agrees test text decimals unit = (n : ℕ) (i : Item) → CountsFor n i → sought_item text decimals unit i n ≡ option_map_or test (numeric_meaning i n) false

by-item : (test : Meant → Bool) (text : Option (List ℕ)) (decimals : Option (ℤ × ℤ)) (unit : List ℕ) → IsNumeric test → Agrees test text decimals unit
    → (g : SignalCoding) (ps : List PlacedItem) (n : ℕ) (o : Option Item) → ((i : Item) → o ≡ Some i → CountsFor n i)
    → option_map_or (λ i. sought_item text decimals unit i n) o false ≡ option_map_or test (by_item g ps (Scalar n) n o) false
by-item test text decimals unit numeric agrees g ps n (Some i) counts = agrees n i (counts i refl)
by-item test text decimals unit numeric agrees g ps n None counts = sym (codings-fail test numeric g (Scalar n) (all_codings ps))

by-encoding : (test : Meant → Bool) (text : Option (List ℕ)) (decimals : Option (ℤ × ℤ)) (unit : List ℕ) → IsNumeric test → Agrees test text decimals unit
    → (g : SignalCoding) (n : ℕ) (m : Bool) (o : Option CodingType)
    → option_map_or (λ t. m && option_map_or (λ i. sought_item text decimals unit i n) (item_for t.items n) false) o false
    ≡ m && option_map_or test (option_and_then (λ t. meaning_in g t.items (Scalar n)) o) false
by-encoding test text decimals unit numeric agrees g n m None = sym (and-none m)
by-encoding test text decimals unit numeric agrees g n m (Some t) = ap (λ b. m && b) (by-item test text decimals unit numeric agrees g t.items n (item_for t.items n) (item-counts t.items n))

pub sought-is : (test : Meant → Bool) (text : Option (List ℕ)) (decimals : Option (ℤ × ℤ)) (unit : List ℕ) → IsNumeric test → Agrees test text decimals unit
    → (k : CodedData) (s n : ℕ) → sought_of k s text decimals unit n ≡ is_value k s (Scalar n) && option_map_or test (meaning k s (Scalar n)) false
sought-is test text decimals unit numeric agrees k s n =
    ap (λ b. not (signal_at k s).is_array && b) (by-encoding test text decimals unit numeric agrees (signal_at k s) n (nat_le n (greatest_raw (signal_at k s).bits)) (signal_at k s).encoding)
    ∙ and-grouped (not (signal_at k s).is_array) (nat_le n (greatest_raw (signal_at k s).bits)) (option_map_or test (meaning k s (Scalar n)) false)

-- of arrays there are none
array-by : (test : Meant → Bool) → IsNumeric test → (g : SignalCoding) (bs : List ℕ) → g.is_wide ≡ false → (o : Option CodingType) → option_map_or test (option_and_then (λ t. meaning_in g t.items (Bytes bs)) o) false ≡ false
array-by test numeric g bs narrow None = refl
array-by test numeric g bs narrow (Some t) =
    ap (λ w. option_map_or test (cond w (by_item g t.items (Bytes bs) (wide_number bs) (item_for t.items (wide_number bs))) (coded_meaning g t.items (Bytes bs))) false) narrow
    ∙ codings-fail test numeric g (Bytes bs) (all_codings t.items)

-- no array that isn't wide passes, and texts stand for none of a wide one
pub array-fails : (test : Meant → Bool) → IsNumeric test → (k : CodedData) (s : ℕ) (bs : List ℕ) → is_value k s (Bytes bs) && option_map_or test (meaning k s (Bytes bs)) false ≡ false
array-fails test numeric k s bs =
    let found : Bool = option_map_or test (meaning k s (Bytes bs)) false in
    let sized : Bool = length bs == (signal_at k s).bits / 8 && (nat_le (length bs) 8 && list_all (λ b. nat_lt b 256) bs) in
    elim (cases_Bool (signal_at k s).is_wide) [
      | inl wide ↦ ap (λ w. ((signal_at k s).is_array && (not w && sized)) && found) wide ∙ ap (λ b. b && found) (and-none (signal_at k s).is_array)
      | inr narrow ↦ ap (λ b. is_value k s (Bytes bs) && b) (array-by test numeric (signal_at k s) bs narrow (signal_at k s).encoding) ∙ and-none (is_value k s (Bytes bs))
    ]

-- ---- numbers of spans

no-great : (s : Span) (n : ℕ) → s.to < 65536 → 65536 ≤ n → in_span s n ≡ false
no-great s n h k = grind (arith, nat_tests)

pub spans-great : (spans : List Span) (n : ℕ) → All IsSomeSpan spans → 65536 ≤ n → list_any (λ s. in_span s n) spans ≡ false
spans-great spans n some le = list_any_none (λ s. in_span s n) spans (All-weaker IsSomeSpan (λ s. in_span s n ≡ false) (λ s h. no-great s n h.1 le) spans some)

-- ---- decimals from one to another

pub decimal-numeric : (low high : ℤ) (unit : List ℕ) → IsNumeric (is_decimal_within low high unit)
decimal-numeric low high unit = (λ t. refl, λ t. refl)

decimal-named : (low high : ℤ) (unit : List ℕ) (n v : ℕ) (text : List ℕ) → n == v && sought_value None (Some (low, high)) unit v text ≡ is_decimal_within low high unit (named_or_number n text)
decimal-named low high unit n v [] = and-none (n == v)
decimal-named low high unit n v (c ∷ cs) = and-none (n == v)

pub decimal-agrees : (low high : ℤ) (unit : List ℕ) → Agrees (is_decimal_within low high unit) None (Some (low, high)) unit
decimal-agrees low high unit n (items.Logical v text) counts = decimal-named low high unit n v text
decimal-agrees low high unit n (items.Physical from to scale offset u) counts = and-turned (has_unit unit u) (lies_within low high (pos n *ℤ scaled_value scale +ℤ scaled_value offset))
decimal-agrees low high unit n items.Bcd counts = refl
decimal-agrees low high unit n items.Ascii counts = refl

most-small : (bits : ℕ) → greatest_raw bits < 65536
most-small bits =
    let h : 2 ^ min bits 16 ≤ 2 ^ 16 = pow_mono {j = 16} (omega arith) in
    omega arith

great-fails : (n most : ℕ) (a b : Bool) → most < 65536 → 65536 ≤ n → (a && nat_le n most) && b ≡ false
great-fails n most true b lt le = let no : nat_le n most ≡ false = grind (arith, nat_tests) in ap (λ t. t && b) no
great-fails n most false b lt le = refl

-- the scalars of the spans are the values that pass
pub scalars-are : (spans : List Span) (k : CodedData) (s : ℕ) (b : ℕ → Bool) → All IsSomeSpan spans
    → ((n : ℕ) → n < 65536 → list_any (λ z. in_span z n) spans ≡ is_value k s (Scalar n) && b n)
    → (n : ℕ) → in_spans spans (Scalar n) ≡ is_value k s (Scalar n) && b n
scalars-are spans k s b some found n =
    elim (cases_lt n 65536) as (λ _. in_spans spans (Scalar n) ≡ is_value k s (Scalar n) && b n) [
      | inl lt ↦ found n lt
      | inr le ↦ spans-great spans n some le ∙ sym (great-fails n (greatest_raw (signal_at k s).bits) (not (signal_at k s).is_array) (b n) (most-small (signal_at k s).bits) le)
    ]

pub within-is : (spans : List Span) (k : CodedData) (s : ℕ) (low high : ℤ) (unit : List ℕ) → All IsSomeSpan spans
    → ((n : ℕ) → n < 65536 → list_any (λ z. in_span z n) spans ≡ sought_of k s None (Some (low, high)) unit n)
    → (v : Value) → has_raw spans None v ≡ raws_within k s low high unit v
within-is spans k s low high unit some found (Scalar n) =
    scalars-are spans k s (λ n. option_map_or (is_decimal_within low high unit) (meaning k s (Scalar n)) false) some (λ n lt. found n lt ∙ sought-is (is_decimal_within low high unit) None (Some (low, high)) unit (decimal-numeric low high unit) (decimal-agrees low high unit) k s n) n
within-is spans k s low high unit some found (Bytes bs) =
    sym (array-fails (is_decimal_within low high unit) (decimal-numeric low high unit) k s bs)

-- ---- a text

and-true : (a : Bool) → a && true ≡ a
and-true true = refl
and-true false = refl

or-false : (a : Bool) → (a || false) ≡ a
or-false true = refl
or-false false = refl

and-same : (a : Bool) → a && a ≡ a
and-same true = refl
and-same false = refl

-- what isn't of digits or characters, by the number that a text is
abbrev pub names : List ℕ → Option (ℤ × List ℕ) → Meant → Bool
names text number (Named t) = bytes_eq text t
names text number (Number n) = option_map_or (is_number_without_unit n) number false
names text number (Physical z u) = option_map_or (λ p. is_decimal_within p.0 p.0 p.1 (Physical z u)) number false
names text number (Digits t) = false
names text number (Letters t) = false

names-numeric : (text : List ℕ) (number : Option (ℤ × List ℕ)) → IsNumeric (names text number)
names-numeric text number = (λ t. refl, λ t. refl)

abbrev decimals-by : Option (ℤ × List ℕ) → Option (ℤ × ℤ)
decimals-by number = option_map (λ p. (p.0, p.0)) number

abbrev unit-by : List ℕ → Option (ℤ × List ℕ) → List ℕ
unit-by text number = option_map_or (λ p. p.1) number text

exactly-none : (n : ℕ) (text : List ℕ) → is_exactly n None text ≡ false
exactly-none n [] = refl
exactly-none n (c ∷ cs) = refl

number-exactly : (n : ℕ) (text : List ℕ) (number : Option (ℤ × List ℕ)) → is_exactly n (decimals-by number) (unit-by text number) ≡ option_map_or (is_number_without_unit n) number false
number-exactly n text None = exactly-none n text
number-exactly n text (Some (z, [])) = and-same (unsigned_abs (z -ℤ pos (n * 10 ^ 24)) == 0)
number-exactly n text (Some (z, (c ∷ cs))) = refl

value-named : (text : List ℕ) (number : Option (ℤ × List ℕ)) (n : ℕ) (t : List ℕ) → sought_value (Some text) (decimals-by number) (unit-by text number) n t ≡ names text number (named_or_number n t)
value-named text number n [] = number-exactly n text number
value-named text number n (c ∷ cs) = refl

counted-named : (text : List ℕ) (number : Option (ℤ × List ℕ)) (n v : ℕ) (t : List ℕ) → v ≡ n → n == v && sought_value (Some text) (decimals-by number) (unit-by text number) v t ≡ names text number (named_or_number n t)
counted-named text number n v t e =
    ap (λ b. b && sought_value (Some text) (decimals-by number) (unit-by text number) v t) (eq-eqb n v (sym e))
    ∙ ap (λ k. sought_value (Some text) (decimals-by number) (unit-by text number) k t) e
    ∙ value-named text number n t

range-named : (text : List ℕ) (number : Option (ℤ × List ℕ)) (z : ℤ) (u : List ℕ) → has_unit (unit-by text number) u && option_map_or (λ d. lies_within d.0 d.1 z) (decimals-by number) false ≡ names text number (Physical z u)
range-named text None z u = and-none (has_unit text u)
range-named text (Some p) z u = and-turned (has_unit p.1 u) (lies_within p.0 p.0 z)

names-agrees : (text : List ℕ) (number : Option (ℤ × List ℕ)) → Agrees (names text number) (Some text) (decimals-by number) (unit-by text number)
names-agrees text number n (items.Logical v t) counts = counted-named text number n v t counts
names-agrees text number n (items.Physical from to scale offset u) counts = range-named text number (pos n *ℤ scaled_value scale +ℤ scaled_value offset) u
names-agrees text number n items.Bcd counts = refl
names-agrees text number n items.Ascii counts = refl

either-way : (k : CodedData) (s : ℕ) (text : List ℕ) (v : Value) (m : Meant) → (is_coded m && value_has_text k s text v m) || names text (number_and_unit text) m ≡ value_has_text k s text v m
either-way k s text v (Named t) = sym (and-true (bytes_eq text t))
either-way k s text v (Number n) = sym (and-true (option_map_or (is_number_without_unit n) (number_and_unit text) false))
either-way k s text v (Physical z u) = sym (and-true (option_map_or (λ p. is_decimal_within p.0 p.0 p.1 (Physical z u)) (number_and_unit text) false))
either-way k s text v (Digits t) = or-false (value_has_text k s text v (Digits t))
either-way k s text v (Letters t) = or-false (value_has_text k s text v (Letters t))

both-ways : (p q r : Meant → Bool) → ((m : Meant) → p m || q m ≡ r m) → (a : Bool) (o : Option Meant) → (a && option_map_or p o false) || (a && option_map_or q o false) ≡ a && option_map_or r o false
both-ways p q r same true None = refl
both-ways p q r same true (Some m) = same m
both-ways p q r same false o = refl

-- the values of spans that a text names
pub named-in : (spans : List Span) (k : CodedData) (s : ℕ) (text : List ℕ) → All IsSomeSpan spans
    → ((n : ℕ) → n < 65536 → list_any (λ z. in_span z n) spans ≡ sought_of k s (Some text) (decimals_of text) (unit_behind text) n)
    → (v : Value) → in_spans spans v ≡ is_value k s v && option_map_or (names text (number_and_unit text)) (meaning k s v) false
named-in spans k s text some found (Scalar n) =
    let test : Meant → Bool = names text (number_and_unit text) in
    scalars-are spans k s (λ n. option_map_or test (meaning k s (Scalar n)) false) some (λ n lt. found n lt ∙ sought-is test (Some text) (decimals_of text) (unit_behind text) (names-numeric text (number_and_unit text)) (names-agrees text (number_and_unit text)) k s n) n
named-in spans k s text some found (Bytes bs) =
    sym (array-fails (names text (number_and_unit text)) (names-numeric text (number_and_unit text)) k s bs)

pub text-is : (spans : List Span) (coded : Option Value) (k : CodedData) (s : ℕ) (text : List ℕ) → All IsSomeSpan spans
    → ((n : ℕ) → n < 65536 → list_any (λ z. in_span z n) spans ≡ sought_of k s (Some text) (decimals_of text) (unit_behind text) n)
    → ((v : Value) → is_this coded v ≡ coded_raws k s text v)
    → (v : Value) → has_raw spans coded v ≡ raws_of k s text v
text-is spans coded k s text some found is v =
    ap (λ b. b || in_spans spans v) (is v)
    ∙ ap (λ b. coded_raws k s text v || b) (named-in spans k s text some found v)
    ∙ both-ways (λ m. is_coded m && value_has_text k s text v m) (names text (number_and_unit text)) (value_has_text k s text v) (either-way k s text v) (is_value k s v) (meaning k s v)

not-both : (p q : Meant → Bool) → ((m : Meant) → p m ≡ true → q m ≡ false) → (a : Bool) (o : Option Meant) → a && option_map_or p o false ≡ true → a && option_map_or q o false ≡ false
not-both p q apart true None e = refl
not-both p q apart true (Some m) e = apart m e
not-both p q apart false o e = refl

coded-nameless : (k : CodedData) (s : ℕ) (text : List ℕ) (v : Value) (m : Meant) → is_coded m && value_has_text k s text v m ≡ true → names text (number_and_unit text) m ≡ false
coded-nameless k s text v (Named t) e = absurd (let no : false ≡ true = e in cc)
coded-nameless k s text v (Number n) e = absurd (let no : false ≡ true = e in cc)
coded-nameless k s text v (Physical z u) e = absurd (let no : false ≡ true = e in cc)
coded-nameless k s text v (Digits t) e = refl
coded-nameless k s text v (Letters t) e = refl

pub coded-apart : (spans : List Span) (coded : Option Value) (k : CodedData) (s : ℕ) (text : List ℕ) → All IsSomeSpan spans
    → ((n : ℕ) → n < 65536 → list_any (λ z. in_span z n) spans ≡ sought_of k s (Some text) (decimals_of text) (unit_behind text) n)
    → ((v : Value) → is_this coded v ≡ coded_raws k s text v)
    → (v : Value) → coded ≡ Some v → in_spans spans v ≡ false
coded-apart spans coded k s text some found is v e =
    let here : coded_raws k s text v ≡ true = sym (is v) ∙ ap (λ o. is_this o v) e ∙ value-same v in
    named-in spans k s text some found v
    ∙ not-both (λ m. is_coded m && value_has_text k s text v m) (names text (number_and_unit text)) (coded-nameless k s text v) (is_value k s v) (meaning k s v) here

pub sought-here : (spans : List Span) (k : CodedData) (s : ℕ) (text : List ℕ) (t : Option (List ℕ)) (d : Option (ℤ × ℤ)) (u : List ℕ) → t ≡ Some text → d ≡ decimals_of text → u ≡ unit_behind text
    → ((n : ℕ) → n < 65536 → list_any (λ z. in_span z n) spans ≡ sought_of k s t d u n)
    → (n : ℕ) → n < 65536 → list_any (λ z. in_span z n) spans ≡ sought_of k s (Some text) (decimals_of text) (unit_behind text) n
sought-here spans k s text t d u et ed eu found n h =
    found n h
    ∙ ap (λ x. sought_of k s x d u n) et
    ∙ ap (λ x. sought_of k s (Some text) x u n) ed
    ∙ ap (λ x. sought_of k s (Some text) (decimals_of text) x n) eu

pub readable-wide : (d : Decimal) → IsReadable d → unsigned_abs (scaled_value d) ≤ 10 ^ 38
readable-wide d h =
    let e : unsigned_abs (scaled_value d) ≡ d.digits * 10 ^ (24 - d.places) = size-of d.negative (d.digits * 10 ^ (24 - d.places)) in
    omega (arith, e, readable-units d.digits d.places h.0 h.1)

wide-fits : (z : ℤ) → unsigned_abs z ≤ 10 ^ 38 → SFits w128 z
wide-fits (pos a) h = omega (arith, ints)
wide-fits (negsuc a) h = omega (arith, ints)

pub wide-kept : (z : ℤ) (d : Decimal) → z ≡ scaled_value d → IsReadable d → unsigned_abs (to_z w128 (of_z w128 z)) ≤ 10 ^ 38
wide-kept z d e h =
    let b : unsigned_abs z ≤ 10 ^ 38 = omega (arith, readable-wide d h, ap unsigned_abs e) in
    let k : to_z w128 (of_z w128 z) ≡ z = to_z-of_z w128 z (wide-fits z b) in
    omega (arith, b, ap unsigned_abs k)
