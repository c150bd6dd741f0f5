-- Fields of lines that say steps stand for nothing: none has `$`, and none is `\`, where the text has
-- neither, or the names of the cluster have neither.
use Rattle.std.proofs.Common.{◌≡◌, ◌∙◌, ◌⊎◌, ◌+◌, ◌-◌, ◌*◌, ◌%◌, ◌<◌, ◌==◌, ◌&&◌, ◌||◌, ℕ, zero, suc, List, [], ◌∷◌, ◌++◌, Bool, true, false, cond, refl, sym, ap, subst, arith, inl, inr, Option, Some, None, Result, Ok, Err, drop, filter, find, length, nat_le, nat_lt, slice_index, slice_index_or, take}
use Rattle.std.specs.Prelude.{codes, option_map}
use Rattle.std.specs.Option.{option_map_or}
use Rattle.std.specs.List.{All, list_any, onto_first, slice_split, take_while}
use Rattle.std.specs.Result.{result_ok}
use Rattle.std.specs.Str.{bytes_eq}
use Rattle.std.specs.Str.Lines.{strip_carriage_return}
use Rattle.std.proofs.lemmas.Grind.{common_steps}
use Rattle.std.proofs.lemmas.List.Elements.{All-cons, All-nil}
use Rattle.std.proofs.lemmas.List.Splits.{slice_split_none}
use Rattle.std.proofs.lemmas.List.Sums.{take_while-cons}
use Rattle.std.proofs.lemmas.Slice.Eq.{bytes_eq-Decides}
use Rattle.hex.specs.Hex.{decode_of, decode_pairs, digit_or_error, hex_digit_value, pair_value, value_at}
use Rattle.hex.specs.Hex as hex
use Rattle.hex.specs.declared.error.FromHexError.{FromHexError}
use Rattle.hex.specs.declared.error.FromHexError.TheVariants.{OddLength}
use Rattle.lin_parts.specs.declared.parts.Parts.{Parts}
use Rattle.lin_frame.specs.Words.{numbers}
use Rattle.lin_frame.specs.declared.value.Value.{Value}
use Rattle.lin_frame.specs.declared.value.Value.TheVariants.{Scalar}
use Rattle.lin_core.specs.Tables.{direction_word, directions}
use Rattle.lin_core.specs.declared.link.Direction.{Direction}
use Rattle.lin_core.specs.declared.link.Direction.TheVariants.{Down, Up}
use Rattle.lin_core.specs.declared.port.PortId.{PortId}
use Rattle.lin_core.specs.declared.port.PortId.TheVariants.{Bus, Host, Node}
use Rattle.lin_core.specs.declared.step.Step.{Step}
use Rattle.lin_core.proofs.kept.Bus.{find-more}
use Rattle.lin_log.specs.Language.{Called, Language, named_language, nameless, number_named, plain as numbers_alone}
use Rattle.lin_log.specs.Said.{alone, array_form, bytes_fields, bytes_of, direction_field, hex_after, hex_bytes, hex_number, hex_row, hurt_form, is_digit, is_gap, is_not_empty, is_number, is_port, node_field, node_form, number, number_after, number_field, of_fields, only, port, port_number, port_step, send_form, signal_field, step_after, step_form, switch_form, table_field, timeout_form, value_field, within_limit, write_form, write_of}
use Rattle.lin_log.specs.Said as log
use Rattle.lin_log.specs.declared.reason.Reason.{Reason}
use Rattle.lin_log.specs.declared.reason.Reason.TheVariants.{NoNode, NoNumber, NoPort, NoSignal, NoTable, NotBytes, TimeoutForm}
use Rattle.lin_bench.specs.Fields.{line_fields}
use Rattle.lin_bench.specs.Lines.{is_resolved}
use Rattle.lin_bench.specs.Plain.{ArePlain, HasPlainFields, IsPlainName, begins_resolved, is_mark_byte, resolves}
use Rattle.lin_bench.specs.Resolved.{first_name, names_parameter}
use Rattle.lin_bench.specs.Words.{from_end}
use Rattle.lin_bench.specs.Written.{goes_on, is_said}
use Rattle.lin_bench.proofs.Wordless.{first-done, no-port, other-word, row-first, some-found}

-- a language in which one may write freely, and the names in it
abbrev pub lang : Language → Language
lang v = record v { free = true }

pub record HasPlainWords (v : Language) : Type 0 where
  pub nodes : ArePlain v.nodes
  pub signals : ArePlain v.signals
  pub tables : ArePlain v.tables

pub or-false : (a b : Bool) → (a || b) ≡ false → (a ≡ false) × (b ≡ false)
or-false true b h = absurd (cc)
or-false false b h = (refl, h)

and-false : (b : Bool) → (b && false) ≡ false
and-false true = refl
and-false false = refl

-- ---- texts without `$` and `\`
abbrev pub Clean : List ℕ → Type 0
Clean f = list_any is_mark_byte f ≡ false

clean-more : (b : ℕ) (bs : List ℕ) → is_mark_byte b ≡ false → Clean bs → Clean (b ∷ bs)
clean-more b bs h k = rw (h, k) refl

no-dollar : (f : List ℕ) → Clean f → list_any (λ b. b == 36) f ≡ false
no-dollar [] h = refl
no-dollar (b ∷ bs) h =
    let p = or-false (is_mark_byte b) (list_any is_mark_byte bs) h in
    let q = or-false (b == 36) (b == 92) p.0 in
    rw (q.0, no-dollar bs p.1) refl

no-backslash : (f : List ℕ) → Clean f → bytes_eq f (codes "\\") ≡ false
no-backslash f h = elim (bytes_eq f (codes "\\")) as (λ b. bytes_eq f (codes "\\") ≡ b → b ≡ false) [
  | true ↦ λ e. (let no : true ≡ false = sym (ap (list_any is_mark_byte) ((bytes_eq-Decides f (codes "\\")).0 e)) ∙ h in absurd (cc))
  | false ↦ λ e. refl
] refl

clean-plain : (f : List ℕ) → Clean f → IsPlainName f
clean-plain f h = (no-dollar f h, no-backslash f h)

literal : (f g : List ℕ) → IsPlainName g → f ≡ g → IsPlainName f
literal f g h e = subst IsPlainName (sym e) h

-- ---- what plain fields resolve
abbrev pub is_special : List ℕ → Bool
is_special f = list_any (λ b. b == 36) f || bytes_eq f (codes "\\")

abbrev pub AllPlain : List (List ℕ) → Type 0
AllPlain fs = list_any is_special fs ≡ false

all-more : (f : List ℕ) (fs : List (List ℕ)) → IsPlainName f → AllPlain fs → AllPlain (f ∷ fs)
all-more f fs h k = rw (h.0, h.1, k) refl

first-plain : (f : List ℕ) (fs : List (List ℕ)) → AllPlain (f ∷ fs) → IsPlainName f
first-plain f fs h =
    let p = or-false (is_special f) (list_any is_special fs) h in
    or-false (list_any (λ b. b == 36) f) (bytes_eq f (codes "\\")) p.0

rest-plain : (f : List ℕ) (fs : List (List ℕ)) → AllPlain (f ∷ fs) → AllPlain fs
rest-plain f fs h = (or-false (is_special f) (list_any is_special fs) h).1

dollarless : (f : List ℕ) → list_any (λ b. b == 36) f ≡ false → All (λ x. (x == 36) ≡ false) f
dollarless [] h = All-nil (λ x. (x == 36) ≡ false)
dollarless (b ∷ bs) h =
    let p = or-false (b == 36) (list_any (λ b. b == 36) bs) h in
    All-cons (λ x. (x == 36) ≡ false) b bs p.0 (dollarless bs p.1)

pub names-nothing : (f : List ℕ) → list_any (λ b. b == 36) f ≡ false → names_parameter f ≡ false
names-nothing f h =
    ap (λ ps. list_any (λ p. nat_lt 0 (length (first_name p))) (drop 1 ps)) (slice_split_none (λ b. b == 36) f (dollarless f h))

none-named : (fs : List (List ℕ)) → AllPlain fs → list_any names_parameter fs ≡ false
none-named [] h = refl
none-named (f ∷ fs) h = rw (names-nothing f (first-plain f fs h).0, none-named fs (rest-plain f fs h)) refl

nth-plain : (fs : List (List ℕ)) (n : ℕ) → AllPlain fs → bytes_eq (slice_index_or fs n []) (codes "\\") ≡ false
nth-plain [] n h = refl
nth-plain (f ∷ fs) zero h = (first-plain f fs h).1
nth-plain (f ∷ fs) (suc n) h = nth-plain fs n (rest-plain f fs h)

last-plain-by : (fs : List (List ℕ)) (t : Bool) → AllPlain fs → bytes_eq (cond t (slice_index_or fs (length fs - 1 - 0) []) []) (codes "\\") ≡ false
last-plain-by fs true h = nth-plain fs (length fs - 1 - 0) h
last-plain-by fs false h = refl

last-plain : (fs : List (List ℕ)) → AllPlain fs → bytes_eq (from_end fs 0) (codes "\\") ≡ false
last-plain fs h = last-plain-by fs (nat_lt 0 (length fs)) h

pub resolves-nothing : (l : List ℕ) → AllPlain (line_fields l) → begins_resolved (line_fields l) ≡ false → resolves l ≡ false
resolves-nothing l h begins =
    let inner : (goes_on l || (list_any names_parameter (line_fields l) || begins_resolved (line_fields l))) ≡ false =
    rw (last-plain (line_fields l) h, none-named (line_fields l) h, begins) refl in
    ap (λ b. is_said l && b) inner ∙ and-false (is_said l)

-- ---- numbers
digit-clean : (b : ℕ) → is_digit b ≡ true → is_mark_byte b ≡ false
digit-clean b h = grind (arith, common_steps)

digits-by : (n c : ℕ) (cs : List ℕ) (m : ℕ) (t : Bool) → is_digit c ≡ t → ((k : ℕ) → number_after k cs ≡ Some m → Clean cs)
    → cond t (number_after (n * 10 + (c - 48)) cs) None ≡ Some m → Clean (c ∷ cs)
digits-by n c cs m true h more e = clean-more c cs (digit-clean c h) (more (n * 10 + (c - 48)) e)
digits-by n c cs m false h more e = absurd (cc)

digits-clean : (n : ℕ) (f : List ℕ) (m : ℕ) → number_after n f ≡ Some m → Clean f
digits-clean n [] m e = refl
digits-clean n (c ∷ cs) m e = digits-by n c cs m (is_digit c) refl (λ k. digits-clean k cs m) e

within-some : (most : ℕ) (o : Option ℕ) (n : ℕ) → within_limit most o ≡ Some n → (m : ℕ) × (o ≡ Some m)
within-some most None n e = absurd (cc)
within-some most (Some m) n e = (m, refl)

some-if : (t : Bool) (o : Option ℕ) (n : ℕ) → cond t o None ≡ Some n → o ≡ Some n
some-if true o n e = e
some-if false o n e = absurd (cc)

number-clean : (most : ℕ) (f : List ℕ) (n : ℕ) → number_field most f ≡ Ok n → Clean f
number-clean most f n e =
    let s = some-found (number most f) (NoNumber f most) n e in
    let w = some-if (nat_le 1 (length f) && nat_le (length f) 10) (within_limit most (number_after 0 f)) n s in
    let d = within-some most (number_after 0 f) n w in
    digits-clean 0 f d.0 d.1

-- ---- names
found-by : (p : ℕ → Bool) (n k : ℕ) (o : Option ℕ) (t : Bool) → ((j : ℕ) → o ≡ Some j → (j < n) × (p j ≡ true)) → p n ≡ t
    → option_map_or Some o (cond t (Some n) None) ≡ Some k → (k < suc n) × (p k ≡ true)
found-by p n k (Some j) t before h e =
    let same : j ≡ k = cc in
    let q = before j refl in
    let less = q.0 in
    (omega (arith, less, same), ap p (sym same) ∙ q.1)
found-by p n k None true before h e =
    let same : n ≡ k = cc in
    (omega (arith, same), ap p (sym same) ∙ h)
found-by p n k None false before h e = absurd (cc)

found-so : (p : ℕ → Bool) (n k : ℕ) → find p (numbers n) ≡ Some k → (k < n) × (p k ≡ true)
found-so p zero k e = absurd (cc)
found-so p (suc n) k e = found-by p n k (find p (numbers n)) (p n) (λ j. found-so p n j) refl (sym (find-more p (numbers n) n) ∙ e)

named-plain : (called : Called) → ArePlain called → (f : List ℕ) (n : ℕ) → number_named called f ≡ Some n → IsPlainName f
named-plain called plain f n e =
    let q = found-so (λ k. bytes_eq (called.name k) f) called.count n e in
    subst IsPlainName ((bytes_eq-Decides (called.name n) f).0 q.1) (plain n q.0)

called-by : (most : ℕ) (called : Called) → ArePlain called → (why : Reason) (f : List ℕ) (n : ℕ) (t : Bool)
    → cond t (number_field most f) (log.or_bad (number_named called f) why) ≡ Ok n → IsPlainName f
called-by most called plain why f n true e = clean-plain f (number-clean most f n e)
called-by most called plain why f n false e = named-plain called plain f n (some-found (number_named called f) why n e)

node-plain : (v : Language) → HasPlainWords v → (f : List ℕ) (n : ℕ) → node_field (lang v) f ≡ Ok n → IsPlainName f
unfolding node_field
node-plain v names f n e = called-by 255 (lang v).nodes names.nodes (NoNode f) f n (is_number f) e

signal-plain : (v : Language) → HasPlainWords v → (f : List ℕ) (n : ℕ) → signal_field (lang v) f ≡ Ok n → IsPlainName f
unfolding signal_field
signal-plain v names f n e = called-by 65535 (lang v).signals names.signals (NoSignal f) f n (is_number f) e

table-plain : (v : Language) → HasPlainWords v → (f : List ℕ) (n : ℕ) → table_field (lang v) f ≡ Ok n → IsPlainName f
unfolding table_field
table-plain v names f n e = called-by 65535 (lang v).tables names.tables (NoTable f) f n (is_number f) e

-- ---- bytes
mark-by : (b : ℕ) (t : Bool) → (b == 36) ≡ t → (t || b == 92) ≡ true → (b ≡ 36) ⊎ (b ≡ 92)
mark-by b true h k = inl (grind (arith, common_steps))
mark-by b false h k = inr (grind (arith, common_steps))

not-hex : (b v : ℕ) → (b ≡ 36) ⊎ (b ≡ 92) → hex_digit_value b ≡ Some v → ⊥
not-hex b v (inl is) e = let no : None ≡ Some v = sym (ap hex_digit_value is) ∙ e in absurd (cc)
not-hex b v (inr is) e = let no : None ≡ Some v = sym (ap hex_digit_value is) ∙ e in absurd (cc)

hex-digit-clean : (b v : ℕ) → hex_digit_value b ≡ Some v → is_mark_byte b ≡ false
hex-digit-clean b v e = elim (is_mark_byte b) as (λ t. is_mark_byte b ≡ t → t ≡ false) [
  | true ↦ λ h. absurd (not-hex b v (mark-by b (b == 36) refl h) e)
  | false ↦ λ h. refl
] refl

hex-done : {A B : Type 0} (r : Result A FromHexError) (f : A → Result B FromHexError) (y : B) → hex.◌>>=◌ r f ≡ Ok y → (x : A) × (r ≡ Ok x) × (f x ≡ Ok y)
hex-done (Ok x) f y e = (x, refl, e)
hex-done (Err why) f y e = absurd (cc)

digit-some : (d i v : ℕ) (o : Option ℕ) → digit_or_error d i o ≡ Ok v → o ≡ Some v
digit-some d i v (Some w) e = cc
digit-some d i v None e = absurd (cc)

value-clean : (d i v : ℕ) → value_at d i ≡ Ok v → is_mark_byte d ≡ false
value-clean d i v e = hex-digit-clean d v (digit-some d i v (hex_digit_value d) e)

pairs-clean : (i : ℕ) (f bs : List ℕ) → decode_pairs i f ≡ Ok bs → Clean f
unfolding decode_pairs
pairs-clean i [] bs e = refl
pairs-clean i (d ∷ []) bs e = absurd (cc)
pairs-clean i (h ∷ l ∷ rest) bs e =
    let p = hex-done (pair_value h l i) _ bs e in
    let q = hex-done (decode_pairs (i + 2) rest) _ bs p.2 in
    let a = hex-done (value_at h i) _ p.0 p.1 in
    let b = hex-done (value_at l (i + 1)) _ p.0 a.2 in
    clean-more h (l ∷ rest) (value-clean h i a.0 a.1) (clean-more l rest (value-clean l (i + 1) b.0 b.1) (pairs-clean (i + 2) rest q.0 q.1))

ok-of : (r : Result (List ℕ) FromHexError) (bs : List ℕ) → result_ok r ≡ Some bs → r ≡ Ok bs
ok-of (Ok xs) bs e = cc
ok-of (Err why) bs e = absurd (cc)

decode-by : (f bs : List ℕ) (odd : Bool) → cond odd (Err OddLength) (decode_pairs 0 f) ≡ Ok bs → Clean f
decode-by f bs true e = absurd (cc)
decode-by f bs false e = pairs-clean 0 f bs e

decode-clean : (f bs : List ℕ) → result_ok (decode_of f) ≡ Some bs → Clean f
decode-clean f bs e = decode-by f bs (length f % 2 == 1) (ok-of (decode_of f) bs e)

hex-by : (f bs : List ℕ) (none empty : Bool) → bytes_eq f (codes "-") ≡ none → cond none (Some []) (cond empty None (result_ok (decode_of f))) ≡ Some bs → Clean f
hex-by f bs true empty h e = subst Clean (sym ((bytes_eq-Decides f (codes "-")).0 h)) refl
hex-by f bs false true h e = absurd (cc)
hex-by f bs false false h e = decode-clean f bs e

hex-clean : (f bs : List ℕ) → hex_bytes f ≡ Some bs → Clean f
hex-clean f bs e = hex-by f bs (bytes_eq f (codes "-")) (length f == 0) refl e

row-plain : (fs : List (List ℕ)) (bs : List ℕ) → hex_row fs ≡ Some bs → AllPlain fs
row-plain [] bs e = refl
row-plain (f ∷ fs) bs e =
    let p = row-first (result_ok (decode_of f)) (hex_row fs) bs e in
    all-more f fs (clean-plain f (decode-clean f p.0 p.2)) (row-plain fs p.1 p.3)

bytes-of-plain : (f : List ℕ) (fs : List (List ℕ)) (bs : List ℕ) → bytes_of true f fs ≡ Some bs → AllPlain (f ∷ fs)
bytes-of-plain f [] bs e = all-more f [] (clean-plain f (hex-clean f bs e)) refl
bytes-of-plain f (g ∷ fs) bs e = row-plain (f ∷ g ∷ fs) bs e

bytes-plain : (v : Language) (fs : List (List ℕ)) (bs : List ℕ) → bytes_fields (lang v) fs ≡ Ok bs → AllPlain fs
unfolding bytes_fields
bytes-plain v [] bs e = absurd (cc)
bytes-plain v (f ∷ fs) bs e = bytes-of-plain f fs bs (some-found (bytes_of true f fs) (NotBytes (f ∷ fs)) bs e)

-- ---- values
hex-after-by : (n d : ℕ) (ds : List ℕ) (m : ℕ) (o : Option ℕ) → hex_digit_value d ≡ o → ((k : ℕ) → hex_after k ds ≡ Some m → Clean ds)
    → option_map_or (λ v. hex_after (n * 16 + v) ds) o None ≡ Some m → Clean (d ∷ ds)
hex-after-by n d ds m None h more e = absurd (cc)
hex-after-by n d ds m (Some v) h more e = clean-more d ds (hex-digit-clean d v h) (more (n * 16 + v) e)

hex-after-clean : (n : ℕ) (ds : List ℕ) (m : ℕ) → hex_after n ds ≡ Some m → Clean ds
hex-after-clean n [] m e = refl
hex-after-clean n (d ∷ ds) m e = hex-after-by n d ds m (hex_digit_value d) refl (λ k. hex-after-clean k ds m) e

mapped : (o : Option ℕ) (v : Value) → option_map Scalar o ≡ Some v → (m : ℕ) × (o ≡ Some m)
mapped None v e = absurd (cc)
mapped (Some m) v e = (m, refl)

hex-number-clean : (ds : List ℕ) (m : ℕ) → hex_number ds ≡ Some m → Clean ds
hex-number-clean ds m e = hex-after-clean 0 ds m (some-if (nat_le 1 (length ds) && nat_le (length ds) 4) (hex_after 0 ds) m e)

-- the first byte of a text, and the first two
array-clean : (f : List ℕ) (v : Value) → (slice_index f 0 == 120) ≡ true → array_form f (drop 1 f) ≡ Ok v → Clean f
array-clean [] v h e = absurd (cc)
array-clean (x ∷ xs) v h e =
    let p = first-done (log.or_bad (hex_bytes xs) (NotBytes ((x ∷ xs) ∷ []))) _ v e in
    let first : is_mark_byte x ≡ false = grind (arith, common_steps) in
    clean-more x xs first (hex-clean xs p.0 (some-found (hex_bytes xs) (NotBytes ((x ∷ xs) ∷ [])) p.0 p.1))

and-true : (a b : Bool) → (a && b) ≡ true → (a ≡ true) × (b ≡ true)
and-true true b h = (refl, h)
and-true false b h = absurd (cc)

scalar-clean : (f : List ℕ) (v : Value) → (slice_index f 0 == 48 && slice_index f 1 == 120) ≡ true
    → log.or_bad (option_map Scalar (hex_number (drop 2 f))) (NoNumber f 65535) ≡ Ok v → Clean f
scalar-clean [] v h e = absurd (cc)
scalar-clean (x ∷ []) v h e = (let p = and-true (x == 48) false h in absurd (cc))
scalar-clean (x ∷ y ∷ ds) v h e =
    let p = and-true (x == 48) (y == 120) h in
    let k = p.0 in
    let l = p.1 in
    let first : is_mark_byte x ≡ false = grind (arith, common_steps, k) in
    let second : is_mark_byte y ≡ false = grind (arith, common_steps, l) in
    let o = mapped (hex_number ds) v (some-found (option_map Scalar (hex_number ds)) (NoNumber (x ∷ y ∷ ds) 65535) v e) in
    clean-more x (y ∷ ds) first (clean-more y ds second (hex-number-clean ds o.0 o.1))

value-by : (g : Language) (f : List ℕ) (v : Value) (array scalar : Bool) → (slice_index f 0 == 120) ≡ array → (slice_index f 0 == 48 && slice_index f 1 == 120) ≡ scalar
    → cond array (array_form f (drop 1 f))
    (cond scalar (log.or_bad (option_map Scalar (hex_number (drop 2 f))) (NoNumber f 65535)) (log.◌>>=◌ (number_field 65535 f) (λ n. Ok (Scalar n)))) ≡ Ok v → Clean f
value-by g f v true scalar h k e = array-clean f v h e
value-by g f v false true h k e = scalar-clean f v k e
value-by g f v false false h k e = let p = first-done (number_field 65535 f) _ v e in number-clean 65535 f p.0 p.1

value-plain : (g : Language) (f : List ℕ) (v : Value) → value_field (lang g) f ≡ Ok v → IsPlainName f
unfolding value_field
value-plain g f v e = clean-plain f (value-by g f v (slice_index f 0 == 120) (slice_index f 0 == 48 && slice_index f 1 == 120) refl refl e)

-- ---- directions
word-plain : (d : Direction) → IsPlainName (direction_word d)
word-plain Down = (refl, refl)
word-plain Up = (refl, refl)

direction-first : (f : List ℕ) (d e : Direction) (more : Option Direction) (t : Bool) → bytes_eq (direction_word e) f ≡ t → (more ≡ Some d → IsPlainName f)
    → cond t (Some e) more ≡ Some d → IsPlainName f
direction-first f d e more true h k is = subst IsPlainName ((bytes_eq-Decides (direction_word e) f).0 h) (word-plain e)
direction-first f d e more false h k is = k is

direction-by : (f : List ℕ) (d : Direction) (ds : List Direction) → find (λ d. bytes_eq (direction_word d) f) ds ≡ Some d → IsPlainName f
direction-by f d [] e = absurd (cc)
direction-by f d (x ∷ xs) e = direction-first f d x (find (λ d. bytes_eq (direction_word d) f) xs) (bytes_eq (direction_word x) f) refl (direction-by f d xs) e

direction-plain : (f : List ℕ) (d : Direction) → direction_field f ≡ Ok d → IsPlainName f
unfolding direction_field
direction-plain f d e = direction-by f d directions (some-found (find (λ d. bytes_eq (direction_word d) f) directions) TimeoutForm d e)

-- ---- ports
port-number-by : (v : Language) → HasPlainWords v → (x : ℕ) (xs : List ℕ) (n : ℕ) (t : Bool) → (x == 58) ≡ t
    → cond t (log.or_bad (number_named (lang v).nodes xs) (NoNode xs)) (number_field 255 (x ∷ xs)) ≡ Ok n → list_any (λ b. b == 36) (x ∷ xs) ≡ false
port-number-by v names x xs n true h e =
    let q = named-plain (lang v).nodes names.nodes xs n (some-found (number_named (lang v).nodes xs) (NoNode xs) n e) in
    let first : (x == 36) ≡ false = grind (arith, common_steps, h) in
    rw (first, q.0) refl
port-number-by v names x xs n false h e = no-dollar (x ∷ xs) (number-clean 255 (x ∷ xs) n e)

port-number-dollarless : (v : Language) → HasPlainWords v → (f : List ℕ) (n : ℕ) → port_number (lang v) f ≡ Ok n → list_any (λ b. b == 36) f ≡ false
port-number-dollarless v names [] n e = refl
port-number-dollarless v names (x ∷ xs) n e = port-number-by v names x xs n (x == 58) refl e

-- a host or a node: its first byte is `h` or `n`
lettered : (x : ℕ) (xs : List ℕ) → (x == 104 || x == 110) ≡ true → list_any (λ b. b == 36) xs ≡ false → IsPlainName (x ∷ xs)
lettered x xs h k =
    let first : (x == 36) ≡ false = grind (arith, common_steps, h) in
    (rw (first, k) refl, other-word (x ∷ xs) (codes "\\") (λ f. slice_index f 0 == 104 || slice_index f 0 == 110) h refl)

port-named : (v : Language) → HasPlainWords v → (x : ℕ) (xs : List ℕ) (by : PortId) (host : Bool) → (x == 104 || x == 110) ≡ true
    → cond host (log.◌>>=◌ (port_number (lang v) xs) (λ n. Ok (Host n))) (log.◌>>=◌ (port_number (lang v) xs) (λ n. Ok (Node n))) ≡ Ok by
    → IsPlainName (x ∷ xs)
port-named v names x xs by true h e =
    let p = first-done (port_number (lang v) xs) _ by e in
    lettered x xs h (port-number-dollarless v names xs p.0 p.1)
port-named v names x xs by false h e =
    let p = first-done (port_number (lang v) xs) _ by e in
    lettered x xs h (port-number-dollarless v names xs p.0 p.1)

port-by : (v : Language) → HasPlainWords v → (f : List ℕ) (by : PortId) (bus : Bool) → bytes_eq f (codes "bus") ≡ bus
    → (bus || (slice_index f 0 == 104 || slice_index f 0 == 110) && (is_digit (slice_index f 1) || slice_index f 1 == 58)) ≡ true
    → cond bus (Ok Bus) (cond (slice_index f 0 == 104) (log.◌>>=◌ (port_number (lang v) (drop 1 f)) (λ n. Ok (Host n))) (log.◌>>=◌ (port_number (lang v) (drop 1 f)) (λ n. Ok (Node n)))) ≡ Ok by
    → IsPlainName f
port-by v names f by true h i e = literal f (codes "bus") (refl, refl) ((bytes_eq-Decides f (codes "bus")).0 h)
port-by v names [] by false h i e = absurd (cc)
port-by v names (x ∷ xs) by false h i e =
    let p = and-true (x == 104 || x == 110) (is_digit (slice_index (x ∷ xs) 1) || slice_index (x ∷ xs) 1 == 58) i in
    port-named v names x xs by (x == 104) p.0 e

port-plain : (v : Language) → HasPlainWords v → (f : List ℕ) (by : PortId) → is_port f ≡ true → port (lang v) f ≡ Ok by → IsPlainName f
unfolding port
port-plain v names f by i e = port-by v names f by (bytes_eq f (codes "bus")) refl i e

-- ---- the forms of steps
send-plain : (v : Language) → HasPlainWords v → (fs : List (List ℕ)) (s : Step) → send_form (lang v) fs ≡ Ok s → AllPlain fs
unfolding send_form
send-plain v names [] s e = absurd (cc)
send-plain v names (a ∷ []) s e = absurd (cc)
send-plain v names (a ∷ b ∷ []) s e = absurd (cc)
send-plain v names (a ∷ b ∷ f ∷ fs) s e =
    let p = first-done (node_field (lang v) a) _ s e in
    let q = first-done (node_field (lang v) b) _ s p.2 in
    let r = first-done (bytes_fields (lang v) (f ∷ fs)) _ s q.2 in
    all-more a (b ∷ f ∷ fs) (node-plain v names a p.0 p.1) (all-more b (f ∷ fs) (node-plain v names b q.0 q.1) (bytes-plain v (f ∷ fs) r.0 r.1))

written-plain : (v : Language) (by signal : ℕ) (f : List ℕ) (s : Step) → write_of (lang v) by signal f ≡ Ok s → IsPlainName f
written-plain v by signal f s e = let p = first-done (value_field (lang v) f) _ s e in value-plain v f p.0 p.1

write-plain : (g : Language) → HasPlainWords g → (fs : List (List ℕ)) (s : Step) → write_form (lang g) fs ≡ Ok s → AllPlain fs
unfolding write_form
write-plain g names [] s e = absurd (cc)
write-plain g names (a ∷ []) s e = absurd (cc)
write-plain g names (a ∷ v ∷ []) s e =
    let p = first-done (signal_field (lang g) a) _ s e in
    all-more a (v ∷ []) (signal-plain g names a p.0 p.1) (all-more v [] (written-plain g _ p.0 v s p.2) refl)
write-plain g names (a ∷ b ∷ v ∷ []) s e =
    let p = first-done (node_field (lang g) a) _ s e in
    let q = first-done (signal_field (lang g) b) _ s p.2 in
    all-more a (b ∷ v ∷ []) (node-plain g names a p.0 p.1)
    (all-more b (v ∷ []) (signal-plain g names b q.0 q.1) (all-more v [] (written-plain g p.0 q.0 v s q.2) refl))
write-plain g names (a ∷ b ∷ v ∷ w ∷ fs) s e = absurd (cc)

hurt-plain : (v : Language) (fs : List (List ℕ)) (s : Step) → hurt_form (lang v) fs ≡ Ok s → AllPlain fs
unfolding hurt_form
hurt-plain v fs s e = let p = first-done (bytes_fields (lang v) fs) _ s e in bytes-plain v fs p.0 p.1

timeout-plain : (v : Language) → HasPlainWords v → (word : List ℕ) (fs : List (List ℕ)) (s : Step) → timeout_form (lang v) word fs ≡ Ok s → AllPlain fs
unfolding timeout_form
timeout-plain v names word [] s e = absurd (cc)
timeout-plain v names word (a ∷ []) s e = absurd (cc)
timeout-plain v names word (a ∷ d ∷ []) s e =
    let p = first-done (node_field (lang v) a) _ s e in
    let q = first-done (direction_field d) _ s p.2 in
    all-more a (d ∷ []) (node-plain v names a p.0 p.1) (all-more d [] (direction-plain d q.0 q.1) refl)
timeout-plain v names word (a ∷ d ∷ f ∷ fs) s e = absurd (cc)

switch-plain : (v : Language) → HasPlainWords v → (word : List ℕ) (fs : List (List ℕ)) (s : Step) → switch_form (lang v) word fs ≡ Ok s → AllPlain fs
unfolding switch_form
switch-plain v names word [] s e = absurd (cc)
switch-plain v names word (a ∷ []) s e =
    let p = first-done (table_field (lang v) a) _ s e in
    all-more a [] (table-plain v names a p.0 p.1) refl
switch-plain v names word (a ∷ f ∷ fs) s e = absurd (cc)

one-node-plain : (v : Language) → HasPlainWords v → (step : ℕ → Step) (word : List ℕ) (fs : List (List ℕ)) (s : Step) → node_form (lang v) step word fs ≡ Ok s → AllPlain fs
unfolding node_form
one-node-plain v names step word [] s e = absurd (cc)
one-node-plain v names step word (a ∷ []) s e =
    let p = first-done (node_field (lang v) a) _ s e in
    all-more a [] (node-plain v names a p.0 p.1) refl
one-node-plain v names step word (a ∷ f ∷ fs) s e = absurd (cc)

alone-plain : (step : Step) (word : List ℕ) (fs : List (List ℕ)) (s : Step) → alone step word fs ≡ Ok s → AllPlain fs
unfolding alone
alone-plain step word [] s e = refl
alone-plain step word (f ∷ fs) s e = absurd (cc)

-- a word that is the field, and the fields behind it, or what else there is
picked-by : (word w : List ℕ) (fs : List (List ℕ)) (a b : Result Step Reason) (s : Step) (t : Bool) → bytes_eq word w ≡ t → IsPlainName w
    → (a ≡ Ok s → AllPlain fs) → (b ≡ Ok s → AllPlain (word ∷ fs)) → cond t a b ≡ Ok s → AllPlain (word ∷ fs)
picked-by word w fs a b s true h plain k more e = all-more word fs (literal word w plain ((bytes_eq-Decides word w).0 h)) (k e)
picked-by word w fs a b s false h plain k more e = more e

picked : (word w : List ℕ) (fs : List (List ℕ)) (a b : Result Step Reason) (s : Step) → IsPlainName w
    → (a ≡ Ok s → AllPlain fs) → (b ≡ Ok s → AllPlain (word ∷ fs)) → cond (bytes_eq word w) a b ≡ Ok s → AllPlain (word ∷ fs)
picked word w fs a b s plain k more e = picked-by word w fs a b s (bytes_eq word w) refl plain k more e

step-plain : (v : Language) → HasPlainWords v → (word : List ℕ) (fs : List (List ℕ)) (s : Step) → step_form (lang v) word fs ≡ Ok s → AllPlain (word ∷ fs)
unfolding step_form
step-plain v names word fs s e =
    picked word (codes "send") fs _ _ s (refl, refl) (λ h. send-plain v names fs s h)
    (picked word (codes "write") fs _ _ s (refl, refl) (λ h. write-plain v names fs s h)
    (picked word (codes "open") fs _ _ s (refl, refl) (λ h. alone-plain _ word fs s h)
    (picked word (codes "answer") fs _ _ s (refl, refl) (λ h. one-node-plain v names _ word fs s h)
    (picked word (codes "leave") fs _ _ s (refl, refl) (λ h. one-node-plain v names _ word fs s h)
    (picked word (codes "hurt") fs _ _ s (refl, refl) (λ h. hurt-plain v fs s h)
    (picked word (codes "finish") fs _ _ s (refl, refl) (λ h. alone-plain _ word fs s h)
    (picked word (codes "timeout") fs _ _ s (refl, refl) (λ h. timeout-plain v names word fs s h)
    (picked word (codes "switch") fs _ _ s (refl, refl) (λ h. switch-plain v names word fs s h)
    (picked word (codes "sleep") fs _ _ s (refl, refl) (λ h. alone-plain _ word fs s h)
    (picked word (codes "wake") fs _ _ s (refl, refl) (λ h. alone-plain _ word fs s h)
    (picked word (codes "close") fs _ _ s (refl, refl) (λ h. one-node-plain v names _ word fs s h) (λ h. absurd (cc))))))))))))) e

after-plain : (v : Language) → HasPlainWords v → (fs : List (List ℕ)) (s : Step) → step_after (lang v) fs ≡ Ok s → AllPlain fs
after-plain v names [] s e = absurd (cc)
after-plain v names (w ∷ fs) s e = step-plain v names w fs s e

port-step-plain : (v : Language) → HasPlainWords v → (word : List ℕ) (fs : List (List ℕ)) (s : PortId × Step) → is_port word ≡ true
    → port_step (lang v) word fs ≡ Ok s → AllPlain (word ∷ fs)
unfolding port_step
port-step-plain v names word fs s i e =
    let p = first-done (port (lang v) word) _ s e in
    let q = first-done (step_after (lang v) fs) _ s p.2 in
    all-more word fs (port-plain v names word p.0 i p.1) (after-plain v names fs q.0 q.1)

-- ---- the fields of a line that says a step or nothing
abbrev Says : Language → List ℕ → List (List ℕ) → Option (PortId × Step) → Bool → Type 0
Says v word fs o t = cond t (log.◌>>=◌ (port_step (lang v) word fs) (λ s. Ok (Some s))) (Err NoPort) ≡ Ok o

fields-by : (v : Language) → HasPlainWords v → (word : List ℕ) (fs : List (List ℕ)) (o : Option (PortId × Step)) (t : Bool) → is_port word ≡ t → Says v word fs o t
    → AllPlain (word ∷ fs)
fields-by v names word fs o true i e =
    let p = first-done (port_step (lang v) word fs) _ o e in
    port-step-plain v names word fs p.0 i p.1
fields-by v names word fs o false i e = absurd (cc)

port-first : (v : Language) (word : List ℕ) (fs : List (List ℕ)) (o : Option (PortId × Step)) (t : Bool) → is_port word ≡ t → Says v word fs o t → is_port word ≡ true
port-first v word fs o true i e = i
port-first v word fs o false i e = absurd (cc)

-- a port begins no line that stands for others
unresolved : (word : List ℕ) → is_port word ≡ true → is_resolved word ≡ false
unresolved word i =
    rw (no-port word (codes "set") i refl, no-port word (codes "repeat") i refl, no-port word (codes "end") i refl, no-port word (codes "include") i refl) refl

begins-none : (v : Language) (fs : List (List ℕ)) (o : Option (PortId × Step)) → log.of_fields (lang v) fs ≡ Ok o → begins_resolved fs ≡ false
begins-none v [] o e = refl
begins-none v (word ∷ fs) o e = unresolved word (port-first v word fs o (is_port word) refl e)

named-fields : (v : Language) → HasPlainWords v → (fs : List (List ℕ)) (o : Option (PortId × Step)) → log.of_fields (lang v) fs ≡ Ok o → AllPlain fs
named-fields v names [] o e = refl
named-fields v names (word ∷ fs) o e = fields-by v names word fs o (is_port word) refl e

-- ---- the pieces of a text without `$` and `\`
abbrev pub AllClean : List (List ℕ) → Type 0
AllClean ps = list_any (λ f. list_any is_mark_byte f) ps ≡ false

cleans : (p : List ℕ) (ps : List (List ℕ)) → Clean p → AllClean ps → AllClean (p ∷ ps)
cleans p ps h k = rw (h, k) refl

first-clean : (p : List ℕ) (ps : List (List ℕ)) → AllClean (p ∷ ps) → Clean p
first-clean p ps h = (or-false (list_any is_mark_byte p) (list_any (λ f. list_any is_mark_byte f) ps) h).0

rest-clean : (p : List ℕ) (ps : List (List ℕ)) → AllClean (p ∷ ps) → AllClean ps
rest-clean p ps h = (or-false (list_any is_mark_byte p) (list_any (λ f. list_any is_mark_byte f) ps) h).1

onto-clean : (b : ℕ) (ps : List (List ℕ)) → is_mark_byte b ≡ false → AllClean ps → AllClean (onto_first b ps)
onto-clean b [] h k = cleans (b ∷ []) [] (clean-more b [] h refl) refl
onto-clean b (p ∷ ps) h k = cleans (b ∷ p) ps (clean-more b p h (first-clean p ps k)) (rest-clean p ps k)

split-by : (b : ℕ) (ps : List (List ℕ)) (t : Bool) → is_mark_byte b ≡ false → AllClean ps → AllClean (cond t ([] ∷ ps) (onto_first b ps))
split-by b ps true h k = cleans [] ps refl k
split-by b ps false h k = onto-clean b ps h k

pub split-clean : (p : ℕ → Bool) (text : List ℕ) → Clean text → AllClean (slice_split p text)
split-clean p [] h = refl
split-clean p (b ∷ bs) h =
    let q = or-false (is_mark_byte b) (list_any is_mark_byte bs) h in
    split-by b (slice_split p bs) (p b) q.0 (split-clean p bs q.1)

kept-by : (p : List ℕ) (ps rest : List (List ℕ)) (t : Bool) → Clean p → AllClean ps → AllClean rest → AllClean (cond t (p ∷ ps) rest)
kept-by p ps rest true h k l = cleans p ps h k
kept-by p ps rest false h k l = l

filter-clean : (ps : List (List ℕ)) → AllClean ps → AllClean (filter is_not_empty ps)
filter-clean [] h = refl
filter-clean (p ∷ ps) h =
    let more = filter-clean ps (rest-clean p ps h) in
    kept-by p (filter is_not_empty ps) (filter is_not_empty ps) (is_not_empty p) (first-clean p ps h) more more

while-clean : (p : List ℕ → Bool) (ps : List (List ℕ)) → AllClean ps → AllClean (take_while p ps)
while-clean p [] h = refl
while-clean p (x ∷ xs) h =
    subst AllClean (sym (take_while-cons p x xs)) (kept-by x (take_while p xs) [] (p x) (first-clean x xs h) (while-clean p xs (rest-clean x xs h)) refl)

clean-fields : (l : List ℕ) → Clean l → AllClean (line_fields l)
clean-fields l h = while-clean _ (filter is_not_empty (slice_split (is_gap true) l)) (filter-clean (slice_split (is_gap true) l) (split-clean (is_gap true) l h))

all-clean-plain : (fs : List (List ℕ)) → AllClean fs → AllPlain fs
all-clean-plain [] h = refl
all-clean-plain (f ∷ fs) h = all-more f fs (clean-plain f (first-clean f fs h)) (all-clean-plain fs (rest-clean f fs h))

take-clean : (n : ℕ) (l : List ℕ) → Clean l → Clean (take n l)
take-clean zero l h = refl
take-clean (suc n) [] h = refl
take-clean (suc n) (b ∷ bs) h =
    let q = or-false (is_mark_byte b) (list_any is_mark_byte bs) h in
    clean-more b (take n bs) q.0 (take-clean n bs q.1)

stripped-by : (l : List ℕ) (t : Bool) → Clean l → Clean (cond t (take (length l - 1) l) l)
stripped-by l true h = take-clean (length l - 1) l h
stripped-by l false h = h

strip-clean : (l : List ℕ) → Clean l → Clean (strip_carriage_return l)
strip-clean l h = stripped-by l _ h

-- ---- lines
abbrev pub IsPlainLine : Language → List ℕ → Type 0
IsPlainLine v l = Clean l ⊎ HasPlainWords v

plain-fields : (v : Language) (l : List ℕ) (o : Option (PortId × Step)) → IsPlainLine v l → log.of_fields (lang v) (line_fields l) ≡ Ok o → AllPlain (line_fields l)
plain-fields v l o (inl h) e = all-clean-plain (line_fields l) (clean-fields l h)
plain-fields v l o (inr names) e = named-fields v names (line_fields l) o e

-- a line that says a step or nothing, and neither is a comment nor begins with `>`
pub steps-resolve-nothing : (v : Language) (l : List ℕ) (o : Option (PortId × Step)) → IsPlainLine v l → log.of_fields (lang v) (line_fields l) ≡ Ok o
    → resolves l ≡ false
steps-resolve-nothing v l o plain e =
    resolves-nothing l (plain-fields v l o plain e) (begins-none v (line_fields l) o e)

abbrev pub ArePlainLines : Language → List (List ℕ) → Type 0
ArePlainLines v ls = AllClean ls ⊎ HasPlainWords v

pub plain-lines : (c : Parts) (text : List ℕ) → HasPlainFields c text → ArePlainLines (named_language c) (slice_split (λ b. b == 10) text)
plain-lines c text (inl h) = inl (split-clean (λ b. b == 10) text h)
plain-lines c text (inr names) = inr (record { nodes = names.nodes; signals = names.signals; tables = names.tables })

no-names : ArePlain nameless
no-names k lt = absurd (omega (arith, lt))

-- in numbers alone there are no names
pub numbers-are-plain : (ls : List (List ℕ)) → ArePlainLines numbers_alone ls
numbers-are-plain ls = inr (record { nodes = no-names; signals = no-names; tables = no-names })

pub plain-line : (v : Language) (l : List ℕ) (ls : List (List ℕ)) → ArePlainLines v (l ∷ ls) → IsPlainLine v (strip_carriage_return l)
plain-line v l ls (inl h) = inl (strip-clean l (first-clean l ls h))
plain-line v l ls (inr names) = inr names

pub plain-rest : (v : Language) (l : List ℕ) (ls : List (List ℕ)) → ArePlainLines v (l ∷ ls) → ArePlainLines v ls
plain-rest v l ls (inl h) = inl (rest-clean l ls h)
plain-rest v l ls (inr names) = inr names
