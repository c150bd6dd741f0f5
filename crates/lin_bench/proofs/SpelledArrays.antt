-- The array that has a text is the one that the text spells.
use Rattle.std.proofs.Common.{◌≡◌, ◌≢◌, ◌≤◌, ◌-◌, ◌+◌, ℕ, zero, suc, Bool, true, false, cond, not, ◌&&◌, List, [], ◌∷◌, ◌++◌, length, take, drop, refl, sym, ap, subst, ◌∙◌, arith}
use Rattle.std.specs.Prelude.{◌==◌, ◌/◌, Option, Some, None, nat_le, nat_lt, replicate, slice_index}
use Rattle.std.specs.Char.{is_ascii_digit}
use Rattle.std.specs.List.{list_all}
use Rattle.std.specs.Option.{option_map, option_map_or}
use Rattle.std.specs.Str.{bytes_eq}
use Rattle.std.proofs.lemmas.Bool.Decides.{nat_tests}
use Rattle.std.proofs.Math.Seq.{take-append_seam}
use Rattle.std.proofs.lemmas.List.{length-append}
use Rattle.lin_frame.specs.declared.value.Value.{Value}
use Rattle.lin_frame.specs.declared.value.Value.TheVariants.{Bytes}
use Rattle.lin_values.specs.Coded.{signal_at, CodedData}
use Rattle.lin_values.specs.Meaning.{meaning}
use Rattle.lin_values.specs.Meant.{Meant, Named, Number, Physical, Digits, Letters}
use Rattle.lin_values.specs.Raws.{array_spelled, bytes_of_digits, coded_raws, value_has_text, is_coded, is_value, raws_of, spelled_bytes}
use Rattle.lin_values.specs.Read.{number_and_unit}
use Rattle.lin_values.specs.Spelled.{character_array, byte_of, in_quotes, pairs}
use Rattle.lin_values.proofs.CodedAgain.{spelled, IsSpelled}
use Rattle.lin_values.proofs.WaysBack.{array-fails, names}

-- ---- the array that a text spells

abbrev pub array_bytes : ℕ → List ℕ → List ℕ
array_bytes bits text = take (bits / 8) (spelled_bytes text ++ replicate (bits / 8) 0)

abbrev zeros : ℕ → List ℕ
zeros n = replicate n 0

fills : (n m : ℕ) → n ≤ m → take n (zeros m) ≡ zeros n
fills zero m le = refl
fills (suc n) zero le = absurd (omega arith)
fills (suc n) (suc m) le = ap (λ xs. 0 ∷ xs) (fills n m (omega arith))

filled : (ls : List ℕ) (n m : ℕ) → length ls ≤ n → n ≤ length ls + m → take n (ls ++ zeros m) ≡ ls ++ zeros (n - length ls)
filled [] n m few le =
    let e : n - 0 ≡ n = omega arith in
    fills n m (omega arith) ∙ sym (ap zeros e)
filled (l ∷ ls) zero m few le = absurd (omega arith)
filled (l ∷ ls) (suc n) m few le =
    let e : suc n - suc (length ls) ≡ n - length ls = omega arith in
    ap (λ xs. l ∷ xs) (filled ls n m (omega arith) (omega arith) ∙ sym (ap (λ i. ls ++ zeros i) e))

pairs-step : (x : ℕ) (cs bs : List ℕ) (t : Bool) (o : Option (List ℕ)) → ((ys : List ℕ) → o ≡ Some ys → bytes_of_digits cs ≡ ys)
    → cond t (option_map (λ ys. x ∷ ys) o) None ≡ Some bs → x ∷ bytes_of_digits cs ≡ bs
pairs-step x cs bs true None rest e = absurd (cc)
pairs-step x cs bs true (Some ys) rest e =
    let same : x ∷ ys ≡ bs = cc in
    ap (λ zs. x ∷ zs) (rest ys refl) ∙ same
pairs-step x cs bs false o rest e = absurd (cc)

pairs-spell : (text bs : List ℕ) → pairs text ≡ Some bs → bytes_of_digits text ≡ bs
pairs-spell [] bs e = cc
pairs-spell (a ∷ []) bs e = absurd (cc)
pairs-spell (a ∷ b ∷ cs) bs e = pairs-step (byte_of a b) cs bs (is_ascii_digit a && is_ascii_digit b) (pairs cs) (pairs-spell cs) e

quoted-spell : (ls : List ℕ) → spelled_bytes (in_quotes ls) ≡ ls
quoted-spell ls =
    let e : length (in_quotes ls) - 2 ≡ length ls = omega (arith, length-append ls (34 ∷ [])) in
    ap (λ n. take n (ls ++ 34 ∷ [])) e ∙ take-append_seam ls (34 ∷ [])

digits-spell : (text : List ℕ) → slice_index text 0 ≢ 34 → spelled_bytes text ≡ bytes_of_digits text
digits-spell text other =
    let no : (slice_index text 0 == 34) ≡ false = grind (arith, nat_tests) in
    ap (λ b. cond b (take (length text - 2) (drop 1 text)) (bytes_of_digits text)) no

array-filled : (bits : ℕ) (text ls : List ℕ) → spelled_bytes text ≡ ls → length ls ≤ bits / 8 → array_spelled bits text ≡ character_array bits ls
array-filled bits text ls e few =
    ap (λ xs. Bytes (take (bits / 8) (xs ++ replicate (bits / 8) 0))) e
    ∙ ap Bytes (filled ls (bits / 8) (bits / 8) few (omega arith))

is-spelled : (bits : ℕ) (text : List ℕ) → IsSpelled bits true text (Some (array_spelled bits text))
is-spelled bits text = record {
  array_letters = λ a ls e few le. ap Some (array-filled bits text ls (ap spelled_bytes e ∙ quoted-spell ls) few);
  array_digits = λ a bs other e few le. ap Some (array-filled bits text bs (digits-spell text other ∙ pairs-spell text bs e) few);
  scalar_letters = λ a. absurd (let no : true ≡ false = a in cc);
  scalar_digits = λ a. absurd (let no : true ≡ false = a in cc);
}

-- ---- an array has a text only by digits or characters

both-pass : (a b : Bool) → a ≡ true → b ≡ true → a && b ≡ true
both-pass true b e f = f
both-pass false b e f = absurd (cc)

first-passes : (a b : Bool) → a && b ≡ true → a ≡ true
first-passes true b e = refl
first-passes false b e = absurd (cc)

second-passes : (a b : Bool) → a && b ≡ true → b ≡ true
second-passes true b e = e
second-passes false b e = absurd (cc)

rest-fails : (a b : Bool) → a ≡ true → a && b ≡ false → b ≡ false
rest-fails true b e f = f
rest-fails false b e f = absurd (let no : false ≡ true = e in cc)

by-coding : (k : CodedData) (s : ℕ) (text : List ℕ) (v : Value) (m : Meant) → names text (number_and_unit text) m ≡ false → value_has_text k s text v m ≡ true
    → is_coded m && value_has_text k s text v m ≡ true
by-coding k s text v (Named t) fails holds = absurd (let one : bytes_eq text t ≡ true = first-passes (bytes_eq text t) true holds in cc)
by-coding k s text v (Number n) fails holds = absurd (let one : names text (number_and_unit text) (Number n) ≡ true = first-passes (names text (number_and_unit text) (Number n)) true holds in cc)
by-coding k s text v (Physical z u) fails holds = absurd (let one : names text (number_and_unit text) (Physical z u) ≡ true = first-passes (names text (number_and_unit text) (Physical z u)) true holds in cc)
by-coding k s text v (Digits t) fails holds = holds
by-coding k s text v (Letters t) fails holds = holds

by-codings : (k : CodedData) (s : ℕ) (text : List ℕ) (v : Value) (o : Option Meant) → option_map_or (names text (number_and_unit text)) o false ≡ false
    → option_map_or (value_has_text k s text v) o false ≡ true → option_map_or (λ m. is_coded m && value_has_text k s text v m) o false ≡ true
by-codings k s text v None fails holds = absurd (cc)
by-codings k s text v (Some m) fails holds = by-coding k s text v m fails holds

array-coded : (k : CodedData) (s : ℕ) (text bs : List ℕ) → raws_of k s text (Bytes bs) ≡ true → coded_raws k s text (Bytes bs) ≡ true
array-coded k s text bs e =
    let is : Bool = is_value k s (Bytes bs) in
    let has : Bool = option_map_or (value_has_text k s text (Bytes bs)) (meaning k s (Bytes bs)) false in
    let named : Bool = option_map_or (names text (number_and_unit text)) (meaning k s (Bytes bs)) false in
    let unnamed : named ≡ false = rest-fails is named (first-passes is has e) (array-fails (names text (number_and_unit text)) (λ t. refl, λ t. refl) k s bs) in
    both-pass is (option_map_or (λ m. is_coded m && value_has_text k s text (Bytes bs) m) (meaning k s (Bytes bs)) false) (first-passes is has e)
    (by-codings k s text (Bytes bs) (meaning k s (Bytes bs)) unnamed (second-passes is has e))

pub one-array : (k : CodedData) (s : ℕ) (text bs : List ℕ) → raws_of k s text (Bytes bs) ≡ true → Bytes bs ≡ array_spelled (signal_at k s).bits text
one-array k s text bs e =
    let bits : ℕ = (signal_at k s).bits in
    let coded : coded_raws k s text (Bytes bs) ≡ true = array-coded k s text bs e in
    let own : Bool = (signal_at k s).is_array in
    let rest : Bool = not (signal_at k s).is_wide && (length bs == bits / 8 && (nat_le (length bs) 8 && list_all (λ b. nat_lt b 256) bs)) in
    let array : own ≡ true = first-passes own rest (first-passes (own && rest) (option_map_or (value_has_text k s text (Bytes bs)) (meaning k s (Bytes bs)) false) e) in
    let same : Some (array_spelled bits text) ≡ Some (Bytes bs) = spelled k s text (Some (array_spelled bits text)) (subst (λ a. IsSpelled bits a text (Some (array_spelled bits text))) (sym array) (is-spelled bits text)) (Bytes bs) coded in
    cc
