use Rattle.std.proofs.Common.{◌≡◌, ◌&&◌, Some, option_map, true, false}
use Rattle.std.specs.Option.{option_map_or}
use Rattle.std.specs.Str.{bytes_eq}
use Rattle.std.proofs.Common.{ap, sym, ◌∙◌, subst}
use Rattle.std.proofs.lemmas.Slice.Eq.{bytes_eq-Decides}
use Rattle.lin_values.specs.Meaning.{meaning, meant}
use Rattle.lin_values.specs.Shown.{shown}
use Rattle.lin_values.specs.Spelled.{IsHeld}
use Rattle.lin_values.proofs.coded.Coded.coded_as.Goals.{then-eq, else-eq, in_default-meaning-via-in-Some-meaning+else-is_coded, in_default-meaning-via-in_default-meaning}
use Rattle.lin_values.specs.Coded.{signal_at}
use Rattle.lin_values.specs.Raws.{is_coded, is_this}
use Rattle.lin_values.proofs.CodedAgain.{turned, for-signal, narrow-by, none-found, wide-found, not-coded, one-found, other-found, other-text, spelled-has, IsSpelled}
use Rattle.lin_values.proofs.SpelledValues.{first-small, rest-small}
use Rattle.lin_values.proofs.coded.Coded.coded_as.Goals as goal

pub returns-then-is_wide_array : goal.returns-then-is_wide_array
returns-then-is_wide_array c =
    let known = c.in-Some.known in
    let both : known.is_array && known.is_wide ≡ true = sym c.is_wide_array.ensures ∙ c.if-is_wide_array.true in
    wide-found c.args.self.now c.args.signal c.args.text.now (sym c.in-Some.ensures.1 ∙ first-small known.is_array known.is_wide both) (sym c.in-Some.ensures.2 ∙ rest-small known.is_array known.is_wide both)

-- src/ways_back.rt:53:13
pub returns-in_default-coded_value : goal.returns-in_default-coded_value
returns-in_default-coded_value c =
    let g = signal_at c.args.self.now c.args.signal in
    let known = c.in-Some.known in
    let e = c.coded_value.ensures in
    let plain : IsSpelled known.bits known.is_array c.args.text.now c.coded_value.result = record { array_letters = e.array_letters; array_digits = e.array_digits; scalar_letters = e.scalar_letters; scalar_digits = e.scalar_digits } in
    none-found c.args.self.now c.args.signal c.args.text.now c.coded_value.result (for-signal known.bits g.bits known.is_array g.is_array c.args.text.now c.coded_value.result c.in-Some.ensures.0 c.in-Some.ensures.1 plain) c.in_default-coded_value.is

-- src/ways_back.rt:45:5
pub returns-after-eq : goal.returns-after-eq
returns-after-eq c =
    let k = c.args.self.now in
    let signal = c.args.signal in
    let text = c.args.text.now in
    let known = c.in-Some.known in
    let o = c.coded_value.result in
    let value = c.in-Some-coded_value.value in
    let e = c.coded_value.ensures in
    let plain : IsSpelled known.bits known.is_array text o = record { array_letters = e.array_letters; array_digits = e.array_digits; scalar_letters = e.scalar_letters; scalar_digits = e.scalar_digits } in
    let h = for-signal known.bits (signal_at k signal).bits known.is_array (signal_at k signal).is_array text o c.in-Some.ensures.0 c.in-Some.ensures.1 plain in
    let m = meant c.in-Some-meaning.meaning in
    let found : meaning k signal value ≡ Some m = sym c.meaning.ensures ∙ ap (option_map meant) c.in-Some-meaning.is in
    let coded : is_coded m ≡ true = sym c.is_coded.ensures ∙ c.if-is_coded.true in
    let same : c.in_ok-shown-in-Some-meaning.shown.items ≡ shown m = c.in_ok-shown-in-Some-meaning.ensures in
    elim c.if-eq.branch [
      | then-eq w ↦
          let text-is : text ≡ shown m = sym ((bytes_eq-Decides c.as_slice.result.now text).0 (sym c.eq.ensures ∙ w.if-eq.true)) ∙ c.as_slice.ensures.value ∙ same in
          let held : IsHeld (signal_at k signal).bits (signal_at k signal).is_array value = subst (λ b. IsHeld b (signal_at k signal).is_array value) c.in-Some.ensures.0 (subst (λ a. IsHeld known.bits a value) c.in-Some.ensures.1 c.in-Some-coded_value.ensures.held) in
          let narrow : (signal_at k signal).is_array ≡ true → (signal_at k signal).is_wide ≡ false = λ array. sym c.in-Some.ensures.2 ∙ narrow-by known.is_array known.is_wide (c.in-Some.ensures.1 ∙ array) (sym c.is_wide_array.ensures ∙ c.if-is_wide_array.false) in
          let here = spelled-has k signal text o h value c.in-Some-coded_value.is held m found coded text-is narrow in
          λ v. ap (λ r. is_this r v) w.result-is ∙ one-found k signal text o h value c.in-Some-coded_value.is here v
      | else-eq w ↦
          let other : bytes_eq text (shown m) ≡ false = turned text (shown m) ∙ ap (λ xs. bytes_eq xs text) (sym (c.as_slice.ensures.value ∙ same)) ∙ sym c.eq.ensures ∙ w.if-eq.false in
          λ v. ap (λ r. is_this r v) w.result-is ∙ other-found k signal text o h value c.in-Some-coded_value.is (other-text k signal text value m found coded other) v
    ]

-- src/ways_back.rt:45:5
pub returns-in_default-meaning : goal.returns-in_default-meaning
returns-in_default-meaning c =
    let k = c.args.self.now in
    let signal = c.args.signal in
    let text = c.args.text.now in
    let known = c.in-Some.known in
    let o = c.coded_value.result in
    let value = c.in-Some-coded_value.value in
    let e = c.coded_value.ensures in
    let plain : IsSpelled known.bits known.is_array text o = record { array_letters = e.array_letters; array_digits = e.array_digits; scalar_letters = e.scalar_letters; scalar_digits = e.scalar_digits } in
    let h = for-signal known.bits (signal_at k signal).bits known.is_array (signal_at k signal).is_array text o c.in-Some.ensures.0 c.in-Some.ensures.1 plain in
    elim c.in_default-meaning.branch [
      | in_default-meaning-via-in-Some-meaning+else-is_coded w ↦
          let none : option_map_or is_coded (meaning k signal value) false ≡ false = ap (λ r. option_map_or is_coded r false) (sym c.meaning.ensures) ∙ ap (λ r. option_map_or is_coded (option_map meant r) false) w.in-Some-meaning.is ∙ sym w.is_coded.ensures ∙ w.if-is_coded.false in
          other-found k signal text o h value c.in-Some-coded_value.is (not-coded k signal text value none)
      | in_default-meaning-via-in_default-meaning w ↦
          let none : option_map_or is_coded (meaning k signal value) false ≡ false = ap (λ r. option_map_or is_coded r false) (sym c.meaning.ensures) ∙ ap (λ r. option_map_or is_coded (option_map meant r) false) w.in_default-meaning.is in
          other-found k signal text o h value c.in-Some-coded_value.is (not-coded k signal text value none)
    ]
