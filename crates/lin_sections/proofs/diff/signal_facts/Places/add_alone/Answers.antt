use Rattle.std.proofs.Common.{◌≡◌, ◌+◌, ◌++◌, ◌∷◌, [], ◌∙◌, Some, None, false, cond, length, not, ap, arith, sym}
use Rattle.std.specs.List.{position_from}
use Rattle.std.specs.Option.{option_or}
use Rattle.std.specs.Str.{bytes_eq}
use Rattle.lin_sections.specs.NewNames.{has_in}
use Rattle.lin_sections.proofs.PlacesOfSignals.{number-behind}
use Rattle.lin_sections.proofs.diff.signal_facts.Places.add_alone.Goals as goal

pub returns-clause-numbers : goal.returns-clause-numbers
returns-clause-numbers c = λ names size are q.
    let free : has_in c.args.others.now.map c.args.name.now ≡ false = sym c.has.ensures ∙ c.if-has.false in
    let number : c.len.result ≡ 0 + length names = omega (arith, size) in
    c.in_ok-put_first.ensures.put q
    ∙ (λ j. option_or (are q j) (cond (bytes_eq c.args.name.now q) (Some (number j)) None))
    ∙ sym (number-behind names 0 c.args.name.now q)
    ∙ ap (λ b. position_from (λ t. bytes_eq t q) 0 (names ++ cond (not b) (c.args.name.now ∷ []) [])) (sym free)
