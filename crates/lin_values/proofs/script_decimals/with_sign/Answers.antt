use Rattle.std.proofs.Common.{sym, ◌∙◌, ap, arith, ◌<◌, ◌≡◌, ◌*◌, ◌^◌, ◌-◌, length, Some, option_map}
use Rattle.std.proofs.lemmas.Grind.{common_steps}
use Rattle.lin_values.specs.Value.{with_sign, scaled_value}
use Rattle.lin_values.proofs.Places.{unsigned-is}
use Rattle.lin_values.proofs.Powers.{all-places, readable-from_units}
use Rattle.lin_values.proofs.script_decimals.with_sign.Goals as goal

pub returns : goal.returns
returns c =
    let units = c.in_ok-units.units in
    let some : 0 < length c.args.text.now = grind (arith, common_steps) in
    let whole = unsigned-is c.args.text.now units some (sym c.is_ascii_digit.ensures.value ∙ c.if-not-is_ascii_digit.false) (sym c.in_ok-units.ensures.same) in
    let same : scaled_value c.shortest.result ≡ with_sign c.args.negative units = c.shortest.ensures.same ∙ ap (with_sign c.args.negative) (all-places units) in
    let size : c.shortest.result.digits * 10 ^ (24 - c.shortest.result.places) ≡ units = c.shortest.ensures.size ∙ all-places units in (
      ap (λ x. option_map (with_sign c.args.negative) x) whole ∙ ap Some (sym same),
      (c.shortest.ensures.places, readable-from_units c.shortest.result.digits c.shortest.result.places units c.shortest.ensures.places size c.in_ok-units.ensures.fits),
      c.shortest.ensures.form,
    )
