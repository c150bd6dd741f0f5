use Rattle.std.proofs.Common.{◌≡◌, ◌∙◌, ◌*◌, ◌^◌, ◌-◌}
use Rattle.lin_values.proofs.Powers.{all-places, limits-from_units}
use Rattle.lin_sections.proofs.reals.real.Goals as goal

pub new-requires : goal.new-requires
new-requires c =
    let units = c.in-Some.units in
    let size : c.shortest.result.digits * 10 ^ (24 - c.shortest.result.places) ≡ units = c.shortest.ensures.size ∙ all-places units in
    (c.shortest.ensures.places, limits-from_units c.shortest.result.digits c.shortest.result.places units c.shortest.ensures.places size c.in-Some.ensures.fits)

pub returns-in-Some-clause-form : goal.returns-in-Some-clause-form
returns-in-Some-clause-form c =
    let units = c.in-Some.units in
    let size : c.shortest.result.digits * 10 ^ (24 - c.shortest.result.places) ≡ units = c.shortest.ensures.size ∙ all-places units in
    rw c.new.ensures ((c.shortest.ensures.places, limits-from_units c.shortest.result.digits c.shortest.result.places units c.shortest.ensures.places size c.in-Some.ensures.fits), c.shortest.ensures.form)
