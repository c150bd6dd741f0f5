use Rattle.std.proofs.Common.{◌*◌, ◌^◌, ◌-◌, ◌+◌, ◌<◌, ◌≤◌, ◌∙◌, ap, arith, refl}
use Rattle.lin_values.proofs.Fitting.{fewer-digits, size-below}
use Rattle.lin_values.proofs.Powers.{signed-times, slope-below, slope-units, physical-below, in-units, readable-from_units}
use Rattle.lin_values.proofs.Signs.{scaled-sum}
use Rattle.lin_values.proofs.decimals.physical.Goals as goal

pub overflow_mul-slope : goal.overflow_mul-slope
overflow_mul-slope c =
    let offset = c.args.offset in
    let rest = offset.digits * 10 ^ (c.max-places.result - offset.places) in
    let size : c.args.number * c.digits_at.result + rest < 2 ^ 127 = size-below c.args.number c.args.scale offset c.max-places.result c.digits_at.result rest c.max-places.ensures c.digits_at.ensures.same refl c.requires.fits in
    rw c.from.ensures (record { fits = omega (arith, size) })

pub sum-negative-requires : goal.sum-negative-requires
sum-negative-requires c =
    rw c.from.ensures (size-below c.args.number c.args.scale c.args.offset c.max-places.result c.digits_at.result c.digits_at-2.result c.max-places.ensures c.digits_at.ensures.same c.digits_at-2.ensures.same c.requires.fits)

pub returns-clause-same : goal.returns-clause-same
returns-clause-same c =
    let scale = c.args.scale in
    let offset = c.args.offset in
    let p = c.max-places.result in
    let units = scaled-sum scale.negative offset.negative c.sum-negative.result.0 (c.from.result * c.digits_at.result) c.digits_at-2.result c.sum-negative.result.1 (10 ^ (24 - p)) c.sum-negative.ensures.same in
    rw (signed-times scale.negative c.args.number (scale.digits * 10 ^ (24 - scale.places)))
    (c.shortest.ensures.same ∙ units
    ∙ rw (c.from.ensures, c.digits_at.ensures.same, c.digits_at-2.ensures.same, slope-units c.args.number scale.digits scale.places p (omega arith) (omega arith), in-units offset.digits offset.places p (omega arith) (omega arith)) refl)

pub returns-clause-size : goal.returns-clause-size
returns-clause-size c =
    let p = c.max-places.result in
    let size : c.args.number * c.digits_at.result + c.digits_at-2.result < 2 ^ 127 = size-below c.args.number c.args.scale c.args.offset p c.digits_at.result c.digits_at-2.result c.max-places.ensures c.digits_at.ensures.same c.digits_at-2.ensures.same c.requires.fits in
    let fewer : c.shortest.result.digits ≤ c.sum-negative.result.1 = fewer-digits c.sum-negative.result.1 c.shortest.result.digits p c.shortest.result.places c.shortest.ensures.places (omega arith) c.shortest.ensures.size in
    let few : c.shortest.result.places ≤ 24 = omega arith in
    (few, omega (arith, size, fewer, ap (λ r. r * c.digits_at.result) c.from.ensures, c.sum-negative.ensures.fits))

pub returns-clause-readable : goal.returns-clause-readable
returns-clause-readable c = λ small.
    let p = c.max-places.result in
    let slope = slope-below c.args.number c.digits_at.result p (omega (arith, small)) (omega arith) c.digits_at.ensures.fits in
    let few : c.shortest.result.places ≤ 24 = omega arith in
    let below : c.sum-negative.result.1 < 65536 * 10 ^ (9 + p) = omega (arith, slope, c.from.ensures, ap (λ r. r * c.digits_at.result) c.from.ensures, c.sum-negative.ensures.fits, c.digits_at-2.ensures.fits) in
    (few, readable-from_units c.shortest.result.digits c.shortest.result.places (c.sum-negative.result.1 * 10 ^ (24 - p)) few c.shortest.ensures.size (physical-below c.sum-negative.result.1 p (omega arith) below))
