use Rattle.std.proofs.Common.{◌<◌, ◌+◌, ◌*◌, ◌^◌, arith}
use Rattle.lin_values.proofs.WideNumbers.{fits-more}
use Rattle.lin_values.proofs.meaning.wide_number.Goals as goal

pub overflow_mul-number : goal.overflow_mul-number
overflow_mul-number c =
    let most : 256 * c.loop-place.number + 0 < 2 ^ 64 = fits-more c.loop-place.number 0 c.loop-place.place c.loop-place.invariant.small (omega arith) (omega arith) in
    record { fits = omega (arith, most) }

pub overflow_add-number : goal.overflow_add-number
overflow_add-number c =
    record { fits = fits-more c.loop-place.number c.from.result c.loop-place.place c.loop-place.invariant.small (omega arith) (omega arith) }
