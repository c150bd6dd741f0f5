use Rattle.std.proofs.Common.{arith}
use Rattle.lin_log.proofs.Found.{few-digits}
use Rattle.lin_log.proofs.values.hex_number.Goals as goal

pub overflow_mul-number : goal.overflow_mul-number
overflow_mul-number c =
    let p = few-digits c.loop-digit.digit-index c.loop-digit.number (omega arith) c.loop-digit.invariant.bound in
    omega arith

pub overflow_add-number : goal.overflow_add-number
overflow_add-number c =
    let p = few-digits c.loop-digit.digit-index c.loop-digit.number (omega arith) c.loop-digit.invariant.bound in
    omega (arith, c.in_ok-number.ensures.small)
