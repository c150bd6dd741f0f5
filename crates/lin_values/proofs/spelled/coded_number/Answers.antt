use Rattle.std.proofs.Common.{◌+◌, ◌-◌, ◌*◌, ◌≤◌, arith, get_or, sym}
use Rattle.lin_values.proofs.SpelledSteps.{digit-small, room}
use Rattle.lin_values.proofs.spelled.coded_number.Goals as goal

pub overflow_mul-number : goal.overflow_mul-number
overflow_mul-number c =
    let h : c.loop-digit.number * 16 + 16 ≤ 65536 = room c.loop-digit.number c.loop-digit.digit-index (omega arith) c.loop-digit.invariant.small in
    omega arith

pub overflow_add-number : goal.overflow_add-number
overflow_add-number c =
    let h : c.loop-digit.number * 16 + 16 ≤ 65536 = room c.loop-digit.number c.loop-digit.digit-index (omega arith) c.loop-digit.invariant.small in
    let k : get_or c.args.text.now c.loop-digit.digit-index 0 - 48 ≤ 9 = digit-small (get_or c.args.text.now c.loop-digit.digit-index 0) (sym c.if-not-is_ascii_digit.ensures.value) in
    omega (arith, c.from.ensures)
