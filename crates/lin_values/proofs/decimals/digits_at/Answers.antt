use Rattle.std.proofs.Common.{◌*◌, ◌^◌, ◌<◌, ◌≤◌, ◌-◌, ◌+◌, arith}
use Rattle.lin_values.proofs.Powers.{digits-below, ten-below}
use Rattle.lin_values.proofs.decimals.digits_at.Goals as goal

pub overflow_mul-result : goal.overflow_mul-result
overflow_mul-result c =
    let h : c.args.d.digits * 10 ^ (c.args.places - c.args.d.places) < 10 ^ (9 + c.args.places) = digits-below c.args.d.digits c.args.d.places c.args.places c.requires.more c.requires.limits.1 in
    let most : 10 ^ (9 + c.args.places) ≤ 10 ^ 33 = ten-below (9 + c.args.places) 33 (omega arith) in
    rw c.ten_to.ensures (record { fits = omega (arith, h, most) })

pub returns-clause-fits : goal.returns-clause-fits
returns-clause-fits c = rw c.ten_to.ensures (digits-below c.args.d.digits c.args.d.places c.args.places c.requires.more c.requires.limits.1)
