use Rattle.std.proofs.Common.{◌*◌, ◌^◌, ◌<◌, ◌-◌, arith}
use Rattle.lin_values.proofs.Powers.{readable-units}
use Rattle.lin_values.proofs.Wide.{negated-fits, negated-kept, units-kept}
use Rattle.lin_values.proofs.decimals.units.Goals as goal

pub overflow_mul-size : goal.overflow_mul-size
overflow_mul-size c =
    let h : c.args.d.digits * 10 ^ (24 - c.args.d.places) < 10 ^ 38 = readable-units c.args.d.digits c.args.d.places c.requires.0 c.requires.1 in
    rw c.ten_to.ensures (record { fits = omega (arith, h) })

pub overflow_cast-size : goal.overflow_cast-size
overflow_cast-size c =
    let h : c.args.d.digits * 10 ^ (24 - c.args.d.places) < 10 ^ 38 = readable-units c.args.d.digits c.args.d.places c.requires.0 c.requires.1 in
    rw c.ten_to.ensures (record { sfits = omega (arith, h) })

pub overflow_sub-result : goal.overflow_sub-result
overflow_sub-result c =
    rw c.ten_to.ensures
    (negated-fits (c.args.d.digits * 10 ^ (24 - c.args.d.places)) (readable-units c.args.d.digits c.args.d.places c.requires.0 c.requires.1))

pub returns-then-d : goal.returns-then-d
returns-then-d c =
    rw (c.ten_to.ensures, c.if-d.true)
    (negated-kept (c.args.d.digits * 10 ^ (24 - c.args.d.places)) (readable-units c.args.d.digits c.args.d.places c.requires.0 c.requires.1))

pub returns-else-d : goal.returns-else-d
returns-else-d c =
    rw (c.ten_to.ensures, c.if-d.false)
    (units-kept (c.args.d.digits * 10 ^ (24 - c.args.d.places)) (readable-units c.args.d.digits c.args.d.places c.requires.0 c.requires.1))
