use Rattle.std.proofs.Common.{◌-◌, ◌<◌, arith, sym, ◌∙◌}
use Rattle.std.proofs.lemmas.Grind.{common_steps}
use Rattle.lin_values.proofs.Places.{place-fits, place-step}
use Rattle.lin_values.proofs.script_decimals.place.Goals as goal

pub overflow_mul-result : goal.overflow_mul-result
overflow_mul-result c =
    let d : c.args.c - 48 < 10 = grind (arith, common_steps) in
    let h = place-fits c.args.n (c.args.c - 48) c.args.left (omega arith) d c.requires.fits in
    rw (c.from.ensures, c.ten_to.ensures) (record { fits = omega (arith, h) })

pub overflow_add-result : goal.overflow_add-result
overflow_add-result c =
    let d : c.args.c - 48 < 10 = grind (arith, common_steps) in
    let h = place-fits c.args.n (c.args.c - 48) c.args.left (omega arith) d c.requires.fits in
    rw (c.from.ensures, c.ten_to.ensures) (record { fits = omega (arith, h) })

pub returns : goal.returns
returns c =
    let d : c.args.c - 48 < 10 = grind (arith, common_steps) in
    let h = place-fits c.args.n (c.args.c - 48) c.args.left (omega arith) d c.requires.fits in
    rw (c.from.ensures, c.ten_to.ensures)
    ((λ cs. place-step c.args.n c.args.left c.args.c cs (omega arith) (sym c.is_ascii_digit.ensures.value ∙ c.if-not-is_ascii_digit.false)), h, omega arith)
