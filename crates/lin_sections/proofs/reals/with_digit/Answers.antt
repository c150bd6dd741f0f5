use Rattle.std.proofs.Common.{◌-◌, ◌<◌, arith}
use Rattle.std.proofs.lemmas.Grind.{common_steps}
use Rattle.lin_sections.proofs.Rooms.{room-kept, room-taken, digit-fits}
use Rattle.lin_sections.proofs.reals.with_digit.Goals as goal

pub returns-then-c-eq48-clause-room : goal.returns-then-c-eq48-clause-room
returns-then-c-eq48-clause-room c = room-kept c.args.units c.args.left c.args.down c.requires.room

pub overflow_mul-result : goal.overflow_mul-result
overflow_mul-result c =
    let d : c.args.c - 48 < 10 = grind (arith, common_steps) in
    let h = digit-fits c.args.units (c.args.c - 48) c.args.left c.args.down d (omega arith) (omega arith) c.requires.room in
    rw (c.from.ensures, c.ten_to-power.ensures) (record { fits = omega (arith, h) })

pub overflow_add-result : goal.overflow_add-result
overflow_add-result c =
    let d : c.args.c - 48 < 10 = grind (arith, common_steps) in
    let h = digit-fits c.args.units (c.args.c - 48) c.args.left c.args.down d (omega arith) (omega arith) c.requires.room in
    rw (c.from.ensures, c.ten_to-power.ensures) (record { fits = omega (arith, h) })

pub returns-clause-room : goal.returns-clause-room
returns-clause-room c =
    let d : c.args.c - 48 < 10 = grind (arith, common_steps) in
    rw (c.from.ensures, c.ten_to-power.ensures) (room-taken c.args.units (c.args.c - 48) c.args.left c.args.down d (omega arith) (omega arith) c.requires.room)
