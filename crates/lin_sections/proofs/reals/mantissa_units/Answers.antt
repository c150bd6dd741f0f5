use Rattle.std.proofs.Common.{◌+◌, ◌<◌, ◌-◌, ◌++◌, ◌∙◌, sym, ap, arith, length}
use Rattle.std.specs.Prelude.{option_and_then}
use Rattle.std.proofs.lemmas.Grind.{common_steps}
use Rattle.lin_sections.specs.Real.{digits_units}
use Rattle.lin_sections.proofs.Mantissa.{fraction-after, below-all}
use Rattle.lin_sections.proofs.Rooms.{room-first}
use Rattle.lin_sections.proofs.reals.mantissa_units.Goals as goal
use Rattle.lin_sections.proofs.reals.mantissa_units.Goals.{else-is_empty-via-then-is_empty+else-is_empty-2, else-is_empty-via-else-is_empty}

pub with_digits-requires : goal.with_digits-requires
with_digits-requires c = room-first _ _

pub returns-in_err-units-clause-same : goal.returns-in_err-units-clause-same
returns-in_err-units-clause-same c =
    let some : 0 < length (c.args.whole.now ++ c.args.fraction.now) =
    elim c.else-is_empty.branch [
      | else-is_empty-via-then-is_empty+else-is_empty-2 w ↦ grind (arith, common_steps)
      | else-is_empty-via-else-is_empty w ↦ grind (arith, common_steps)
    ]
    in
    c.from_residual.ensures ∙ ap (λ o. option_and_then (λ n. digits_units n (24 + c.args.shift.up) c.args.shift.down c.args.fraction.now) o) (sym c.in_err-units.was)
    ∙ fraction-after c.args.whole.now c.args.fraction.now c.args.shift.up c.args.shift.down c.with_digits.result some c.with_digits.ensures.same

pub returns-clause-same : goal.returns-clause-same
returns-clause-same c =
    let some : 0 < length (c.args.whole.now ++ c.args.fraction.now) =
    elim c.else-is_empty.branch [
      | else-is_empty-via-then-is_empty+else-is_empty-2 w ↦ grind (arith, common_steps)
      | else-is_empty-via-else-is_empty w ↦ grind (arith, common_steps)
    ]
    in
    c.with_digits-2.ensures.same ∙ ap (λ o. option_and_then (λ n. digits_units n (24 + c.args.shift.up) c.args.shift.down c.args.fraction.now) o) (sym c.in_ok-units.was)
    ∙ fraction-after c.args.whole.now c.args.fraction.now c.args.shift.up c.args.shift.down c.with_digits.result some c.with_digits.ensures.same

pub returns-clause-fits : goal.returns-clause-fits
returns-clause-fits c = below-all c.with_digits-2.result (24 + c.args.shift.up - length c.args.fraction.now) c.args.shift.down c.with_digits-2.ensures.room
