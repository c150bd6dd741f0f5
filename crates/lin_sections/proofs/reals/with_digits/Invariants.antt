use Rattle.std.proofs.Common.{◌≡◌, ◌-◌, drop}
use Rattle.lin_sections.specs.Real.{HasRoom, digits_units}
use Rattle.lin_sections.proofs.reals.with_digits.Given as goal

abbrev pub invariant-loop-c : goal.invariant-loop-c
invariant-loop-c l = record {
  left : l.rest ≡ l.left - l.c-index;
  same : digits_units l.units l.left l.down l.text ≡ digits_units l.sum l.rest l.down (drop l.c-index l.text);
  room : HasRoom l.sum l.rest l.down;
}
