use Rattle.std.proofs.Common.{◌≡◌, ◌≤◌, ◌^◌, take}
use Rattle.std.specs.Prelude.{min}
use Rattle.lin_ldf.specs.Numbers.{decimal_value}
use Rattle.lin_field.proofs.wide.decimal_value.Given as goal

abbrev pub invariant-loop-c : goal.invariant-loop-c
invariant-loop-c l = record {
  value : l.value ≡ min (decimal_value (take l.c-index l.digits)) (2 ^ 64);
  capped : l.value ≤ 2 ^ 64;
}
