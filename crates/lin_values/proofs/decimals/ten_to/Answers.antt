use Rattle.std.proofs.Common.{arith}
use Rattle.lin_values.proofs.Powers.{factors-below, factors-taken}
use Rattle.lin_values.proofs.decimals.ten_to.Goals as goal

pub overflow_mul-power : goal.overflow_mul-power
overflow_mul-power c = record {
  fits = omega (arith, factors-below c.loop-left.power c.loop-left.left 1 c.args.k c.loop-left.invariant.value (omega arith) c.requires);
}

pub loop-left-preserved-then-left-lt8 : goal.loop-left-preserved-then-left-lt8
loop-left-preserved-then-left-lt8 c = record {
  value = factors-taken c.loop-left.power c.loop-left.left 1 c.args.k c.loop-left.invariant.value (omega arith);
  few = omega arith;
}

pub overflow_mul-power-else-left-lt8 : goal.overflow_mul-power-else-left-lt8
overflow_mul-power-else-left-lt8 c = record {
  fits = omega (arith, factors-below c.loop-left.power c.loop-left.left 8 c.args.k c.loop-left.invariant.value (omega arith) c.requires);
}

pub loop-left-preserved : goal.loop-left-preserved
loop-left-preserved c = record {
  value = factors-taken c.loop-left.power c.loop-left.left 8 c.args.k c.loop-left.invariant.value (omega arith);
  few = omega arith;
}
