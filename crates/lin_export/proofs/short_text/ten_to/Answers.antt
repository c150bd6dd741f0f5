use Rattle.std.proofs.Common.{arith}
use Rattle.lin_values.proofs.Powers.{ten-below}
use Rattle.lin_export.proofs.short_text.ten_to.Goals as goal

pub overflow_mul-power : goal.overflow_mul-power
overflow_mul-power c = record { fits = omega (arith, ten-below c.loop-i._i 33 (omega arith)) }
