use Rattle.std.proofs.Common.{arith}
use Rattle.std.proofs.Math.Nat.{one-le-pow}
use Rattle.lin_values.proofs.script_decimals.with_places.Goals as goal

pub returns-clause-fits : goal.returns-clause-fits
returns-clause-fits c = omega (arith, c.loop-c.invariant.fits, one-le-pow c.loop-c.left 10 (omega arith))
