use Rattle.std.proofs.Common.{sym}
use Rattle.lin_values.proofs.ShortestAgain.{decimal-again}
use Rattle.lin_values.proofs.decimal_limits.PhysicalValue.decimal.Goals as goal

pub returns-clause-same : goal.returns-clause-same
returns-clause-same c = rw (← c.self.view_is) (sym (decimal-again c.self.inside.decimal c.self.invariant.0.0 c.self.invariant.1))
