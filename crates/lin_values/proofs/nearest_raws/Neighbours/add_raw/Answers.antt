use Rattle.std.proofs.Common.{arith}
use Rattle.lin_values.proofs.Fitting.{small-fits}
use Rattle.lin_values.proofs.nearest_raws.Neighbours.add_raw.Goals as goal

pub physical-requires-clause-fits : goal.physical-requires-clause-fits
physical-requires-clause-fits c = small-fits c.from.result c.decimal.result c.decimal-2.result (omega arith) c.decimal.ensures.limits c.decimal-2.ensures.limits
