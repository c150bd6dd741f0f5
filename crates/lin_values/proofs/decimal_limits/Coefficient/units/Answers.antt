use Rattle.std.proofs.Common.{◌+◌, arith}
use Rattle.lin_values.specs.Value.{scaled_value}
use Rattle.lin_values.proofs.Powers.{ten-below}
use Rattle.lin_values.proofs.Solving.{coefficient-small, small-kept}
use Rattle.lin_values.proofs.decimal_limits.Coefficient.units.Goals as goal

pub units-requires : goal.units-requires
units-requires c =
    let p = c.self.inside.decimal.places in
    (c.self.invariant.0, omega (arith, c.self.invariant.1, ten-below (9 + c.self.inside.decimal.places) (14 + c.self.inside.decimal.places) (omega arith)))

pub returns-clause-small : goal.returns-clause-small
returns-clause-small c = small-kept c.units.result (scaled_value c.self.inside.decimal) c.units.ensures (coefficient-small c.self.inside.decimal c.self.invariant)
