use Rattle.std.proofs.Common.{◌≡◌, drop, fold}
use Rattle.lin_bench.specs.Hints.{units_in, with_unit_of}
use Rattle.lin_bench.proofs.hints.units_in.Given as goal

abbrev pub invariant-loop-one : goal.invariant-loop-one
invariant-loop-one l = units_in l.items ≡ fold with_unit_of l.units.items (drop l.one-index l.items)
