use Rattle.std.proofs.Common.{flat_map, take}
use Rattle.lin_values.specs.Coded.{all_items, unit_of}
use Rattle.lin_values.specs.Units.{IsUnitOf}
use Rattle.lin_values.proofs.unit.unit_of.Given as goal

abbrev pub invariant-loop-one : goal.invariant-loop-one
invariant-loop-one l = IsUnitOf l.unit (flat_map unit_of (all_items (take l.one-index l.one-items)))
