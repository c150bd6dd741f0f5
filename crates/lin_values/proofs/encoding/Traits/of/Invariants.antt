use Rattle.std.proofs.Common.{take}
use Rattle.lin_values.proofs.ItemTraits.{AreTraits}
use Rattle.lin_values.proofs.encoding.Traits.of.Given as goal

abbrev pub invariant-loop-one : goal.invariant-loop-one
invariant-loop-one l = AreTraits l.traits (take l.one-index l.items)
