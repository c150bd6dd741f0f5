use Rattle.std.proofs.Common.{take}
use Rattle.lin_cluster.specs.Names.{NumbersFirst}
use Rattle.lin_cluster.proofs.names.numbers_of.Given as goal

abbrev pub invariant-loop-number : goal.invariant-loop-number
invariant-loop-number g l = NumbersFirst g.T.Named.name_of (take l.number l.all) l.numbers.map
