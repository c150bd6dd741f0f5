use Rattle.std.proofs.Common.{◌≡◌, ◌++◌, map, take, drop}
use Rattle.lin_bench.specs.Faults.{struck_by}
use Rattle.lin_bench.proofs.faults.mark.Given as goal

abbrev pub invariant-loop-index : goal.invariant-loop-index
invariant-loop-index l = l.faults ≡ map (struck_by l.fn.slot l.fn.kind) (take l.index l.fn.faults) ++ drop l.index l.fn.faults
