use Rattle.std.proofs.Common.{map, take}
use Rattle.lin_bench.specs.Making.{AreExecuted}
use Rattle.lin_bench.specs.Slots.{decision, way}
use Rattle.lin_bench.proofs.slot_runs.decide.Given as goal

abbrev pub invariant-loop-node : goal.invariant-loop-node
invariant-loop-node l = AreExecuted l.fn.ruled (map (decision (way l.how l.offs)) (take l.node-index l.due)) l.ruled
