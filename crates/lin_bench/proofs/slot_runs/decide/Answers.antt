use Rattle.std.proofs.Common.{arith}
use Rattle.std.proofs.lemmas.Result.{err_from_is_err_and}
use Rattle.std.proofs.lemmas.List.{map_more}
use Rattle.lin_bench.specs.Slots.{decision, way}
use Rattle.lin_bench.proofs.Makes.{made-nothing, made-more}
use Rattle.lin_bench.proofs.SlotSteps.{one-fails}
use Rattle.lin_bench.proofs.slot_runs.decide.Goals as goal

pub loop-node-init : goal.loop-node-init
loop-node-init c = made-nothing c.args.ruled.now

pub loop-node-preserved : goal.loop-node-preserved
loop-node-preserved c =
    let more = map_more (decision (way c.args.how.now c.args.offs.now)) c.args.due.now c.loop-node.node-index 0 (omega arith) in
    rw more (made-more c.args.ruled.now c.loop-node.ruled c.make.new.self _ _
    c.loop-node.invariant (rw c.decision.ensures at c.in_ok-make.ensures))

pub returns-in_err-make : goal.returns-in_err-make
returns-in_err-make c =
    let p = err_from_is_err_and c.from_residual.result c.from_residual.ensures.1 in
    rw (p.1, p.2) (one-fails _ c.args.ruled.now c.loop-node.ruled c.make.new.self (way c.args.how.now c.args.offs.now) c.args.due.now c.loop-node.node-index (omega arith)
    c.loop-node.invariant (rw c.decision.ensures at c.in_err-make.ensures))
