use Rattle.std.proofs.Common.{arith}
use Rattle.lin_text.proofs.Growing.{grows-next, grows-nothing}
use Rattle.lin_tool.specs.Placing.{placed_bad}
use Rattle.lin_tool.proofs.placing.put_all_bad.Goals as goal

pub loop-one-init : goal.loop-one-init
loop-one-init g c = grows-nothing c.args.out.now

pub loop-one-preserved : goal.loop-one-preserved
loop-one-preserved g c =
    grows-next (placed_bad c.args.names.script.now c.args.names.files.now) c.args.bad.now c.loop-one.one-index c.one-item.result c.one-item.is (omega arith) c.loop-one.invariant c.put_bad.ensures
