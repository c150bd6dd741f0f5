use Rattle.std.proofs.Common.{arith}
use Rattle.lin_text.proofs.Growing.{grows-next, grows-nothing}
use Rattle.lin_bench.specs.Texts.{unmet_text}
use Rattle.lin_bench.proofs.texts.put_all_unmet.Goals as goal

pub loop-one-init : goal.loop-one-init
loop-one-init g c = grows-nothing c.args.out.now

pub loop-one-preserved : goal.loop-one-preserved
loop-one-preserved g c =
    grows-next (unmet_text c.args.cluster.now c.args.files.now) c.args.judgements.now c.loop-one.one-index c.one-item.result c.one-item.is (omega arith) c.loop-one.invariant c.put_unmet.ensures
