use Rattle.lin_cluster.proofs.FindingsRepeats.{one_more, two_more}
use Rattle.lin_cluster.proofs.findings.repeats.counted.Goals as goal

pub loop-id-preserved : goal.loop-id-preserved
loop-id-preserved c = λ x. (
  one_more c.args.ids.now c.loop-id.id-index x _ _ _ c.loop-id-test.true (c.loop-id.invariant x).0 (c.in_ok-count.ensures.one x),
  two_more c.args.ids.now c.loop-id.id-index x _ _ _ _ c.loop-id-test.true (c.loop-id.invariant x).0 (c.loop-id.invariant x).1 (c.in_ok-count.ensures.two x),
)
