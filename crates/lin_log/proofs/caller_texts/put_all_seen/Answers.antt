use Rattle.std.proofs.Common.{arith}
use Rattle.lin_text.proofs.Growing.{grows-more, grows-next, grows-nothing}
use Rattle.lin_log.specs.CallerTexts.{seen_after}
use Rattle.lin_log.proofs.caller_texts.put_all_seen.Goals as goal

pub loop-text-init : goal.loop-text-init
loop-text-init g c = grows-nothing c.args.out.now

pub loop-text-preserved : goal.loop-text-preserved
loop-text-preserved g c =
    grows-next (seen_after c.args.gap.now) c.args.texts.now c.loop-text.text-index c.text-item.result c.text-item.is (omega arith) c.loop-text.invariant
    (grows-more c.put_text.ensures (rw c.as_slice.ensures at c.put_seen.ensures))
