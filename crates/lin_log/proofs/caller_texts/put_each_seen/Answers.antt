use Rattle.std.proofs.Common.{sym}
use Rattle.lin_text.proofs.Growing.{grows-more, grows-nothing, same-growth}
use Rattle.lin_log.specs.CallerTexts.{seen_byte}
use Rattle.lin_log.proofs.CallerTexts.{each-next}
use Rattle.lin_log.proofs.caller_texts.put_each_seen.Goals as goal

pub loop-byte-init : goal.loop-byte-init
loop-byte-init g c = grows-nothing c.args.out.now

pub loop-byte-preserved : goal.loop-byte-preserved
loop-byte-preserved g c =
    same-growth (sym (each-next seen_byte c.args.text.now c.loop-byte.byte-index 0 c.loop-byte-test.true))
    (grows-more c.loop-byte.invariant (rw c.seen.ensures at c.put_byte.ensures))
