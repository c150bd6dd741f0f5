use Rattle.std.proofs.Common.{sym}
use Rattle.lin_log.specs.Language.{named_language}
use Rattle.lin_text.proofs.Growing.{grows-more, grows-nothing, same-growth}
use Rattle.lin_bench.specs.LineWords.{text_after_space}
use Rattle.lin_bench.specs.Texts.{other_pending_words}
use Rattle.lin_bench.specs.declared.got.Pending.TheVariants.{MessagesWait}
use Rattle.lin_bench.proofs.LineWords.{parts-next}
use Rattle.lin_bench.proofs.texts.put_others.Goals as goal

pub loop-one-init : goal.loop-one-init
loop-one-init g c = grows-nothing c.args.out.now

pub loop-one-preserved : goal.loop-one-preserved
loop-one-preserved g c =
    let x = c.args.cluster.now in
    same-growth (sym (parts-next (text_after_space (named_language x)) other_pending_words c.args.pending.now c.loop-one.one-index (MessagesWait 0 0) c.loop-one-test.true))
    (grows-more c.loop-one.invariant (grows-more c.put_byte.ensures (rw c.pending_words.ensures at c.put_all_after.ensures)))
