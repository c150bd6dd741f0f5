use Rattle.std.proofs.Common.{◌∙◌, ap, sym, flat_map}
use Rattle.lin_log.specs.Language.{named_language}
use Rattle.lin_text.proofs.Growing.{grows-more, same-growth}
use Rattle.lin_bench.specs.Texts.{pending_text}
use Rattle.lin_bench.specs.declared.got.Pending.TheVariants.{MessagesWait}
use Rattle.lin_bench.proofs.Appending.{head-and-rest}
use Rattle.lin_bench.proofs.LineWords.{pending-more}
use Rattle.lin_bench.proofs.texts.put_pending.Goals as goal

pub returns-in-len1-up : goal.returns-in-len1-up
returns-in-len1-up g c =
    let x = c.args.cluster.now in
    same-growth
    (pending-more (named_language x) _ _ ∙ sym (ap (pending_text x) (head-and-rest c.args.pending.now (MessagesWait 0 0) c.in-len1-up.len_at_least)))
    (grows-more (rw c.pending_words.ensures at c.put_joined.ensures) c.put_others.ensures)
