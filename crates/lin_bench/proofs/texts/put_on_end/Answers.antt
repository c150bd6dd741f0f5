use Rattle.lin_text.proofs.Growing.{grows-more, same-growth}
use Rattle.lin_bench.proofs.OnTexts.{on-end-text}
use Rattle.lin_bench.proofs.texts.put_on_end.Goals as goal

pub returns : goal.returns
returns g c =
    same-growth (on-end-text c.args.cluster.now c.args.form.now)
    (grows-more c.put_text.ensures (grows-more (rw c.condition_line.ensures at c.put_word_list.ensures) c.put_text-2.ensures))
