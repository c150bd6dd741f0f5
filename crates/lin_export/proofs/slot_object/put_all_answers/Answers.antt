use Rattle.std.proofs.Common.{sym, ap, arith}
use Rattle.lin_text.proofs.Growing.{grows-more, same-growth}
use Rattle.lin_export.specs.Jsonl.{answer_value}
use Rattle.lin_export.proofs.Objects.{joined-more}
use Rattle.lin_export.proofs.slot_object.put_all_answers.Goals as goal

pub loop-place-preserved : goal.loop-place-preserved
loop-place-preserved g c =
    let says = answer_value c.args.cluster.now in
    same-growth (sym (joined-more says c.args.puts.now c.loop-place.place c.index-puts-place.result (omega arith)))
    (grows-more c.loop-place.invariant (grows-more c.put_separator.ensures (same-growth (ap says c.index-puts-place.is) c.put_answer.ensures)))
