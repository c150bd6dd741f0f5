use Rattle.std.proofs.Common.{ap, sym, arith}
use Rattle.lin_text.proofs.Growing.{grows-more, same-growth}
use Rattle.lin_export.specs.Json.{printable_text}
use Rattle.lin_export.proofs.Objects.{joined-more}
use Rattle.lin_live.proofs.answer_objects.put_rule_values.Goals as goal

pub loop-place-preserved : goal.loop-place-preserved
loop-place-preserved g c =
    same-growth (sym (joined-more printable_text c.args.lines.now c.loop-place.place c.index-lines-place.result (omega arith)))
    (grows-more c.loop-place.invariant (grows-more c.put_separator.ensures (same-growth (ap printable_text c.index-lines-place.is) (rw c.as_slice.ensures at c.put_printable.ensures))))
