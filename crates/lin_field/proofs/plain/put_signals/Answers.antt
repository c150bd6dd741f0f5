use Rattle.std.proofs.Common.{sym, ◌∙◌}
use Rattle.lin_text.proofs.Growing.{grows-more}
use Rattle.lin_field.proofs.plain.put_signals.Goals as goal

pub returns : goal.returns
returns g c =
    rw (sym c.is_empty.ensures ∙ c.if-is_empty.false) (grows-more c.put_text.ensures (grows-more c.put_all_signals.ensures c.put_text-2.ensures))
