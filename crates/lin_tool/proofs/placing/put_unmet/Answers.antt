use Rattle.std.proofs.Common.{◌∙◌, sym}
use Rattle.lin_text.proofs.Growing.{grows-more}
use Rattle.lin_tool.proofs.placing.put_unmet.Goals as goal

pub returns-then-is_unmet : goal.returns-then-is_unmet
returns-then-is_unmet g c = λ log is.
    rw (sym c.is_unmet.ensures ∙ c.if-is_unmet.true) (grows-more (c.put_missed.ensures log is) c.put_byte.ensures)
