use Rattle.std.proofs.Common.{◌∙◌, sym}
use Rattle.lin_text.proofs.Growing.{grows-more}
use Rattle.lin_bench.proofs.texts.put_unmet.Goals as goal

pub returns-then-is_unmet : goal.returns-then-is_unmet
returns-then-is_unmet g c =
    rw (sym c.is_unmet.ensures ∙ c.if-is_unmet.true)
    (grows-more c.put_text.ensures (grows-more c.put_place_number.ensures (grows-more c.put_judged.ensures c.put_byte.ensures)))
