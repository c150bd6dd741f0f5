use Rattle.std.proofs.Common.{ap}
use Rattle.lin_text.proofs.Growing.{grows-more, same-growth}
use Rattle.lin_tool.specs.Junit.{xml_text}
use Rattle.lin_tool.proofs.junit.put_name.Goals as goal

pub returns : goal.returns
returns g c = λ text is.
    grows-more c.put_text.ensures
    (grows-more (rw c.as_bytes.ensures.value at c.put_escaped.ensures)
    (grows-more c.put_text-2.ensures
    (grows-more c.put_case_place.ensures
    (grows-more c.put_text-3.ensures (grows-more (same-growth (ap xml_text is) c.put_escaped-2.ensures) c.put_text-4.ensures)))))
