use Rattle.std.proofs.Common.{[], ap, sym}
use Rattle.std.specs.Prelude.{slice_index_or}
use Rattle.lin_text.proofs.Growing.{grows-more, same-growth}
use Rattle.lin_tool.specs.Junit.{xml_text}
use Rattle.lin_tool.proofs.junit.put_error.Goals as goal

pub returns : goal.returns
returns g c =
    grows-more c.put_suite_head.ensures
    (grows-more c.put_text.ensures
    (grows-more (rw c.as_bytes.ensures.value at c.put_escaped.ensures)
    (grows-more c.put_text-2.ensures
    (grows-more (same-growth (ap xml_text (sym (ap (λ l. slice_index_or l 0 []) c.first_line.ensures.lines))) c.put_escaped-2.ensures)
    (grows-more c.put_text-3.ensures
    (grows-more c.put_escaped_lines.ensures (grows-more c.put_text-4.ensures c.put_text-5.ensures)))))))
