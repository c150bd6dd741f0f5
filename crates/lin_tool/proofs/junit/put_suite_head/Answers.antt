use Rattle.lin_text.proofs.Growing.{grows-more}
use Rattle.lin_tool.proofs.junit.put_suite_head.Goals as goal

pub returns : goal.returns
returns g c =
    grows-more c.put_text.ensures
    (grows-more (rw c.as_bytes.ensures.value at c.put_escaped.ensures)
    (grows-more c.put_text-2.ensures
    (grows-more c.put_number.ensures
    (grows-more c.put_text-3.ensures
    (grows-more c.put_number-2.ensures
    (grows-more c.put_text-4.ensures (grows-more c.put_number-3.ensures c.put_text-5.ensures)))))))
