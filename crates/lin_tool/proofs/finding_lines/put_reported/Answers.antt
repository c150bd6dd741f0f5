use Rattle.lin_text.proofs.Growing.{grows-more}
use Rattle.lin_tool.proofs.finding_lines.put_reported.Goals as goal

pub returns : goal.returns
returns g c =
    rw (c.from.ensures, c.as_bytes.ensures.value, c.name.ensures) at
    (grows-more c.put_place.ensures (grows-more c.put_byte.ensures (grows-more c.put_text.ensures
    (grows-more c.put_numbered.ensures (grows-more c.put_byte-2.ensures (grows-more c.put.ensures c.put_needed.ensures))))))
