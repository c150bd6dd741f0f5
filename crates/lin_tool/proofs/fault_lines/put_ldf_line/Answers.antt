use Rattle.lin_text.proofs.Growing.{grows-more}
use Rattle.lin_tool.proofs.fault_lines.put_ldf_line.Goals as goal

pub returns : goal.returns
returns g c =
    grows-more c.put_text.ensures
    (grows-more c.put_place.ensures (grows-more c.put_text-2.ensures (grows-more c.put_text-3.ensures c.put_byte.ensures)))
