use Rattle.lin_text.proofs.Growing.{grows-more}
use Rattle.lin_tool.proofs.placing.put_placed.Goals as goal

pub returns : goal.returns
returns g c =
    let name = rw (c.file_name.ensures, c.as_bytes.ensures.value) at c.put.ensures in
    grows-more name (grows-more c.put_text.ensures (grows-more c.put_number.ensures c.put_text-2.ensures))
