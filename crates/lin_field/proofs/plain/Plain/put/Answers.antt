use Rattle.lin_text.proofs.Growing.{grows-more}
use Rattle.lin_field.proofs.plain.Plain.put.Goals as goal

pub returns : goal.returns
returns g c = grows-more c.put_header_part.ensures (grows-more c.put_frames_part.ensures c.put_tables_part.ensures)
