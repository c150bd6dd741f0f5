use Rattle.lin_text.proofs.Growing.{grows-more}
use Rattle.lin_export.proofs.cluster_lists.maps.put_map.Goals as goal

pub returns : goal.returns
returns g c = grows-more (grows-more c.put_map_line.ensures (rw c.layout.ensures at c.put_bytes.ensures)) c.put_marks.ensures
