use Rattle.lin_text.proofs.Growing.{grows-more}
use Rattle.lin_export.proofs.cluster_lists.frame_lines.put_frame_lines.Goals as goal

pub returns : goal.returns
returns g c = grows-more c.put_frame.ensures c.put_places.ensures
