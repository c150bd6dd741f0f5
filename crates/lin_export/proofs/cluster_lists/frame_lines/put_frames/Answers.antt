use Rattle.lin_text.proofs.Growing.{grows-more}
use Rattle.lin_export.proofs.cluster_lists.frame_lines.put_frames.Goals as goal

pub returns : goal.returns
returns g c = grows-more (grows-more c.put_unconditional.ensures c.put_sporadics.ensures) c.put_events.ensures
