use Rattle.lin_text.proofs.Growing.{grows-more}
use Rattle.lin_export.proofs.cluster_lists.maps.put_sign.Goals as goal

pub returns : goal.returns
returns g c = grows-more c.put_byte.ensures c.put_byte-2.ensures
