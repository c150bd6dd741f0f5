use Rattle.lin_text.proofs.Growing.{grows-more}
use Rattle.lin_export.proofs.cluster_lists.slot_times.put_table.Goals as goal

pub returns : goal.returns
returns g c = grows-more c.put_table_slots.ensures c.put_load.ensures
