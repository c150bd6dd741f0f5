use Rattle.lin_text.proofs.Growing.{grows-more}
use Rattle.lin_export.proofs.cluster_lists.put_cluster.Goals as goal

pub returns : goal.returns
returns g c = grows-more (grows-more c.put_nodes.ensures c.put_signals.ensures) c.put_tables.ensures
