use Rattle.std.proofs.Common.{sym}
use Rattle.lin_parts.specs.Cluster.{sporadic_of}
use Rattle.lin_export.proofs.Rows.{find-nothing}
use Rattle.lin_export.proofs.named.sporadic_frame.Goals as goal

pub returns-in-None : goal.returns-in-None
returns-in-None c = rw (c.in-Sporadic.is, c.in-None.is) (sym (find-nothing (sporadic_of c.args.cluster.now c.in-Sporadic.sporadic)))
