use Rattle.std.proofs.Common.{arith}
use Rattle.lin_parts.proofs.Limits.{few-identifiers}
use Rattle.lin_parts.proofs.cluster.Cluster.new.Goals as goal

pub all_carriers-requires-clause-frames : goal.all_carriers-requires-clause-frames
all_carriers-requires-clause-frames c =
    let few = few-identifiers c.args.parts c.requires.identifiers in omega arith
