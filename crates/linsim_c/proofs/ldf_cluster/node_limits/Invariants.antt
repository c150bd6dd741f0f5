use Rattle.std.proofs.Common.{◌≡◌, flat_map}
use Rattle.lin_frame.specs.Words.{numbers}
use Rattle.linsim_c.specs.Described.{limits_at}
use Rattle.linsim_c.proofs.ldf_cluster.node_limits.Given as goal

abbrev pub invariant-loop-node : goal.invariant-loop-node
invariant-loop-node l = l.all.items ≡ flat_map (limits_at l.cluster l.named) (numbers l.node)
