use Rattle.std.proofs.Common.{◌≡◌}
use Rattle.std.specs.Prelude.{false, find, ◌==◌}
use Rattle.std.specs.Option.{option_map_or}
use Rattle.lin_frame.specs.Words.{numbers}
use Rattle.lin_parts.specs.Cluster.{nad}
use Rattle.lin_core.proofs.bus_state.node_with.Given as goal

abbrev pub invariant-loop-node : goal.invariant-loop-node
invariant-loop-node l = l.found ≡ find (λ n. option_map_or (λ own. own == l.address) (nad l.cluster n) false) (numbers l.node)
