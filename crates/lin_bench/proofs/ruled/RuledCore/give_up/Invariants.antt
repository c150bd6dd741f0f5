use Rattle.std.proofs.Common.{◌≡◌, ◌++◌, map, flat_map, is_some}
use Rattle.std.specs.Prelude.{filter}
use Rattle.lin_frame.specs.Words.{numbers}
use Rattle.lin_parts.specs.Cluster.{nad}
use Rattle.lin_core.specs.Core.{past_of}
use Rattle.lin_bench.specs.Added.{is_late, links_at, timeout_step}
use Rattle.lin_bench.proofs.ruled.RuledCore.give_up.Given as goal

abbrev pub invariant-loop-node : goal.invariant-loop-node
invariant-loop-node l =
    l.steps.items
    ≡ l.fn.steps.items
    ++ map timeout_step
    (filter (is_late l.self.core.cluster (past_of l.self.core) l.self.rules)
    (flat_map links_at (filter (λ n. is_some (nad l.self.core.cluster n)) (numbers l.node))))
