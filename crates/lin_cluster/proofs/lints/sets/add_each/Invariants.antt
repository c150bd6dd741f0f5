use Rattle.std.proofs.Common.{◌≡◌, ℕ, List, take}
use Rattle.std.specs.Prelude.{◌||◌}
use Rattle.std.specs.List.{list_any}
use Rattle.lin_cluster.specs.LintNames.{has_text}
use Rattle.lin_cluster.proofs.lints.sets.add_each.Given as goal

abbrev pub invariant-loop-item : goal.invariant-loop-item
invariant-loop-item g l = (q : List ℕ) → has_text l.names.names q ≡ (has_text l.fn.names.names q || list_any (λ x. g.A.Adds.adds l.adder x q) (take l.item-index l.items))
