use Rattle.std.proofs.Common.{◌≡◌, take, false}
use Rattle.std.specs.List.{list_any}
use Rattle.lin_cluster.specs.Models.{carries_to_lin_1}
use Rattle.lin_cluster.proofs.findings.facts.AllSignalFacts.carry_to_lin_1.Given as goal

abbrev pub invariant-loop-placed : goal.invariant-loop-placed
invariant-loop-placed l = list_any (carries_to_lin_1 l.self) (take l.placed-index l.all_placed) ≡ false
