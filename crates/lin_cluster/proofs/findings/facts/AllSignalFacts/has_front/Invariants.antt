use Rattle.std.proofs.Common.{◌≡◌, take, false}
use Rattle.std.specs.List.{list_any}
use Rattle.lin_cluster.specs.Members.{is_in_front}
use Rattle.lin_cluster.proofs.findings.facts.AllSignalFacts.has_front.Given as goal

abbrev pub invariant-loop-placed : goal.invariant-loop-placed
invariant-loop-placed l = list_any (is_in_front l.self) (take l.placed-index l.frame.placed) ≡ false
