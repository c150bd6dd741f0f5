use Rattle.std.proofs.Common.{◌≡◌, ◌++◌, map, take}
use Rattle.lin_cluster.specs.FindingsNames.{at_place}
use Rattle.lin_cluster.specs.declared.finding.FindingKind.TheVariants.{BadEncoding}
use Rattle.lin_values.proofs.coded.add_bad.Given as goal

abbrev pub invariant-loop-place : goal.invariant-loop-place
invariant-loop-place l = l.warned.items ≡ l.fn.warned.items ++ map (at_place BadEncoding) (take l.place-index l.bad)
