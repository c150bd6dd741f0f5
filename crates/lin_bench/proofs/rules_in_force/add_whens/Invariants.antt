use Rattle.std.proofs.Common.{◌≡◌, ◌++◌, map, take}
use Rattle.lin_bench.specs.RulesInForce.{when_line}
use Rattle.lin_bench.proofs.rules_in_force.add_whens.Given as goal

abbrev pub invariant-loop-when : goal.invariant-loop-when
invariant-loop-when l = l.lines.items ≡ l.fn.lines.items ++ map (when_line l.cluster) (take l.when-index l.whens)
