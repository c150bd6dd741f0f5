use Rattle.std.proofs.Common.{◌≡◌, ◌++◌, map, take}
use Rattle.lin_bench.specs.RulesInForce.{every_line}
use Rattle.lin_bench.proofs.rules_in_force.add_everies.Given as goal

abbrev pub invariant-loop-repeated : goal.invariant-loop-repeated
invariant-loop-repeated l =
    l.lines.items
    ≡ l.fn.lines.items ++ map (λ repeated. every_line l.cluster repeated.every) (take l.repeated-index l.everies)
