use Rattle.std.proofs.Common.{◌≡◌, ◌++◌, map, take}
use Rattle.lin_bench.specs.RulesInForce.{on_line}
use Rattle.lin_bench.proofs.rules_in_force.add_ons.Given as goal

abbrev pub invariant-loop-watched : goal.invariant-loop-watched
invariant-loop-watched l =
    l.lines.items
    ≡ l.fn.lines.items ++ map (λ watched. on_line l.cluster watched.on) (take l.watched-index l.ons)
