use Rattle.std.proofs.Common.{◌≡◌}
use Rattle.lin_bench.specs.Resolving.{items_left, steps_left}
use Rattle.lin_bench.proofs.resolving.ScriptReader.next.Given as goal

-- no file so far said anything
abbrev pub invariant-files : goal.invariant-files
invariant-files l = items_left l.fn.self ≡ items_left l.self

abbrev pub decreases-files : goal.decreases-files
decreases-files l = steps_left l.self
