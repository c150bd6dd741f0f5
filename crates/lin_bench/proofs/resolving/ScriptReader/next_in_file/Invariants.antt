use Rattle.std.proofs.Common.{◌≡◌, ◌≤◌}
use Rattle.lin_bench.specs.Resolving.{items_left, steps_left}
use Rattle.lin_bench.proofs.resolving.ScriptReader.next_in_file.Given as goal

-- no line so far said anything
abbrev pub invariant-loop-line : goal.invariant-loop-line
invariant-loop-line l = record {
  same : items_left l.fn.self ≡ items_left l.self;
  fewer : steps_left l.self ≤ steps_left l.fn.self;
}

abbrev pub decreases-loop-line : goal.decreases-loop-line
decreases-loop-line l = l.self.left
