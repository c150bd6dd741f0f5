use Rattle.std.specs.Prelude.{◌≡◌, ◌≤◌, length, option_map}
use Rattle.lin_bench.specs.Resolving.{items_left}
use Rattle.lin_bench.specs.Scripts.{read_items}
use Rattle.lin_bench.proofs.script.next_line.Given as goal

-- no line so far said anything
abbrev pub invariant-loop-place : goal.invariant-loop-place
invariant-loop-place l = record {
  same :
      read_items l.cluster (option_map (λ k. k.now) l.coded) l.limits (items_left l.script)
      ≡ read_items l.cluster (option_map (λ k. k.now) l.coded) l.limits (items_left l.fn.script);
  fewer : length (items_left l.script) ≤ length (items_left l.fn.script);
}

abbrev pub decreases-loop-place : goal.decreases-loop-place
decreases-loop-place l = length (items_left l.script)
