use Rattle.std.proofs.Common.{◌≡◌, ◌≤◌, length, option_map}
use Rattle.lin_bench.specs.Files.{source_data}
use Rattle.lin_bench.specs.Resolving.{items_left}
use Rattle.lin_bench.specs.Scripts.{read, read_items, script_in_tests}
use Rattle.lin_bench.proofs.Appending.{appended}
use Rattle.lin_bench.proofs.script.read.Given as goal

abbrev pub invariant-loop-lines : goal.invariant-loop-lines
invariant-loop-lines l = record {
  same : appended l.lines.items (script_in_tests l.test (read_items l.cluster (option_map (λ k. k.now) l.coded) l.limits (items_left l.script))) ≡ read l.cluster (option_map (λ k. k.now) l.coded) l.limits (source_data l.source);
  tests : l.test ≤ length l.lines.items;
}

abbrev pub decreases-loop-lines : goal.decreases-loop-lines
decreases-loop-lines l = length (items_left l.script)
