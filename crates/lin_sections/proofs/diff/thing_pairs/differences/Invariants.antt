use Rattle.std.proofs.Common.{◌≡◌, take}
use Rattle.lin_sections.specs.Differences.{all_differences, differences_data}
use Rattle.lin_sections.proofs.diff.thing_pairs.differences.Given as goal

abbrev pub invariant-loop-kind : goal.invariant-loop-kind
invariant-loop-kind l =
    differences_data l.found.items ≡ all_differences (take l.kind l.olds) (take l.kind l.news)
