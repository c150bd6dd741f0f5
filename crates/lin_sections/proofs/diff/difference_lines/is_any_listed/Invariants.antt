use Rattle.std.proofs.Common.{◌≡◌, take, false}
use Rattle.std.specs.List.{list_any}
use Rattle.lin_sections.specs.ListedDifferences.{lists_class}
use Rattle.lin_sections.proofs.diff.difference_lines.is_any_listed.Given as goal

abbrev pub invariant-loop-difference : goal.invariant-loop-difference
invariant-loop-difference l = list_any (λ d. lists_class l.classes d.class) (take l.difference-index l.differences) ≡ false
