use Rattle.std.proofs.Common.{take}
use Rattle.lin_text.specs.Written.{Grows}
use Rattle.lin_sections.specs.Differences.{differences_data}
use Rattle.lin_sections.specs.ListedDifferences.{difference_lines}
use Rattle.lin_sections.proofs.diff.difference_lines.put_listed.Given as goal

abbrev pub invariant-loop-difference : goal.invariant-loop-difference
invariant-loop-difference g l =
    Grows g.W.Write.contents l.fn.out l.out
    (difference_lines l.fn.old_file l.fn.new_file l.fn.classes (differences_data (take l.difference-index l.differences)))
