use Rattle.std.proofs.Common.{◌≡◌, length}
use Rattle.lin_bench.specs.Files.{folder}
use Rattle.lin_bench.proofs.files.folder.Given as goal

-- nothing behind what is left has a `/`
abbrev pub invariant-loop-left : goal.invariant-loop-left
invariant-loop-left l = folder l.left ≡ folder l.name

abbrev pub decreases-loop-left : goal.decreases-loop-left
decreases-loop-left l = length l.left
