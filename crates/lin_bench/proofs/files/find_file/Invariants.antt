use Rattle.std.proofs.Common.{◌≡◌, ◌+◌, length}
use Rattle.lin_bench.specs.Files.{find_file, find_from}
use Rattle.lin_bench.proofs.files.find_file.Given as goal

-- none so far has the name
abbrev pub invariant-loop-left : goal.invariant-loop-left
invariant-loop-left l = record {
  same : find_from l.number l.left l.name ≡ find_file l.files l.name;
  count : l.number + length l.left ≡ length l.files + 1;
}

abbrev pub decreases-loop-left : goal.decreases-loop-left
decreases-loop-left l = length l.left
