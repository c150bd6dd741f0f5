use Rattle.std.proofs.Common.{◌≡◌, ◌-◌, ◌≤◌, length}
use Rattle.lin_bench.specs.Parts.{fields_of}
use Rattle.lin_bench.specs.Words.{mark_at}
use Rattle.lin_bench.proofs.FieldParts.{further}
use Rattle.lin_bench.proofs.words.mark_at.Given as goal

abbrev pub invariant-loop-field : goal.invariant-loop-field
invariant-loop-field l = record {
  within : length (fields_of l.left) ≤ length (fields_of l.all);
  at : mark_at (fields_of l.all) ≡ further (length (fields_of l.all) - length (fields_of l.left)) (mark_at (fields_of l.left));
}

abbrev pub decreases-loop-field : goal.decreases-loop-field
decreases-loop-field l = length (fields_of l.left)
