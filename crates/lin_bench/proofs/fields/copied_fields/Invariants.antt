use Rattle.std.proofs.Common.{◌≡◌, ◌++◌, length}
use Rattle.lin_bench.specs.Parts.{fields_of}
use Rattle.lin_bench.proofs.fields.copied_fields.Given as goal

abbrev pub invariant-loop-field : goal.invariant-loop-field
invariant-loop-field l = l.all.items ++ fields_of l.left ≡ fields_of l.fields

abbrev pub decreases-loop-field : goal.decreases-loop-field
decreases-loop-field l = length (fields_of l.left)
