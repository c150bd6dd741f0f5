use Rattle.std.proofs.Common.{◌≡◌, find, length, true, false}
use Rattle.lin_log.specs.Said.{fields, is_comment}
use Rattle.lin_bench.specs.Fields.{all_fields}
use Rattle.lin_bench.proofs.parameters.hash_field.Given as goal

-- no field so far begins a comment
abbrev pub invariant-loop-field : goal.invariant-loop-field
invariant-loop-field l = find (is_comment true) (fields false l.left) ≡ find (is_comment true) (all_fields l.line)

abbrev pub decreases-loop-field : goal.decreases-loop-field
decreases-loop-field l = length (fields false l.left)
