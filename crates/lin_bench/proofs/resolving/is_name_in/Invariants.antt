use Rattle.std.proofs.Common.{◌≡◌}
use Rattle.std.specs.List.{list_any}
use Rattle.lin_bench.specs.Parts.{fields_of}
use Rattle.lin_bench.specs.Resolved.{has_name}
use Rattle.lin_bench.proofs.resolving.is_name_in.Given as goal

-- no field so far has one
abbrev pub invariant-loop-field : goal.invariant-loop-field
invariant-loop-field l = list_any (has_name l.name) (fields_of l.left) ≡ list_any (has_name l.name) (fields_of l.fields)

abbrev pub decreases-loop-field : goal.decreases-loop-field
decreases-loop-field l = l.left.count
