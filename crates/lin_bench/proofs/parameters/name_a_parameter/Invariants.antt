use Rattle.std.proofs.Common.{◌≡◌}
use Rattle.std.specs.List.{list_any}
use Rattle.lin_bench.specs.Parts.{fields_of}
use Rattle.lin_bench.specs.Resolved.{names_parameter}
use Rattle.lin_bench.proofs.parameters.name_a_parameter.Given as goal

-- no field so far has one
abbrev pub invariant-loop-field : goal.invariant-loop-field
invariant-loop-field l = list_any names_parameter (fields_of l.left) ≡ list_any names_parameter (fields_of l.fields)

abbrev pub decreases-loop-field : goal.decreases-loop-field
decreases-loop-field l = l.left.count
