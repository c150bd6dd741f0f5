use Rattle.std.proofs.Common.{◌≡◌}
use Rattle.std.specs.List.{list_any}
use Rattle.lin_log.specs.Judged.{left_length}
use Rattle.lin_bench.specs.Replacing.{pieces_left}
use Rattle.lin_bench.specs.Resolved.{has_name, is_first_name}
use Rattle.lin_bench.proofs.parameters.has_name.Given as goal

-- no piece so far begins with the name
abbrev pub invariant-loop-left : goal.invariant-loop-left
invariant-loop-left l = list_any (is_first_name l.name) (pieces_left l.left) ≡ has_name l.name l.field

abbrev pub decreases-loop-left : goal.decreases-loop-left
decreases-loop-left l = left_length l.left
