use Rattle.std.proofs.Common.{◌++◌, false, filter, length, map, not}
use Rattle.std.specs.Prelude.{IsPermutation}
use Rattle.std.specs.List.{list_any}
use Rattle.lin_field.specs.Checks.{remark, same_finding}
use Rattle.lin_field.proofs.field_check.add_findings.Given as goal

abbrev pub invariant-loop-finding : goal.invariant-loop-finding
invariant-loop-finding l =
    IsPermutation (l.fn.remarks.items ++ map (remark false) (filter (λ f. not (list_any (same_finding f) l.tight)) l.fn.found.items)) (l.remarks.items ++ map (remark false) (filter (λ f. not (list_any (same_finding f) l.tight)) l.found.items))

abbrev pub decreases-loop-finding : goal.decreases-loop-finding
decreases-loop-finding l = length l.found.items
