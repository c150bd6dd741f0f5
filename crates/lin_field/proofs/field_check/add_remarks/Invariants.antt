use Rattle.std.proofs.Common.{◌≡◌, ◌++◌, map, take}
use Rattle.lin_field.specs.Checks.{remark}
use Rattle.lin_field.proofs.field_check.add_remarks.Given as goal

abbrev pub invariant-loop-finding : goal.invariant-loop-finding
invariant-loop-finding l = l.remarks.items ≡ l.fn.remarks.items ++ map (remark l.is_warning) (take l.finding-index l.findings)
