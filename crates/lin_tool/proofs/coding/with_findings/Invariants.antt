use Rattle.std.proofs.Common.{◌≡◌, ◌++◌, true, map, take}
use Rattle.lin_field.specs.Checks.{remark}
use Rattle.lin_tool.proofs.coding.with_findings.Given as goal

abbrev pub invariant-loop-finding : goal.invariant-loop-finding
invariant-loop-finding l = l.all.items ≡ l.fn.warnings ++ map (remark true) (take l.finding-index l.findings)
