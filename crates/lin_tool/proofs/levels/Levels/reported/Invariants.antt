use Rattle.std.proofs.Common.{◌≡◌, take, filter}
use Rattle.lin_tool.specs.Levels.{is_reported}
use Rattle.lin_tool.proofs.levels.Levels.reported.Given as goal

abbrev pub invariant-loop-remark : goal.invariant-loop-remark
invariant-loop-remark l = l.reported.items ≡ filter (is_reported l.self.allowed) (take l.remark-index l.remarks)
