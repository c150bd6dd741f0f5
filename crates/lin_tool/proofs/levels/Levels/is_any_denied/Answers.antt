use Rattle.std.proofs.Common.{◌∙◌}
use Rattle.lin_tool.specs.Levels.{is_denied, is_reported}
use Rattle.lin_tool.proofs.Leveled.{any_kept}
use Rattle.lin_tool.proofs.levels.Levels.is_any_denied.Goals as goal

pub returns : goal.returns
returns c =
    c.is_any_reported_and_denied.ensures ∙ any_kept (is_reported c.args.self.now.allowed) (is_denied c.args.self.now.denied) c.args.remarks.now
