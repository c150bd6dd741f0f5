use Rattle.std.proofs.Common.{◌∙◌, sym}
use Rattle.lin_tool.proofs.play_command.judge.Goals as goal

pub returns-else-fails : goal.returns-else-fails
returns-else-fails g c = (sym c.fails.ensures ∙ c.if-fails.false, (c.tell-told.result, c.tell-told.ensures))
