use Rattle.std.proofs.Common.{◌∙◌, Some, ap}
use Rattle.lin_tool.proofs.UnusedNames.{included}
use Rattle.lin_tool.proofs.play_command.included_file.Goals as goal

pub returns : goal.returns
returns c = ap Some (c.in_ok-copied.ensures.copy ∙ c.file_name.ensures) ∙ included c.args.files.now c.args.number c.if-number-eq0.false
