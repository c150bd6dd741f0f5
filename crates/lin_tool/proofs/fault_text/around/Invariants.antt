use Rattle.std.proofs.Common.{◌≡◌, drop, take}
use Rattle.lin_tool.specs.FaultText.{split_around}
use Rattle.lin_tool.proofs.FaultTexts.{behind}
use Rattle.lin_tool.proofs.fault_text.around.Given as goal

abbrev pub invariant-loop-i : goal.invariant-loop-i
invariant-loop-i l = split_around l.fn.mark l.fn.text ≡ behind (take l.i l.fn.text) (split_around l.fn.mark (drop l.i l.fn.text))
