use Rattle.std.proofs.Common.{take}
use Rattle.lin_text.specs.Written.{Grows}
use Rattle.lin_tool.specs.PageFields.{guarded_text}
use Rattle.lin_tool.proofs.page.field.put_guarded.Given as goal

abbrev pub invariant-loop-byte : goal.invariant-loop-byte
invariant-loop-byte g l = Grows g.W.Write.contents l.initial.out l.out (guarded_text (take l.byte-index l.text))
