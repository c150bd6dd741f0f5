use Rattle.std.proofs.Common.{take}
use Rattle.lin_text.specs.Written.{Grows}
use Rattle.lin_tool.specs.campaign.Page.{object_text}
use Rattle.lin_tool.proofs.campaign.page.put_object_text.Given as goal

abbrev pub invariant-loop-byte : goal.invariant-loop-byte
invariant-loop-byte g l = Grows g.W.Write.contents l.initial.out l.out (object_text (take l.byte-index l.text))
