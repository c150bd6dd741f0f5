use Rattle.std.proofs.Common.{take, flat_map}
use Rattle.lin_text.specs.Written.{Grows}
use Rattle.lin_tool.specs.PageFields.{page_byte}
use Rattle.lin_tool.proofs.page.field.put_field.Given as goal

abbrev pub invariant-loop-byte : goal.invariant-loop-byte
invariant-loop-byte g l = Grows g.W.Write.contents l.initial.out l.out (flat_map page_byte (take l.byte-index l.text))
