use Rattle.std.proofs.Common.{take, flat_map}
use Rattle.std.specs.Str.{is_utf8}
use Rattle.lin_text.specs.Written.{Grows}
use Rattle.lin_tool.specs.Junit.{xml_byte}
use Rattle.lin_tool.proofs.junit.put_escaped.Given as goal

abbrev pub invariant-loop-byte : goal.invariant-loop-byte
invariant-loop-byte g l = Grows g.W.Write.contents l.initial.out l.out (flat_map (xml_byte (is_utf8 l.text)) (take l.byte-index l.text))
