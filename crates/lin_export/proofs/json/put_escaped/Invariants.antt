use Rattle.std.proofs.Common.{take, flat_map}
use Rattle.lin_text.specs.Written.{Grows}
use Rattle.lin_export.specs.Json.{escaped_byte}
use Rattle.lin_export.proofs.json.put_escaped.Given as goal

abbrev pub invariant-loop-byte : goal.invariant-loop-byte
invariant-loop-byte g l = Grows g.W.Write.contents l.initial.out l.out (flat_map escaped_byte (take l.byte-index l.text))
