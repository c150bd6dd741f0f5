use Rattle.std.proofs.Common.{flat_map, map, take}
use Rattle.lin_text.specs.Written.{Grows}
use Rattle.lin_export.specs.Json.{escaped_byte, printable_byte}
use Rattle.lin_export.proofs.json.put_printable.Given as goal

abbrev pub invariant-loop-byte : goal.invariant-loop-byte
invariant-loop-byte g l = Grows g.W.Write.contents l.initial.out l.out (flat_map escaped_byte (map printable_byte (take l.byte-index l.text)))
