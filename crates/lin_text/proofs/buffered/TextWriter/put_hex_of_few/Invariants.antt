use Rattle.std.proofs.Common.{take}
use Rattle.hex.specs.Hex.{encode_upper}
use Rattle.lin_text.specs.Written.{Grows}
use Rattle.lin_text.proofs.buffered.TextWriter.put_hex_of_few.Given as goal

abbrev pub invariant-loop-byte : goal.invariant-loop-byte
invariant-loop-byte g l = Grows g.W.Write.contents l.initial.self l.self (encode_upper (take l.byte-index l.bytes))
