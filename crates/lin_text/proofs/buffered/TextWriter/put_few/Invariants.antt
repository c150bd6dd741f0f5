use Rattle.std.proofs.Common.{take}
use Rattle.lin_text.specs.Written.{Grows}
use Rattle.lin_text.proofs.buffered.TextWriter.put_few.Given as goal

abbrev pub invariant-loop-byte : goal.invariant-loop-byte
invariant-loop-byte g l = Grows g.W.Write.contents l.initial.self l.self (take l.byte-index l.bytes)
