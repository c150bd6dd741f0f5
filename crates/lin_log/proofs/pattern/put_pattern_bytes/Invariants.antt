use Rattle.std.proofs.Common.{flat_map, take}
use Rattle.lin_text.specs.Written.{Grows}
use Rattle.lin_log.specs.Words.{byte_word}
use Rattle.lin_log.proofs.pattern.put_pattern_bytes.Given as goal

abbrev pub invariant-loop-byte : goal.invariant-loop-byte
invariant-loop-byte g l = Grows g.W.Write.contents l.initial.out l.out (flat_map byte_word (take l.byte-index l.bytes))
