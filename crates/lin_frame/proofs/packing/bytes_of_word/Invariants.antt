use Rattle.std.proofs.Common.{◌≡◌, take}
use Rattle.std.specs.Int.{to_le_bytes, w64}
use Rattle.lin_frame.proofs.packing.bytes_of_word.Given as goal

abbrev pub invariant-loop-byte : goal.invariant-loop-byte
invariant-loop-byte l = l.bytes.items ≡ take l.byte-index (to_le_bytes w64 l.word)
