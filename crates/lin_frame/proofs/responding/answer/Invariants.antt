use Rattle.std.proofs.Common.{◌≡◌, take}
use Rattle.lin_frame.proofs.responding.answer.Given as goal

abbrev pub invariant-loop-byte : goal.invariant-loop-byte
invariant-loop-byte l = l.answer_bytes.items ≡ take l.byte-index l.bytes
