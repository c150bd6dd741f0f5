use Rattle.std.proofs.Common.{◌≡◌, ◌<◌, ℕ, take}
use Rattle.lin_frame.specs.Frame.{bit}
use Rattle.lin_frame.specs.Bits.{data_bit}
use Rattle.lin_frame.proofs.packing.word_of_bytes.Given as goal

abbrev pub invariant-loop-index : goal.invariant-loop-index
invariant-loop-index l = (b : ℕ) → b < 64 → bit l.word b ≡ data_bit (take l.index l.bytes) b
