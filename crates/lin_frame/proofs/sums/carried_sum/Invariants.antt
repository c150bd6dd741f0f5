use Rattle.std.proofs.Common.{◌≡◌, ◌+◌, sum, take}
use Rattle.lin_frame.specs.Frame.{sum_with_carry}
use Rattle.lin_frame.proofs.sums.carried_sum.Given as goal

abbrev pub invariant-loop-byte : goal.invariant-loop-byte
invariant-loop-byte l = sum_with_carry (l.first + sum (take l.byte-index l.bytes)) ≡ l.total
