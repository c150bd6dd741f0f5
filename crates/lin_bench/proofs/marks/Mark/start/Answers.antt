use Rattle.std.proofs.Common.{arith, take}
use Rattle.lin_bench.proofs.marks.Mark.start.Goals as goal

pub returns-clause-mark : goal.returns-clause-mark
returns-clause-mark c log = record { entries = omega arith; taken = (c.none-2.ensures (take 0 log)).0 }
