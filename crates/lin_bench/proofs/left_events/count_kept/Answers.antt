use Rattle.std.proofs.Common.{arith}
use Rattle.lin_bench.proofs.left_events.count_kept.Goals as goal

pub returns-then-is_of-clause-count : goal.returns-then-is_of-clause-count
returns-then-is_of-clause-count c = λ es within kept. rw c.in-Some.is at kept

pub returns-else-is_of-clause-count : goal.returns-else-is_of-clause-count
returns-else-is_of-clause-count c = λ es within kept. record { order = omega arith; within = within; count = omega arith; few = omega arith }

pub returns-in_default-clause-count : goal.returns-in_default-clause-count
returns-in_default-clause-count c = λ es within kept. record { order = omega arith; within = within; count = omega arith; few = omega arith }
