use Rattle.std.proofs.Common.{arith}
use Rattle.lin_log.proofs.HexPairs.{pair-is, pair-none}
use Rattle.lin_log.proofs.digits.byte_of.Goals.{else-first-lt16-via-then-first-lt16+else-second-lt16, else-first-lt16-via-else-first-lt16}
use Rattle.lin_log.proofs.digits.byte_of.Goals as goal

pub returns-then-second-lt16 : goal.returns-then-second-lt16
returns-then-second-lt16 c =
    λ index. pair-is c.args.high c.args.low index _ _ c.value_of-first.ensures c.value_of-second.ensures c.if-first-lt16.true c.if-second-lt16.true

pub returns-else-first-lt16 : goal.returns-else-first-lt16
returns-else-first-lt16 c =
    λ index. pair-none c.args.high c.args.low index _ _ c.value_of-first.ensures c.value_of-second.ensures (λ h k. elim c.else-first-lt16.branch [
      | else-first-lt16-via-then-first-lt16+else-second-lt16 w ↦ omega (arith, w.if-second-lt16.false, k)
      | else-first-lt16-via-else-first-lt16 w ↦ omega (arith, w.if-first-lt16.false, h)
    ])
