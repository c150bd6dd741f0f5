use Rattle.std.proofs.Common.{arith}
use Rattle.lin_text.proofs.Growing.{grows-more, same-growth}
use Rattle.lin_tool.proofs.Moments.{last-some}
use Rattle.lin_tool.proofs.placing.put_last.Goals as goal

pub returns-else-slots-eq0 : goal.returns-else-slots-eq0
returns-else-slots-eq0 g c =
    same-growth (last-some c.args.slots (let h = c.if-slots-eq0.false in omega arith)) (grows-more c.put_text-else-slots-eq0.ensures c.put_number.ensures)
