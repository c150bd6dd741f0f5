use Rattle.std.proofs.Common.{arith}
use Rattle.lin_export.proofs.last_slot.LastSlot.new.Goals as goal

pub returns-clause-kept : goal.returns-clause-kept
returns-clause-kept c = λ x es. (omega arith, c.new.ensures x)
