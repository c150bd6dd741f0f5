use Rattle.std.proofs.Common.{arith}
use Rattle.lin_export.proofs.last_slot.LastSlot.before.Goals as goal

pub returns-else-known-end-clause-within : goal.returns-else-known-end-clause-within
returns-else-known-end-clause-within c = let none = c.new.ensures.none in omega arith

pub returns-else-known-end-clause-kept : goal.returns-else-known-end-clause-kept
returns-else-known-end-clause-kept c = λ x es h. c.new.ensures.kept x es

pub returns-in-None-clause-within : goal.returns-in-None-clause-within
returns-in-None-clause-within c = let none = c.new-in-None.ensures.none in omega arith

pub returns-in-None-clause-kept : goal.returns-in-None-clause-kept
returns-in-None-clause-kept c = λ x es h. c.new-in-None.ensures.kept x es
