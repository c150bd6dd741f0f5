use Rattle.lin_core.proofs.slots.OpenSlots.{decided-left, decided-put}
use Rattle.lin_core.proofs.slot.OpenSlot.has_decided.Goals as goal

pub returns-then-has_put : goal.returns-then-has_put
returns-then-has_put c = decided-put c.args.node c.args.self.now.puts.items c.args.self.now.left.items c.has_put.result (rw (← c.as_slice.ensures.value) c.has_put.ensures) c.if-has_put.true

pub returns-else-has_put : goal.returns-else-has_put
returns-else-has_put c =
    decided-left c.args.node c.args.self.now.puts.items c.args.self.now.left.items c.has_put.result c.has_left.result (rw (← c.as_slice.ensures.value) c.has_put.ensures) c.if-has_put.false
    (rw (← c.as_slice-else-has_put.ensures.value) c.has_left.ensures)
