use Rattle.std.proofs.Common.{◌∙◌, sym}
use Rattle.lin_export.proofs.slot_object.message_put.Goals as goal

pub returns-then-is_service : goal.returns-then-is_service
returns-then-is_service c = rw (sym c.is_service.ensures ∙ c.if-is_service.true)

pub returns-else-is_service : goal.returns-else-is_service
returns-else-is_service c =
    let last = rw c.puts.ensures at c.last.ensures.value in
    rw (sym c.is_service.ensures ∙ c.if-is_service.false) last
