use Rattle.std.proofs.Common.{◌∙◌, sym}
use Rattle.lin_bench.proofs.CountedSlots.{finish-counted, other-counted, refused-counted}
use Rattle.lin_bench.proofs.ruled.slots_after.Goals as goal

pub returns-then-not-finishes : goal.returns-then-not-finishes
returns-then-not-finishes c old by step made f counted = other-counted old by step c.args.log.now.entries c.args.before made (sym f ∙ c.if-not-finishes.true) counted

pub returns-then-is_done : goal.returns-then-is_done
returns-then-is_done c old by step made f counted =
    finish-counted old by step c.args.log.now.entries c.entry.result.now c.args.before made (rw c.len.ensures.len at c.entry.ensures) (sym f ∙ c.if-not-finishes.false)
    (sym c.is_done.ensures ∙ c.if-is_done.true) counted

pub returns-else-is_done : goal.returns-else-is_done
returns-else-is_done c old by step made f counted =
    refused-counted old by step c.args.log.now.entries c.entry.result.now c.args.before made (rw c.len.ensures.len at c.entry.ensures) (sym c.is_done.ensures ∙ c.if-is_done.false) counted
