use Rattle.std.proofs.Common.{reverse, subst, sym, take}
use Rattle.lin_export.specs.LastSlot.{IsKeptOf, LastSlotData}
use Rattle.lin_export.proofs.LastSlots.{last-tracked}
use Rattle.lin_export.proofs.last_slot.LastSlot.find.Goals as goal

pub follow_to-requires-clause-track : goal.follow_to-requires-clause-track
follow_to-requires-clause-track c =
    let kept = c.before-last.ensures.kept c.args.cluster.now c.args.log.now.entries c.requires in
    (subst (λ (l : LastSlotData). IsKeptOf c.args.cluster.now c.args.log.now.entries l) (sym c.last.view_is) kept).1

pub returns-clause-last : goal.returns-clause-last
returns-clause-last c =
    let es = c.args.log.now.entries in
    let ends = rw c.in-Some.is at c.last_finish.ensures in
    last-tracked c.args.cluster.now (reverse es) (reverse (take c.in-Some.end es)) _ ends.1 c.in_ok-follow_to.ensures
