use Rattle.std.proofs.Common.{sym, ap, ◌∙◌, take, arith}
use Rattle.lin_core.specs.History.{slot_after_events}
use Rattle.lin_tool.specs.Placing.{entry_in}
use Rattle.lin_tool.proofs.Moments.{events-next}
use Rattle.lin_tool.proofs.placing.told_by_all.Goals as goal

pub loop-event-preserved : goal.loop-event-preserved
loop-event-preserved c = λ s is.
    let es = c.args.events.now in
    let i = c.loop-event.event-index in
    c.told_by-told.ensures (slot_after_events (take i es) s) (c.loop-event.invariant s is)
    ∙ ap entry_in (sym (events-next es i c.event-item.result s c.event-item.is (omega arith)))
