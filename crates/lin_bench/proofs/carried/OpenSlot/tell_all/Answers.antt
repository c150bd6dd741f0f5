use Rattle.std.proofs.Common.{◌∙◌, ◌∷◌, [], ◌++◌, sym, ap, arith, take}
use Rattle.std.proofs.lemmas.List.{take_more}
use Rattle.lin_core.specs.History.{slot_after_events}
use Rattle.lin_bench.specs.Carried.{shape}
use Rattle.lin_bench.proofs.Walks.{one-event}
use Rattle.lin_bench.proofs.carried.OpenSlot.tell_all.Goals as goal

pub loop-event-preserved : goal.loop-event-preserved
loop-event-preserved c = λ s e.
    let es = c.args.events.now in
    let i = c.loop-event.event-index in
    c.in_ok-tell.ensures (slot_after_events (take i es) s) (c.loop-event.invariant s e)
    ∙ ap shape (sym (ap (λ l. slot_after_events l s) (take_more es i c.event-item.result (omega arith) ∙ ap (λ x. take i es ++ x ∷ []) (sym c.event-item.is)) ∙ one-event (take i es) c.event-item.result s))
