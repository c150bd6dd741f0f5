use Rattle.std.proofs.Common.{◌∙◌, ◌∷◌, [], ◌++◌, sym, ap, arith, take}
use Rattle.std.proofs.lemmas.List.{take_more}
use Rattle.std.specs.Option.{unwrap_or}
use Rattle.lin_core.specs.History.{slot_after_events}
use Rattle.lin_bench.specs.Arrivals.{entry_place}
use Rattle.lin_bench.proofs.Walks.{one-event, or-else}
use Rattle.lin_bench.proofs.arrivals.place_told.Goals as goal

pub loop-event-preserved : goal.loop-event-preserved
loop-event-preserved c = λ s.
    let es = c.args.events.now in
    let i = c.loop-event.event-index in
    let e = c.event-item.result in
    ap entry_place (ap (λ l. slot_after_events l s) (take_more es i e c.loop-event-test.true ∙ ap (λ x. take i es ++ x ∷ []) (sym c.event-item.is)) ∙ one-event (take i es) e s)
    ∙ c.place_in.ensures (slot_after_events (take i es) s) ∙ ap (unwrap_or c.place_in.result) (c.loop-event.invariant s)
    ∙ or-else c.place_in.result c.loop-event.told (entry_place s) ∙ ap (λ t. unwrap_or t (entry_place s)) (sym c.or-told.ensures)
