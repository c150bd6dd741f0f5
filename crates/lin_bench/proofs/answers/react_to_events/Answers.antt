use Rattle.std.proofs.Common.{◌≡◌, ◌∙◌, suc, ◌+◌, ◌∷◌, sym, ap, arith, add-one, drop, drop-cons}
use Rattle.std.specs.Option.{option_copied}
use Rattle.lin_bench.specs.Rules.{after_events}
use Rattle.lin_bench.proofs.answers.react_to_events.Goals as goal

pub loop-event-preserved : goal.loop-event-preserved
loop-event-preserved c =
    let es = c.args.events.now in
    let i = c.loop-event.event-index in
    let e = c.event-item.result in
    let after = after_events (option_copied c.args.served) c.args.to_all c.args.time in
    let here : drop i es ≡ e ∷ drop (i + 1) es =
    drop-cons es i e (omega arith) ∙ ap (λ x. x ∷ drop (suc i) es) (sym c.event-item.is) ∙ ap (λ j. e ∷ drop j es) (sym (add-one i)) in
    c.loop-event.invariant ∙ ap (after c.loop-event.rules) here
    ∙ ap (λ r. after r (drop (i + 1) es)) (sym c.in_ok-react_to_event.ensures)
