use Rattle.std.proofs.Common.{◌≡◌, ◌++◌, List, flat_map, take, sym, ap, ◌∙◌, arith}
use Rattle.std.proofs.lemmas.Grind.{common_steps}
use Rattle.lin_core.specs.declared.event.Event.{Event}
use Rattle.lin_export.specs.Vcd.{Group, event_group}
use Rattle.lin_export.proofs.Groups.{groups-more, groups-none, same-groups}
use Rattle.lin_export.proofs.Rows.{texts-more}
use Rattle.lin_export.proofs.vcd.put_events.Goals as goal

pub loop-event-init : goal.loop-event-init
loop-event-init g c = λ count are. groups-none c.args.out.now c.args.last.now

pub loop-event-preserved : goal.loop-event-preserved
loop-event-preserved g c = λ count are.
    let es = c.args.events.now in
    let i = c.loop-event.event-index in
    let e = c.event-item.result in
    let says : Event → List Group = event_group c.args.cluster.now c.args.at count in
    same-groups (sym (texts-more says es i e (omega arith) ∙ ap (λ (v : Event). flat_map says (take i es) ++ says v) (sym c.event-item.is)))
    (groups-more (c.loop-event.invariant count are) (c.put_event.ensures count are))

pub returns : goal.returns
returns g c = λ count are.
    let es = c.args.events.now in
    let whole : take c.loop-event.event-index es ≡ es = grind (arith, common_steps) in
    same-groups (ap (flat_map (event_group c.args.cluster.now c.args.at count)) whole) (c.loop-event.invariant count are)
