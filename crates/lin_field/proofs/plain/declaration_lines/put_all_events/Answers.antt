use Rattle.std.proofs.Common.{List, ℕ, ap, flat_map, arith}
use Rattle.std.specs.Prelude.{zip}
use Rattle.std.proofs.lemmas.List.{take_all}
use Rattle.lin_parts.specs.declared.description.EventFrame.{EventFrame}
use Rattle.lin_text.proofs.Growing.{grows-next, same-growth}
use Rattle.lin_field.specs.Plain.{event_text_by}
use Rattle.lin_field.proofs.PlainWords.{pair-at, zip-long}
use Rattle.lin_field.proofs.plain.declaration_lines.put_all_events.Goals as goal

pub loop-number-preserved : goal.loop-number-preserved
loop-number-preserved g c =
    let events = c.args.events.now in
    let tables = c.args.tables.now in
    let long = zip-long events tables c.requires in
    let event = c.index-events-number in
    let table = c.index-tables-number in
    grows-next (λ (p : EventFrame × List ℕ). event_text_by p.0 p.1) (zip events tables) c.loop-number.number (event.result, table.result)
    (pair-at events tables c.loop-number.number event.result table.result event.is table.is (omega arith) (omega (arith, c.requires))) (omega (arith, long))
    c.loop-number.invariant c.put_event.ensures

pub returns : goal.returns
returns g c =
    let events = c.args.events.now in
    let tables = c.args.tables.now in
    let long = zip-long events tables c.requires in
    same-growth (ap (flat_map (λ (p : EventFrame × List ℕ). event_text_by p.0 p.1)) (take_all c.loop-number.number (zip events tables) (omega (arith, long)))) c.loop-number.invariant
