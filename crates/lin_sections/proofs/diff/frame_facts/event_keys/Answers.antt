use Rattle.std.proofs.Common.{◌≤◌, ◌∙◌, List, length, map, ap, subst}
use Rattle.lin_parts.specs.declared.description.EventFrame.{EventFrame}
use Rattle.lin_sections.specs.NewNames.{has_in, is_among, keyed_name}
use Rattle.lin_sections.specs.Renames.{all_event_names, number_key}
use Rattle.lin_sections.specs.Things.{compared_data}
use Rattle.lin_sections.proofs.RenamedKinds.{all-alone}
use Rattle.lin_sections.proofs.diff.frame_facts.event_keys.Goals as goal

pub returns : goal.returns
returns c =
    let xs : List EventFrame = c.args.facts.now.ldf.description.now.events in
    let le : length xs ≤ c.loop-event.event-index =
    subst (λ (ys : List EventFrame). length ys ≤ c.loop-event.event-index) c.events-event-items.ensures c.loop-event-test.false in
    all-alone (λ (fs : List EventFrame). map (λ f. number_key f.name f.id) fs) (has_in c.in_ok-others.others.map) (all_event_names (compared_data c.args.other.now.ldf))
    (map keyed_name c.loop-event.keys.items) c.loop-event.event-index xs le
    (λ q. c.in_ok-others.ensures q ∙ ap (λ (fs : List EventFrame). is_among (map (λ f. f.name.text) fs) q) c.events.ensures)
    c.loop-event.invariant
