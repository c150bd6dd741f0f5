use Rattle.std.proofs.Common.{◌∙◌, Bool, List, map, ap}
use Rattle.std.specs.Prelude.{◌||◌}
use Rattle.std.proofs.lemmas.List.{take_all}
use Rattle.lin_parts.specs.declared.description.EventFrame.{EventFrame}
use Rattle.lin_parts.specs.declared.description.Name.{Name}
use Rattle.lin_sections.specs.NewNames.{has_in, is_among}
use Rattle.lin_sections.specs.Things.{is_event_member}
use Rattle.lin_sections.proofs.FactSteps.{any-more}
use Rattle.lin_sections.proofs.diff.frame_facts.members.Goals as goal

pub loop-event-preserved : goal.loop-event-preserved
loop-event-preserved c = λ q.
    let lists : EventFrame → Bool = λ e. is_among (map (λ (m : Name). m.text) e.members) q in
    any-more lists c.args.events.now c.loop-event.event-index c.event-item.result (has_in c.loop-event.members.map q) (has_in c.add_all.new.self.map q)
    c.loop-event-test.true c.event-item.is (c.loop-event.invariant q)
    (c.in_ok-add_all.ensures q ∙ ap (λ (ms : List Name). has_in c.loop-event.members.map q || is_among (map (λ (m : Name). m.text) ms) q) c.as_slice.ensures.value)

pub returns : goal.returns
returns c = λ q.
    c.loop-event.invariant q ∙ ap (λ (es : List EventFrame). is_event_member es q) (take_all c.loop-event.event-index c.args.events.now c.loop-event-test.false)
