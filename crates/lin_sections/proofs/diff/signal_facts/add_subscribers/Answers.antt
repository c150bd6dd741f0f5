use Rattle.std.specs.Prelude.{fold}
use Rattle.lin_sections.specs.NewNames.{renames_data}
use Rattle.lin_sections.specs.Things.{with_subscriber}
use Rattle.lin_sections.proofs.FactSteps.{fold-more, step-more}
use Rattle.lin_sections.proofs.diff.signal_facts.add_subscribers.Goals as goal

pub loop-subscriber-preserved : goal.loop-subscriber-preserved
loop-subscriber-preserved c =
    let more = with_subscriber (renames_data c.args.renames.now) in
    step-more (fold more c.args.facts.now.items) more c.args.subscribers.now c.loop-subscriber.subscriber-index c.subscriber-item.result c.loop-subscriber.facts.items c.add_subscriber.new.facts.items
    (fold-more more c.args.facts.now.items c.args.subscribers.now c.loop-subscriber.subscriber-index c.subscriber-item.result c.loop-subscriber-test.true) c.subscriber-item.is c.loop-subscriber.invariant c.in_ok-add_subscriber.ensures
