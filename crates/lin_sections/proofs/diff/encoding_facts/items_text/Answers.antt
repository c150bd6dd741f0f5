use Rattle.std.proofs.Common.{[]}
use Rattle.std.specs.Prelude.{fold}
use Rattle.lin_sections.specs.Renames.{with_item}
use Rattle.lin_sections.proofs.FactSteps.{fold-more, step-more}
use Rattle.lin_sections.proofs.diff.encoding_facts.items_text.Goals as goal

pub loop-fact-preserved : goal.loop-fact-preserved
loop-fact-preserved c =
    step-more (fold with_item []) with_item c.args.facts.now c.loop-fact.fact-index c.fact-item.result c.loop-fact.text.items c.put_item.new.text.items
    (fold-more with_item [] c.args.facts.now c.loop-fact.fact-index c.fact-item.result c.loop-fact-test.true) c.fact-item.is c.loop-fact.invariant c.in_ok-put_item.ensures
