use Rattle.std.proofs.Common.{List, map, subst}
use Rattle.std.specs.Prelude.{IfSome}
use Rattle.lin_sections.specs.Numbering.{ArePlaces}
use Rattle.lin_sections.specs.declared.diff.fact.Fact.{Fact}
use Rattle.lin_sections.proofs.FactSteps.{lent-some}
use Rattle.lin_sections.proofs.diff.fact_pairs.add_new_facts.Goals as goal

pub add_new_fact-requires : goal.add_new_fact-requires
add_new_fact-requires c =
    lent-some (λ i. ArePlaces (map (λ (f : Fact). f.key) c.args.old.now.facts) i.map) c.as_ref-places.result c.in_ok-index.index c.as_ref-places.ensures.value
    (subst (λ (fs : List Fact). IfSome c.in_ok-index.index (λ i. ArePlaces (map (λ (f : Fact). f.key) fs) i.map)) c.as_slice.ensures c.in_ok-index.ensures)
