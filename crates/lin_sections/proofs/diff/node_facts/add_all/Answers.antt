use Rattle.std.proofs.Common.{List, [], ◌∷◌, cond, map}
use Rattle.std.specs.Prelude.{filter}
use Rattle.lin_ldf.specs.Symbols.{Symbol}
use Rattle.lin_sections.specs.NewNames.{renames_data}
use Rattle.lin_sections.specs.Things.{attribute_fact, is_other_attribute}
use Rattle.lin_sections.proofs.FactSteps.{added-more, kept-mapped}
use Rattle.lin_sections.proofs.diff.node_facts.add_all.Goals as goal

pub loop-attribute-preserved : goal.loop-attribute-preserved
loop-attribute-preserved c =
    let of = attribute_fact (renames_data c.args.renames.now) in
    added-more (λ (xs : List (List Symbol)). map of (filter is_other_attribute xs)) (λ (x : List Symbol). cond (is_other_attribute x) (of x ∷ []) [])
    c.args.attributes.now c.loop-attribute.attribute-index c.attribute-item.result c.args.facts.now.items c.loop-attribute.facts.items c.add_attribute.new.facts.items
    (kept-mapped of is_other_attribute c.args.attributes.now c.loop-attribute.attribute-index c.attribute-item.result c.loop-attribute-test.true)
    c.attribute-item.is c.loop-attribute.invariant c.in_ok-add_attribute.ensures
