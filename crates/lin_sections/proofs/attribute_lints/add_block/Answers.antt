use Rattle.std.proofs.Common.{◌≡◌, ◌<◌, false, length, get_or, refl, subst, take}
use Rattle.std.specs.Str.{bytes_eq}
use Rattle.lin_cluster.specs.LintNames.{has_text}
use Rattle.lin_cluster.proofs.LintSets.{held_more}
use Rattle.lin_ldf.specs.Forms.{front}
use Rattle.lin_sections.specs.AttributeLints.{of_attribute}
use Rattle.lin_values.proofs.ItemSteps.{told-step}
use Rattle.lin_sections.proofs.attribute_lints.add_block.Goals as goal

pub loop-attribute-preserved : goal.loop-attribute-preserved
loop-attribute-preserved c =
    let xs = c.args.block.now.attributes in
    let i = c.loop-attribute.attribute-index in
    let x = c.attribute-item.result in
    let lt : i < length xs = subst (λ zs. i < length zs) c.as_slice-attribute-items.ensures c.loop-attribute-test.true in
    let is : x ≡ get_or xs i x = subst (λ zs. x ≡ get_or zs i x) c.as_slice-attribute-items.ensures c.attribute-item.is in (
      told-step (of_attribute c.args.nodes.now c.args.block.now.node) xs i x c.args.found.now.items c.loop-attribute.found.items c.add_attribute.new.found.items (of_attribute c.args.nodes.now c.args.block.now.node (take i xs) x) lt is c.loop-attribute.invariant.0 (c.in_ok-add_attribute.ensures.found (take i xs) c.loop-attribute.invariant.1) refl,
      λ q. held_more (λ us. bytes_eq (front us).text q) xs i x false (has_text c.loop-attribute.words.map q) (has_text c.add_attribute.new.words.map q) lt is (c.loop-attribute.invariant.1 q) (c.in_ok-add_attribute.ensures.words q),
    )
