use Rattle.std.proofs.Common.{◌∙◌, ◌++◌, List, ap, append-nil, flat_map, sym}
use Rattle.std.specs.Option.{option_map}
use Rattle.lin_cluster.specs.declared.finding.Finding.{Finding}
use Rattle.lin_sections.specs.AttributeLints.{attribute_lints, no_response_error, of_block}
use Rattle.lin_sections.proofs.AttributeSteps.{flat-all, flat-step}
use Rattle.lin_sections.proofs.attribute_lints.lint_attributes.Goals as goal

pub loop-block-init : goal.loop-block-init
loop-block-init c =
    let slaves = flat_map (no_response_error c.in_ok-nodes.nodes (option_map (λ v. v.now) c.args.version) c.args.blocks.now) c.in_ok-nodes.nodes.slaves in
    c.in_ok-add_slaves.ensures ∙ ap (λ (fs : List Finding). fs ++ slaves) c.new-found.ensures.items ∙ sym (append-nil slaves)

pub loop-block-preserved : goal.loop-block-preserved
loop-block-preserved c =
    flat-step (of_block c.in_ok-nodes.nodes) c.args.blocks.now c.loop-block.block-index c.block-item.result (flat_map (no_response_error c.in_ok-nodes.nodes (option_map (λ v. v.now) c.args.version) c.args.blocks.now) c.in_ok-nodes.nodes.slaves) c.loop-block.found.items c.add_block.new.found.items c.loop-block-test.true c.block-item.is c.loop-block.invariant c.in_ok-add_block.ensures

pub returns : goal.returns
returns c =
    flat-all (of_block c.in_ok-nodes.nodes) c.args.blocks.now c.loop-block.block-index (flat_map (no_response_error c.in_ok-nodes.nodes (option_map (λ v. v.now) c.args.version) c.args.blocks.now) c.in_ok-nodes.nodes.slaves) c.loop-block.found.items c.loop-block-test.false c.loop-block.invariant
    ∙ ap (λ d. attribute_lints d (option_map (λ v. v.now) c.args.version) c.args.blocks.now) c.in_ok-nodes.ensures
