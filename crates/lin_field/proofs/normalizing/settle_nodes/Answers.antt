use Rattle.std.proofs.Common.{ap, ◌∙◌, ◌++◌, append_assoc, map}
use Rattle.std.specs.List.{flat_map}
use Rattle.lin_field.specs.Attributes.{settled_attributes, attribute_warnings}
use Rattle.lin_field.specs.Settled.{elsewhere_by}
use Rattle.lin_field.specs.Signals.{settled_signal, signal_warnings}
use Rattle.lin_field.proofs.SettledSteps.{same-elsewhere}
use Rattle.lin_field.proofs.normalizing.settle_nodes.Goals as goal

pub returns-clause-signals : goal.returns-clause-signals
returns-clause-signals c =
    c.in_ok-signals.ensures.settled ∙ ap (λ n. map (settled_signal n) c.args.of_nodes.signals) c.in_ok-names.ensures

pub returns-clause-attributes : goal.returns-clause-attributes
returns-clause-attributes c =
    let told = same-elsewhere _ _ _ _ _ _ c.in_ok-names.ensures c.as_slice-2.ensures c.old_version.ensures in
    c.in_ok-attributes.ensures.settled ∙ ap (λ e. settled_attributes e c.args.of_nodes.attributes) told

pub returns-clause-warned : goal.returns-clause-warned
returns-clause-warned c =
    let told = same-elsewhere _ _ _ _ _ _ c.in_ok-names.ensures c.as_slice-2.ensures c.old_version.ensures in
    let blocks = c.args.of_nodes.attributes in
    let of_blocks = attribute_warnings (elsewhere_by c.args.header.now c.args.nodes.now c.args.of_nodes.addresses) blocks in
    c.in_ok-attributes.ensures.warned ∙ ap (λ e. c.settle_signals.new.warned.items ++ attribute_warnings e blocks) told
    ∙ ap (λ ws. ws ++ of_blocks) (c.in_ok-signals.ensures.warned ∙ ap (λ n. c.args.warned.now.items ++ flat_map (signal_warnings n) c.args.of_nodes.signals) c.in_ok-names.ensures)
    ∙ append_assoc c.args.warned.now.items (flat_map (signal_warnings c.args.nodes.now) c.args.of_nodes.signals) of_blocks
