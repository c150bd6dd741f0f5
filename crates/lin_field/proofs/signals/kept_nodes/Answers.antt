use Rattle.std.proofs.Common.{◌≡◌, ◌++◌, true, sym, ap, ◌∙◌}
use Rattle.std.specs.List.{list_all}
use Rattle.std.proofs.lemmas.List.{append-nil}
use Rattle.lin_field.specs.Names.{is_loose_node}
use Rattle.lin_field.proofs.KnownNodes.{all_kept, none_unknown}
use Rattle.lin_field.proofs.signals.kept_nodes.Goals as goal

pub returns-then-are_nodes-clause-kept : goal.returns-then-are_nodes-clause-kept
returns-then-are_nodes-clause-kept c =
    let known : list_all (is_loose_node c.args.nodes.now) c.args.names ≡ true = ap (list_all (is_loose_node c.args.nodes.now)) (sym c.as_slice.ensures) ∙ sym c.are_nodes.ensures ∙ c.if-are_nodes.true in
    all_kept (is_loose_node c.args.nodes.now) c.args.names known

pub returns-then-are_nodes-clause-warned : goal.returns-then-are_nodes-clause-warned
returns-then-are_nodes-clause-warned c =
    let known : list_all (is_loose_node c.args.nodes.now) c.args.names ≡ true = ap (list_all (is_loose_node c.args.nodes.now)) (sym c.as_slice.ensures) ∙ sym c.are_nodes.ensures ∙ c.if-are_nodes.true in
    sym (ap (λ ws. c.args.warned.now.items ++ ws) (none_unknown c.args.nodes.now c.args.names known) ∙ append-nil c.args.warned.now.items)
