use Rattle.std.proofs.Common.{◌≡◌, ◌++◌, ap, subst, ◌∙◌}
use Rattle.std.specs.Prelude.{OnOk}
use Rattle.std.specs.List.{flat_map}
use Rattle.lin_cluster.specs.Sizes.{bad_signal_size, bad_init}
use Rattle.lin_cluster.specs.UnknownNames.{unknown_node}
use Rattle.lin_cluster.proofs.FindingsLists.{four_more}
use Rattle.lin_cluster.proofs.findings.declarations.KnownFindsSignal.find.Goals as goal

pub returns : goal.returns
returns c =
    let d = c.args.self.now in
    let s = c.args.signal.now in
    subst (λ fs. OnOk c.bad_init.result (c.bad_init.new.found.items ≡ fs))
    (four_more c.args.found.now.items c.unknown_node.new.found.items c.each.new.found.items c.bad_signal_size.new.found.items (unknown_node d s.publisher) (flat_map (unknown_node d) s.subscribers) (bad_signal_size s) (bad_init s)
    c.in_ok-unknown_node.ensures (c.in_ok-each.ensures ∙ ap (λ ns. c.unknown_node.new.found.items ++ flat_map (unknown_node d) ns) c.as_slice.ensures) c.in_ok-bad_signal_size.ensures)
    c.bad_init.ensures
