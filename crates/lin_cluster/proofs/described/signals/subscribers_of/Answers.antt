use Rattle.std.proofs.Common.{map, ap, ◌∙◌, ◌++◌, ◌∷◌, []}
use Rattle.std.proofs.lemmas.List.{take_all}
use Rattle.lin_cluster.specs.Described.{node_number}
use Rattle.lin_cluster.proofs.FindingsLists.{made_step}
use Rattle.lin_cluster.proofs.described.signals.subscribers_of.Goals as goal

pub loop-name-preserved : goal.loop-name-preserved
loop-name-preserved c = made_step (node_number c.args.d.now) c.args.names.now c.loop-name.name-index c.name-item.result c.loop-name.nodes.items c.push.new.self.items c.loop-name-test.true c.name-item.is c.loop-name.invariant (c.in_ok-push.ensures.items ∙ ap (λ x. c.loop-name.nodes.items ++ x ∷ []) c.node_number.ensures)

pub returns : goal.returns
returns c = c.new.ensures ∙ c.loop-name.invariant ∙ ap (map (node_number c.args.d.now)) (take_all c.loop-name.name-index c.args.names.now c.loop-name-test.false)
