use Rattle.std.proofs.Common.{map, ap, ◌∙◌, ◌++◌, ◌∷◌, []}
use Rattle.std.proofs.lemmas.List.{take_all}
use Rattle.lin_cluster.specs.Described.{subscribes}
use Rattle.lin_cluster.proofs.FindingsLists.{made_step}
use Rattle.lin_cluster.proofs.described.error_signals.subscribed.Goals as goal

pub loop-signal-preserved : goal.loop-signal-preserved
loop-signal-preserved c = made_step (subscribes c.args.node.now) c.args.signals.now c.loop-signal.signal-index c.signal-item.result c.loop-signal.all.items c.push.new.self.items c.loop-signal-test.true c.signal-item.is c.loop-signal.invariant (c.in_ok-push.ensures.items ∙ ap (λ x. c.loop-signal.all.items ++ x ∷ []) c.subscribes.ensures)

pub returns : goal.returns
returns c = c.new.ensures ∙ c.loop-signal.invariant ∙ ap (map (subscribes c.args.node.now)) (take_all c.loop-signal.signal-index c.args.signals.now c.loop-signal-test.false)
