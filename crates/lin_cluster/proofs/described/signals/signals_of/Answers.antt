use Rattle.std.proofs.Common.{map, ap, ◌∙◌, ◌++◌, ◌∷◌, []}
use Rattle.std.proofs.lemmas.List.{take_all}
use Rattle.lin_cluster.specs.Described.{described_signal}
use Rattle.lin_cluster.proofs.FindingsLists.{made_step}
use Rattle.lin_cluster.proofs.described.signals.signals_of.Goals as goal

pub loop-signal-preserved : goal.loop-signal-preserved
loop-signal-preserved c = made_step (described_signal c.args.d.now) c.args.signals.now c.loop-signal.signal-index c.signal-item.result c.loop-signal.made.items c.push.new.self.items c.loop-signal-test.true c.signal-item.is c.loop-signal.invariant (c.in_ok-push.ensures.items ∙ ap (λ x. c.loop-signal.made.items ++ x ∷ []) c.in_ok-signal_of.ensures)

pub returns : goal.returns
returns c = c.new.ensures ∙ c.loop-signal.invariant ∙ ap (map (described_signal c.args.d.now)) (take_all c.loop-signal.signal-index c.args.signals.now c.loop-signal-test.false)
