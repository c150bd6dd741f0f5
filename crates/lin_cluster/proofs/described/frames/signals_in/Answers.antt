use Rattle.std.proofs.Common.{ap, ◌∙◌, ◌++◌, ◌∷◌, [], map}
use Rattle.std.proofs.lemmas.List.{take_all}
use Rattle.lin_cluster.specs.Described.{signal_number}
use Rattle.lin_parts.specs.declared.description.PlacedSignal.{PlacedSignal}
use Rattle.lin_cluster.proofs.FindingsLists.{made_step}
use Rattle.lin_cluster.proofs.described.frames.signals_in.Goals as goal

pub loop-one-preserved : goal.loop-one-preserved
loop-one-preserved c = made_step (λ (p : PlacedSignal). signal_number c.args.signals.now p.signal) c.args.placed.now c.loop-one.one-index c.one-item.result c.loop-one.numbers.items c.push.new.self.items c.loop-one-test.true c.one-item.is c.loop-one.invariant (c.in_ok-push.ensures.items ∙ ap (λ n. c.loop-one.numbers.items ++ n ∷ []) c.number.ensures)

pub returns : goal.returns
returns c = c.new.ensures ∙ c.loop-one.invariant ∙ ap (map (λ (p : PlacedSignal). signal_number c.args.signals.now p.signal)) (take_all c.loop-one.one-index c.args.placed.now c.loop-one-test.false)
