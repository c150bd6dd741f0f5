use Rattle.std.proofs.Common.{ap, ◌∙◌, ◌++◌, ◌∷◌, [], map}
use Rattle.std.proofs.lemmas.List.{take_all}
use Rattle.lin_cluster.specs.Described.{described_place}
use Rattle.lin_cluster.proofs.FindingsLists.{made_step}
use Rattle.lin_cluster.proofs.described.frames.places_of.Goals as goal

pub loop-one-preserved : goal.loop-one-preserved
loop-one-preserved c = made_step (described_place c.args.signals.now) c.args.placed.now c.loop-one.one-index c.one-item.result c.loop-one.places.items c.push.new.self.items c.loop-one-test.true c.one-item.is c.loop-one.invariant (c.in_ok-push.ensures.items ∙ ap (λ p. c.loop-one.places.items ++ p ∷ []) c.place_of.ensures)

pub returns : goal.returns
returns c = c.new.ensures ∙ c.loop-one.invariant ∙ ap (map (described_place c.args.signals.now)) (take_all c.loop-one.one-index c.args.placed.now c.loop-one-test.false)
