use Rattle.std.proofs.Common.{ap, map, ◌∙◌, ◌++◌, ◌∷◌, []}
use Rattle.std.proofs.lemmas.List.{take_all}
use Rattle.lin_cluster.proofs.FindingsLists.{made_step}
use Rattle.lin_cluster.proofs.findings.walk.made_of_each.Goals as goal

pub loop-item-preserved : goal.loop-item-preserved
loop-item-preserved g c = made_step (g.M.Makes.makes c.args.maker.now) c.args.items.now c.loop-item.item-index c.item-item.result c.loop-item.made.items c.push.new.self.items c.loop-item-test.true c.item-item.is c.loop-item.invariant (c.in_ok-push.ensures.items ∙ ap (λ v. c.loop-item.made.items ++ v ∷ []) c.make.ensures)

pub returns : goal.returns
returns g c = c.loop-item.invariant ∙ ap (map (g.M.Makes.makes c.args.maker.now)) (take_all c.loop-item.item-index c.args.items.now c.loop-item-test.false)
