use Rattle.lin_cluster.proofs.FindingsLists.{found_step}
use Rattle.lin_cluster.proofs.findings.walk.each.Goals as goal

pub loop-item-preserved : goal.loop-item-preserved
loop-item-preserved g c = found_step (g.F.Finds.finds c.args.finder.now) c.args.items.now c.loop-item.item-index c.item-item.result c.args.found.now.items c.loop-item.found.items c.find.new.found.items c.loop-item-test.true c.item-item.is c.loop-item.invariant c.in_ok-find.ensures
