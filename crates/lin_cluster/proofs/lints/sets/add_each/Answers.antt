use Rattle.std.proofs.Common.{ap, ◌∙◌}
use Rattle.std.specs.Prelude.{◌||◌}
use Rattle.std.specs.List.{list_any}
use Rattle.std.proofs.lemmas.List.{take_all}
use Rattle.lin_cluster.specs.LintNames.{has_text}
use Rattle.lin_cluster.proofs.LintSets.{held_more}
use Rattle.lin_cluster.proofs.lints.sets.add_each.Goals as goal

pub loop-item-preserved : goal.loop-item-preserved
loop-item-preserved g c = λ q.
    held_more (λ x. g.A.Adds.adds c.args.adder.now x q) c.args.items.now c.loop-item.item-index c.item-item.result (has_text c.args.names.now.names q) (has_text c.loop-item.names.names q) (has_text c.add_of.new.names.names q)
    c.loop-item-test.true c.item-item.is (c.loop-item.invariant q) (c.in_ok-add_of.ensures q)

pub returns : goal.returns
returns g c = λ q. c.loop-item.invariant q ∙ ap (λ xs. has_text c.args.names.now.names q || list_any (λ x. g.A.Adds.adds c.args.adder.now x q) xs) (take_all c.loop-item.item-index c.args.items.now c.loop-item-test.false)
