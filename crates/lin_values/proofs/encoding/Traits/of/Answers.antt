use Rattle.lin_values.proofs.ItemTraits.{traits-more}
use Rattle.lin_values.proofs.encoding.Traits.of.Goals as goal

pub loop-one-preserved : goal.loop-one-preserved
loop-one-preserved c =
    traits-more c.loop-one.traits c.add.new.self c.args.items.now c.loop-one.one-index c.one-item.result c.loop-one-test.true c.one-item.is c.loop-one.invariant c.add.ensures
