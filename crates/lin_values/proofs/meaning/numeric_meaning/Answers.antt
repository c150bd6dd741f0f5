use Rattle.lin_values.proofs.Fitting.{counting-fits}
use Rattle.lin_values.proofs.meaning.numeric_meaning.Goals as goal

pub new-requires : goal.new-requires
new-requires c = counting-fits c.args.number _ _ _ _ _ c.args.item.now c.in-Physical.is c.requires
