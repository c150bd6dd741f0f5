use Rattle.std.proofs.Common.{◌∙◌, arith}
use Rattle.std.proofs.lemmas.List.{take_all}
use Rattle.lin_bench.proofs.copies.copied.Goals as goal

pub returns : goal.returns
returns g c = c.new.ensures ∙ c.loop-item.invariant ∙ take_all c.loop-item.item-index c.args.items.now (omega arith)
