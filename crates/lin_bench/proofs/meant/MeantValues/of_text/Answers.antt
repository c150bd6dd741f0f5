use Rattle.std.proofs.Common.{◌∙◌, ap}
use Rattle.lin_bench.specs.Meant.{values_in}
use Rattle.lin_bench.proofs.AllValues.{text-small, text-values}
use Rattle.lin_bench.proofs.meant.MeantValues.of_text.Goals as goal

pub invariant_of-result : goal.invariant_of-result
invariant_of-result c = rw c.in_ok-new.ensures.ok (text-small c.in_ok-raws.raws c.args.coded.now c.args.signal c.args.text.now c.in_ok-raws.ensures)

pub returns : goal.returns
returns c = ap values_in c.in_ok-new.ensures.ok ∙ text-values c.in_ok-raws.raws c.args.coded.now c.args.signal c.args.text.now c.in_ok-raws.ensures
