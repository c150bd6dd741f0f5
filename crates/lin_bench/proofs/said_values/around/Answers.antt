use Rattle.std.proofs.Common.{subst}
use Rattle.lin_bench.specs.Parts.{fields_of}
use Rattle.lin_bench.specs.Read.{Gives}
use Rattle.lin_bench.proofs.WordedValues.{around-is}
use Rattle.lin_bench.proofs.said_values.around.Goals as goal

pub returns : goal.returns
returns c =
    subst (λ x. Gives (λ m. m) c.between.result x)
    (around-is c.args.coded.now c.args.said.signal c.args.said.field.now c.args.said.text.now c.args.said.first.now (fields_of c.args.others) c.in_ok-middle.middle c.in_ok-tolerance.tolerance c.in_ok-tolerance.unit.now
    c.in_ok-middle.ensures.small c.in_ok-tolerance.ensures.small c.in_ok-middle.ensures.same c.in_ok-tolerance.ensures.same)
    c.between.ensures
