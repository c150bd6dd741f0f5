use Rattle.std.proofs.Common.{refl}
use Rattle.lin_bench.proofs.ruled.RuledCore.new.Goals as goal

pub invariant_of-result : goal.invariant_of-result
invariant_of-result c =
    let ends = c.new.ensures c.args.core c.requires in
    (ends.0, ends.1, rw c.requires refl)
