use Rattle.lin_bench.proofs.bench.Bench.under.Goals as goal

pub invariant_of-result : goal.invariant_of-result
invariant_of-result c = (c.none.ensures c.new.result.core.log).0
