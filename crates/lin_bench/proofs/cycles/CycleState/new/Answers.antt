use Rattle.std.proofs.Common.{arith, refl}
use Rattle.lin_bench.proofs.cycles.CycleState.new.Goals as goal

pub returns-clause-state : goal.returns-clause-state
returns-clause-state c = λ cl.
    record {
      from_in = c.requires;
      within = omega arith;
      skip = omega (arith, c.count_before.ensures);
      clock = refl;
      few = omega arith;
      slot = refl;
      begins = λ taken h. c.none.ensures c.args.cycle;
    }
