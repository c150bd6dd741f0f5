use Rattle.lin_bench.proofs.CountedSlots.{finished-before}
use Rattle.lin_bench.proofs.ruled.RuledCore.alone.Goals as goal

pub slots_after-self-inside-requires : goal.slots_after-self-inside-requires
slots_after-self-inside-requires c =
    rw c.log.ensures.entries (finished-before c.self.inside.core c.step_alone.new.core c.args.by c.args.step c.self.inside.slots c.self.invariant.2 c.in_ok-step_alone.ensures.0)
