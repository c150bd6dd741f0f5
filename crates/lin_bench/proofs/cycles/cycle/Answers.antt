use Rattle.std.proofs.Common.{◌∙◌}
use Rattle.lin_bench.proofs.FrameCycles.{cycle-read}
use Rattle.lin_bench.proofs.cycles.cycle.Goals as goal

pub read-requires : goal.read-requires
read-requires c =
    rw c.cluster.ensures (c.state_kept-before.ensures.state c.args.core.now.cluster (rw (c.take.ensures.value, c.log-log.ensures.entries) c.requires.kept))

pub returns-clause-verdict : goal.returns-clause-verdict
returns-clause-verdict c =
    let core = c.args.core.now in
    let s = c.in_ok-state.state in
    let e = rw (c.cluster.ensures, c.log-log.ensures.entries) at c.in_ok-state.ensures in
    cycle-read core.cluster core.log c.args.taken.now s c.args.cycle c.verdict-verdict.result c.requires.known e.state e.entries
    (e.cycle ∙ c.state_kept-before.ensures.cycle) (e.from ∙ c.state_kept-before.ensures.from ∙ c.last_end-from.ensures) c.verdict-verdict.ensures
