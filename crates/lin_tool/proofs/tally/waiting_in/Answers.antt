use Rattle.std.proofs.Common.{arith, length}
use Rattle.lin_core.specs.Core.{past_of}
use Rattle.lin_core.specs.Links.{waiting}
use Rattle.lin_tool.proofs.Tallies.{sum-number}
use Rattle.lin_tool.proofs.tally.waiting_in.Goals as goal

pub loop-host-preserved : goal.loop-host-preserved
loop-host-preserved c =
    let core = c.args.core.now in
    let next = sum-number (λ h. length (waiting core.cluster (past_of core) h)) c.loop-host.host in
    let one = c.waiting.ensures in
    record {
      sum = omega (arith, c.loop-host.invariant.sum, next, one);
      few = omega (arith, c.loop-host.invariant.few, c.waiting.type_inv);
    }
