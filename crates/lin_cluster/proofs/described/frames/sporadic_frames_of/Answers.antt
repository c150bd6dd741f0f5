use Rattle.std.proofs.Common.{◌≤◌, length, arith}
use Rattle.lin_parts.specs.declared.description.Sporadic.{Sporadic}
use Rattle.lin_cluster.specs.Described.{described_sporadic}
use Rattle.lin_cluster.proofs.Enumerated.{both-pushed}
use Rattle.lin_cluster.proofs.described.frames.sporadic_frames_of.Goals as goal

pub loop-one-preserved : goal.loop-one-preserved
loop-one-preserved c =
    both-pushed (described_sporadic c.args.d.now) (λ (x : Sporadic). 1 ≤ length x.members) c.args.sporadic.now c.loop-one.one-index c.one-item.result c.in_ok-sporadic_of.field-0 c.loop-one.made.items c.push.new.self.items
    (omega arith) c.one-item.is c.in_ok-sporadic_of.ensures.made c.in_ok-sporadic_of.ensures.some c.loop-one.invariant c.in_ok-push.ensures.items
