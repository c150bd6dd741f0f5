use Rattle.std.proofs.Common.{◌+◌, arith}
use Rattle.lin_cluster.specs.Described.{responder}
use Rattle.lin_cluster.proofs.Enumerated.{pushed}
use Rattle.lin_cluster.proofs.described.nodes.add_responders.Goals as goal

pub loop-i-preserved : goal.loop-i-preserved
loop-i-preserved c =
    pushed (responder c.args.d.now) 1 c.args.slaves.now c.loop-i.i c.index-slaves-i.result (c.loop-i.i + 1) c.in_ok-responder.field-0 c.args.nodes.now.items c.loop-i.nodes.items c.push.new.self.items
    (omega arith) c.index-slaves-i.is (omega arith) c.in_ok-responder.ensures c.loop-i.invariant c.in_ok-push.ensures.items
