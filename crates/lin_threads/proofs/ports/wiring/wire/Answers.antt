use Rattle.std.proofs.Common.{◌≡◌, ap, ◌∙◌, arith, length}
use Rattle.lin_parts.specs.Cluster.{nodes}
use Rattle.lin_threads.proofs.WireLemmas.{new_serve, new_order, own_none}
use Rattle.lin_threads.proofs.ports.wiring.wire.Goals as goal

pub invariant_of-result : goal.invariant_of-result
invariant_of-result c =
    let log = c.args.core.log in
    let base : c.len-base.result ≡ length log = c.len-base.ensures.len ∙ ap length c.log.ensures.entries in
    let few = c.nodes-nodes.ensures.few in
    let number : c.nodes-nodes.result ≡ nodes c.args.core.cluster = c.nodes-nodes.ensures.number ∙ ap nodes c.cluster.ensures in
    let count = c.in_ok-others.ensures.count in
    let fresh = c.in_ok-others.ensures.lanes in
    let ok = c.open_nodes.new.lanes.ok in
    record {
      begun = omega arith;
      count = omega arith;
      few = omega arith;
      serves = rw base (new_serve c.nodes-nodes.result log _ (rw base at fresh));
      order = rw (← number) (new_order c.nodes-nodes.result c.len-base.result _ fresh);
      own = rw base (own_none log);
    }
