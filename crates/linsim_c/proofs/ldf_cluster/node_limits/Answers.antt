use Rattle.std.proofs.Common.{◌∙◌, ◌++◌, ap, sym}
use Rattle.linsim_c.proofs.Texts.{numbers-more}
use Rattle.linsim_c.specs.Described.{limits_at}
use Rattle.linsim_c.proofs.ldf_cluster.node_limits.Goals as goal

pub loop-node-preserved : goal.loop-node-preserved
loop-node-preserved c =
    let of = limits_at c.args.cluster.now c.args.named.now in
    c.in_ok-add_limits.ensures ∙ ap (λ xs. xs ++ of c.loop-node.node) c.loop-node.invariant ∙ sym (numbers-more of c.loop-node.node)
