use Rattle.std.proofs.Common.{◌∙◌, ◌++◌, ap, sym}
use Rattle.lin_export.proofs.Rows.{numbers-more}
use Rattle.lin_tool.specs.Limits.{limits_at}
use Rattle.lin_tool.proofs.limits.node_limits.Goals as goal

pub loop-node-preserved : goal.loop-node-preserved
loop-node-preserved c =
    let of = limits_at c.args.cluster.now c.args.named.now in
    c.in_ok-add_limits.ensures ∙ ap (λ xs. xs ++ of c.loop-node.node) c.loop-node.invariant ∙ sym (numbers-more of c.loop-node.node)
