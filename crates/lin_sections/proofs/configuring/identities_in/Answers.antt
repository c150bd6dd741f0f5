use Rattle.std.proofs.Common.{◌≡◌, ◌∙◌, ◌++◌, ap, arith, drop, flat_map, sym}
use Rattle.lin_frame.specs.Words.{numbers}
use Rattle.lin_parts.specs.Cluster.{nodes}
use Rattle.lin_sections.specs.Configuring.{identity_at}
use Rattle.lin_sections.proofs.KnownIdentities.{one-node-more}
use Rattle.lin_sections.proofs.configuring.identities_in.Goals as goal

pub loop-node-preserved : goal.loop-node-preserved
loop-node-preserved c =
    let of = identity_at c.args.cluster.now c.args.identities.now in
    let n = c.loop-node.node in
    c.in_ok-add_identity.ensures ∙ ap (λ xs. xs ++ of n) c.loop-node.invariant ∙ sym (one-node-more of n c.loop-node.auto.node)

pub returns : goal.returns
returns c =
    let k = c.args.cluster.now in
    let number = c.sound.ensures.rules.nodes.number in
    let all : c.loop-node.node ≡ nodes k = omega (arith, number.0) in
    c.new.ensures ∙ c.loop-node.invariant ∙ ap (λ n. flat_map (identity_at k c.args.identities.now) (drop 1 (numbers n))) all
