use Rattle.std.proofs.Common.{◌∙◌, ap, arith, sym}
use Rattle.std.specs.Str.{bytes_eq}
use Rattle.lin_sections.proofs.FoundFirst.{address-found, no-address, not-named}
use Rattle.lin_sections.proofs.requests.address_of.Goals as goal

pub returns-then-eq : goal.returns-then-eq
returns-then-eq c =
    let name = c.args.name.now in
    address-found c.args.cluster.now name c.loop-node.node c.nad.result c.loop-node.auto.node (omega arith) (ap (λ x. bytes_eq x name) (sym c.node_name.ensures) ∙ sym c.eq.ensures ∙ c.if-eq.true) c.loop-node.invariant c.nad.ensures

pub loop-node-preserved : goal.loop-node-preserved
loop-node-preserved c =
    let name = c.args.name.now in
    not-named c.args.cluster.now name c.loop-node.node c.loop-node.auto.node (ap (λ x. bytes_eq x name) (sym c.node_name.ensures) ∙ sym c.eq.ensures ∙ c.if-eq.false) c.loop-node.invariant

pub returns : goal.returns
returns c = no-address c.args.cluster.now c.args.name.now c.loop-node.node (omega arith) c.loop-node.invariant
