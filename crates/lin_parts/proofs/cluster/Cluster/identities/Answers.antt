use Rattle.lin_parts.proofs.Configuring.{few-identities}
use Rattle.lin_parts.proofs.cluster.Cluster.identities.Goals as goal

pub returns-clause-few : goal.returns-clause-few
returns-clause-few c =
    let parts = c.self.inside.parts in
    rw c.as_slice.ensures (few-identities parts parts.identities c.self.invariant.0.nodes.number.1 c.self.invariant.0.identities)
