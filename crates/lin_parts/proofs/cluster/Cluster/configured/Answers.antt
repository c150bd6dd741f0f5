use Rattle.std.proofs.Common.{◌≡◌, ◌∙◌, List, ap, subst, sym}
use Rattle.lin_parts.specs.Configured.{changed_items, table_with}
use Rattle.lin_parts.specs.Rules.{AreIdentities}
use Rattle.lin_parts.specs.declared.parts.Parts.{Parts}
use Rattle.lin_parts.specs.declared.parts.Table.{Table}
use Rattle.lin_parts.proofs.Configuring.{configured-cluster}
use Rattle.lin_parts.proofs.cluster.Cluster.configured.Goals as goal

pub invariant_of-result : goal.invariant_of-result
invariant_of-result c =
    let parts = c.self.inside.parts in
    let requests = c.args.requests.now in
    let known : AreIdentities parts c.args.identities = subst (λ (p : Parts). AreIdentities p c.args.identities) (sym c.self.view_is) c.requires in
    let tables : c.new-tables.result ≡ changed_items table_with parts.tables requests
    = c.new-tables.ensures ∙ c.with_requests.ensures ∙ ap (λ (ts : List Table). changed_items table_with ts requests) c.into_vec.ensures in
    rw tables (configured-cluster parts c.args.identities requests c.self.invariant.0 known, c.self.invariant.1)
