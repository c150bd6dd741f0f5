use Rattle.lin_parts.specs.Cluster.{nodes}
use Rattle.std.proofs.Common.{◌≡◌, ◌<◌, length, reverse, sym, ◌∙◌, subst}
use Rattle.std.specs.Prelude.{slice_get, Some}
use Rattle.std.proofs.lemmas.Option.{slice_get_read}
use Rattle.lin_core.specs.Core.{CoreData, past_of}
use Rattle.lin_core.specs.Links.{waiting}
use Rattle.lin_core.specs.kept.State.{stage}
use Rattle.lin_core.proofs.kept.Keeping.{queue-length}
use Rattle.lin_core.proofs.machine.Core.waiting.Goals as goal

pub returns : goal.returns
returns c =
    let a = stage c.self.inside.setup c.self.inside.log c.self.inside.state in
    let below : c.args.host < nodes a.cluster = subst (λ (d : CoreData). c.args.host < nodes d.cluster) (sym c.self.view_is) c.requires in
    let there : slice_get a.state.hosts.items c.args.host ≡ Some c.index.result.now
    = slice_get_read a.state.hosts.items (nodes a.cluster) c.args.host c.index.result.now (sym c.self.invariant.kept.hosts_count) below c.index.ensures in
    subst (λ (d : CoreData). c.len.result ≡ length (waiting d.cluster (past_of d) c.args.host)) c.self.view_is
    (c.len.ensures.len ∙ queue-length a.cluster a.capacity a.log (reverse a.log) c.args.host c.index.result.now (c.self.invariant.kept.each_host c.args.host c.index.result.now there))
