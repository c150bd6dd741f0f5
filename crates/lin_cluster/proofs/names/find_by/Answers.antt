use Rattle.std.proofs.Common.{ap, sym, ◌∙◌}
use Rattle.std.specs.Prelude.{slice_get}
use Rattle.std.proofs.lemmas.List.Folds.{find_at}
use Rattle.lin_cluster.specs.FindingsNames.{same_name}
use Rattle.lin_cluster.proofs.NamesFound.{lent-at}
use Rattle.lin_cluster.proofs.names.find_by.Goals as goal

pub returns : goal.returns
returns g c = lent-at c.args.all.now c.number_by.result c.get.result c.get.ensures.lookup ∙ ap (slice_get c.args.all.now) c.number_by.ensures ∙ sym (find_at (λ x. same_name (g.T.Named.name_of x) c.args.name.now) c.args.all.now)
