use Rattle.std.proofs.Common.{ap, ◌∙◌}
use Rattle.std.specs.List.{position_from}
use Rattle.std.specs.Str.{bytes_eq}
use Rattle.lin_cluster.specs.FindingsNames.{same_name}
use Rattle.lin_cluster.proofs.NamesFound.{number_found, none_numbered}
use Rattle.lin_cluster.proofs.names.number_by.Goals as goal

pub returns-in-Some : goal.returns-in-Some
returns-in-Some g c = number_found (λ x. same_name (g.T.Named.name_of x) c.args.name.now) c.args.all.now _ (c.in-Some.ensures.value ∙ c.requires c.as_slice.result.now ∙ ap (λ q. position_from (λ x. bytes_eq (g.T.Named.name_of x).text q) 0 c.args.all.now) c.as_slice.ensures)

pub returns-in-None : goal.returns-in-None
returns-in-None g c = none_numbered (λ x. same_name (g.T.Named.name_of x) c.args.name.now) c.args.all.now (c.in-None.ensures.value ∙ c.requires c.as_slice.result.now ∙ ap (λ q. position_from (λ x. bytes_eq (g.T.Named.name_of x).text q) 0 c.args.all.now) c.as_slice.ensures)
