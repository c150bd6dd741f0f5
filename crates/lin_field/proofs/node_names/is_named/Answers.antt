use Rattle.std.proofs.Common.{ap, ◌∙◌, length}
use Rattle.std.specs.Prelude.{nat_lt}
use Rattle.lin_cluster.specs.FindingsNames.{same_name}
use Rattle.lin_field.proofs.NumbersFound.{any-numbered}
use Rattle.lin_field.proofs.node_names.is_named.Goals as goal

pub returns : goal.returns
returns g c =
    ap (λ n. nat_lt n (length c.args.all.now)) c.number_by.ensures
    ∙ any-numbered (λ x. same_name (g.T.Named.name_of x) c.args.name.now) c.args.all.now
