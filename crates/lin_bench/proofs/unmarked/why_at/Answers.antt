use Rattle.std.proofs.Common.{◌≡◌, IfOk, subst}
use Rattle.lin_bench.specs.Parts.{fields_of}
use Rattle.lin_bench.proofs.SignalPlaces.{why-cut}
use Rattle.lin_bench.proofs.unmarked.why_at.Goals as goal

pub returns-in-Some : goal.returns-in-Some
returns-in-Some c =
    subst (λ x. IfOk c.why_value.result (λ r. r ≡ x))
    (why-cut c.args.cluster.now c.args.coded.now (fields_of c.args.all) c.args.at _ _ _ c.is_expect-ranged.result c.in-Some.ensures c.is_expect-ranged.ensures)
    c.why_value.ensures
