use Rattle.std.proofs.lemmas.Result.{err_from_is_err_and}
use Rattle.lin_tool.proofs.Differing.{unchecked}
use Rattle.lin_tool.proofs.diffing.field_cluster.Goals as goal

pub returns-in_err-cluster : goal.returns-in_err-cluster
returns-in_err-cluster c =
    let p = err_from_is_err_and c.from_residual-in_err-cluster.result c.from_residual-in_err-cluster.ensures.1 in
    let (settled, over) = c.in_ok-settled.ensures in
    rw (p.1, p.2) (unchecked _ c.args.text.now c.in_ok-settled.settled settled c.in_err-cluster.ensures)
