use Rattle.std.proofs.lemmas.Result.{err_from_is_err_and}
use Rattle.lin_bench.proofs.Makes.{fails-after, fails-before, grown-made, grown-more, makes-more}
use Rattle.lin_bench.proofs.slot_runs.rest_of_slot.Goals as goal

pub returns-in_err-decide : goal.returns-in_err-decide
returns-in_err-decide c =
    let p = err_from_is_err_and c.from_residual.result c.from_residual.ensures.1 in
    let e = c.in_err-decide.ensures in
    rw (p.1, p.2) (fails-before _ c.args.ruled.now _ _ e.0, e.1)

pub returns-in_err-hurt : goal.returns-in_err-hurt
returns-in_err-hurt c =
    let p = err_from_is_err_and c.from_residual-in_err-hurt.result c.from_residual-in_err-hurt.ensures.1 in
    let e = c.in_err-hurt.ensures in
    rw (p.1, p.2) (
      fails-after _ c.args.ruled.now c.decide.new.ruled _ _ c.in_ok-decide.ensures (fails-before _ c.decide.new.ruled _ _ e.0),
      grown-more _ _ _ (grown-made c.args.ruled.now c.decide.new.ruled _ c.in_ok-decide.ensures) e.1,
    )

pub returns : goal.returns
returns c =
    makes-more c.args.ruled.now c.decide.new.ruled c.make.new.self _ _ _ c.in_ok-decide.ensures
    (makes-more c.decide.new.ruled c.hurt.new.ruled c.make.new.self _ _ _ c.in_ok-hurt.ensures c.make.ensures)
