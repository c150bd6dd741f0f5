use Rattle.std.proofs.lemmas.Result.{err_from_is_err_and}
use Rattle.lin_bench.specs.Adding.{finish_of}
use Rattle.lin_bench.proofs.AddedSteps.{called-after, first-fails}
use Rattle.lin_bench.proofs.ruled.RuledCore.add.Goals as goal

pub returns-in_err-add_first : goal.returns-in_err-add_first
returns-in_err-add_first c by past s fin began =
    let p = err_from_is_err_and c.from_residual.result c.from_residual.ensures.1 in
    let e = c.in_err-add_first.ensures by past s fin began in
    rw (p.1, p.2) (first-fails _ c.args.self.now (finish_of c.args.self.now.core past by) past e.0, e.1)

pub returns : goal.returns
returns c by past s fin began =
    called-after c.args.self.now c.add_first.new.self c.look.new.self (finish_of c.args.self.now.core past by) past c.look.result (c.in_ok-add_first.ensures by past s fin began) c.look.ensures
