use Rattle.std.proofs.lemmas.Result.{err_from_is_err_and}
use Rattle.lin_bench.specs.Bench.{bench_data}
use Rattle.lin_bench.proofs.Benches.{slots-fail, slots-judged}
use Rattle.lin_bench.proofs.bench.Bench.slots.Goals as goal

pub returns-in_err-left : goal.returns-in_err-left
returns-in_err-left c =
    let p = err_from_is_err_and c.from_residual.result c.from_residual.ensures.1 in
    let e = rw c.early_end-ending.ensures at c.in_err-left.ensures.made in
    rw (p.1, p.2, ← c.self.view_is) (slots-fail _ (bench_data c.self.inside) c.args.how.now c.args.extent _ c.args.expected e.0, e.1)

pub returns-in-Some : goal.returns-in-Some
returns-in-Some c =
    let made = rw (c.in-Some.is, c.early_end-ending.ensures) at c.in_ok-left.ensures.made in
    rw (← c.self.view_is)
    (slots-judged (bench_data c.self.inside) _ _ c.args.how.now c.args.extent _ c.args.expected c.judge.result made.0 made.1 c.in_ok-left.ensures.taken
    c.judge.ensures)
