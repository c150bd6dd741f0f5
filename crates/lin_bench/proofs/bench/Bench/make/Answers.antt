use Rattle.std.proofs.Common.{refl}
use Rattle.std.proofs.lemmas.Result.{err_from_is_err_and}
use Rattle.lin_bench.specs.Bench.{bench_data}
use Rattle.lin_bench.proofs.Benches.{step-fails, step-made, steps-grown}
use Rattle.lin_bench.proofs.Searches.{known-grown, taken-grown}
use Rattle.lin_bench.proofs.bench.Bench.make.Goals as goal

pub invariant_of-self-in-Step : goal.invariant_of-self-in-Step
invariant_of-self-in-Step c = known-grown _ _ _ (steps-grown _ _ _ c.make.result c.make.ensures) c.self.invariant

pub invariant_of-self : goal.invariant_of-self
invariant_of-self c = known-grown _ _ _ c.in_err-make-in-Step.ensures.1 c.self.invariant

pub returns-in_err-make-in-Step : goal.returns-in_err-make-in-Step
returns-in_err-make-in-Step c =
    let p = err_from_is_err_and c.from_residual.result c.from_residual.ensures.1 in
    let e = c.in_err-make-in-Step.ensures in
    rw (p.1, p.2, c.in-Step.is, ← c.self.view_is) (step-fails _ (bench_data c.self.inside) c.in-Step.by c.in-Step.step e.0, e.1)

pub returns-in-Step : goal.returns-in-Step
returns-in-Step c =
    rw (c.in-Step.is, ← c.self.view_is)
    (step-made (bench_data c.self.inside) _ c.in-Step.by c.in-Step.step c.in_ok-make-in-Step.ensures
    (taken-grown _ _ _ (steps-grown _ _ _ c.make.result c.make.ensures) c.self.invariant) refl)
