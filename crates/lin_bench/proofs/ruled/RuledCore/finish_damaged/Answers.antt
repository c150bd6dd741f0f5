use Rattle.std.proofs.Common.{[], ◌∷◌}
use Rattle.std.proofs.lemmas.Result.{err_from_is_err_and}
use Rattle.lin_core.specs.declared.port.PortId.TheVariants.{Bus}
use Rattle.lin_core.specs.declared.step.Step.TheVariants.{Finish, Hurt}
use Rattle.lin_bench.proofs.Makes.{makes-so-more, so-fails-before}
use Rattle.lin_bench.proofs.ruled.RuledCore.finish_damaged.Goals as goal

pub returns-in_err-make_unchanged : goal.returns-in_err-make_unchanged
returns-in_err-make_unchanged c =
    let p = err_from_is_err_and c.from_residual-in_err-make_unchanged.result c.from_residual-in_err-make_unchanged.ensures.1 in
    let e = rw c.in_ok-damage.ensures at c.in_err-make_unchanged.ensures in
    rw (p.1, p.2) (so-fails-before c.in_err-make_unchanged.field-0.0 c.args.self.now ((Bus, Hurt []) ∷ []) ((c.args.by, Finish) ∷ []) e.0, e.1)

pub returns : goal.returns
returns c =
    makes-so-more c.args.self.now c.make_unchanged.new.self c.make_unchanged-2.new.self ((Bus, Hurt []) ∷ []) ((c.args.by, Finish) ∷ []) c.make_unchanged-2.result
    (rw c.in_ok-damage.ensures at c.in_ok-make_unchanged.ensures) c.make_unchanged-2.ensures
