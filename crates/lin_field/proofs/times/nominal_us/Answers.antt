use Rattle.std.proofs.Common.{◌<◌, ℕ, ◌∙◌, ◌+◌, ◌*◌, sym, ap, subst}
use Rattle.lin_field.specs.Times.{nominal_us}
use Rattle.lin_field.proofs.Rounding.{rounded-quotient}
use Rattle.lin_field.proofs.times.nominal_us.Goals as goal

pub returns : goal.returns
returns c =
    c.div_ceil.ensures ∙ rounded-quotient (1000000 * (34 + 10 * (c.from.result + 1))) c.from-2.result (subst (λ (n : ℕ). 0 < n) (sym c.from-2.ensures) c.requires)
    ∙ ap (nominal_us c.from-2.result) c.from.ensures ∙ ap (λ n. nominal_us n c.args.size) c.from-2.ensures
