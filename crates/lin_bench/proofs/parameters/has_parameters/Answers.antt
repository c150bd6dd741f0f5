use Rattle.std.proofs.Common.{◌≡◌, ◌∙◌, ◌==◌, ◌&&◌, not, sym, ap, slice_index, Bool, true, false, refl}
use Rattle.lin_bench.proofs.WithoutDollar.{without-dollar}
use Rattle.lin_bench.proofs.parameters.has_parameters.Goals as goal

nothing : (said : Bool) → false ≡ (said && false)
nothing true = refl
nothing false = refl

pub returns-then-not-has_dollar : goal.returns-then-not-has_dollar
returns-then-not-has_dollar c =
    let line = c.args.line.now in
    nothing (not (slice_index line 0 == 62))
    ∙ ap (λ b. not (slice_index line 0 == 62) && b) (sym (without-dollar line (sym c.if-not-has_dollar.ensures)))
