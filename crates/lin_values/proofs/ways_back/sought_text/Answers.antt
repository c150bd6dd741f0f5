use mir.Syntax.{w128}
use mir.Val.{of_z, to_z}
use Rattle.std.proofs.Common.{ap, subst, sym, ◌≤◌, ◌^◌}
use Rattle.std.specs.Prelude.{unsigned_abs}
use Rattle.lin_values.specs.Raws.{AreWide}
use Rattle.lin_values.proofs.WaysBack.{wide-kept}
use Rattle.lin_values.proofs.ways_back.sought_text.Goals as goal
use Rattle.lin_values.proofs.ways_back.sought_text.Goals.{in-Some, in-None}

pub returns-clause-wide : goal.returns-clause-wide
returns-clause-wide c =
    elim c.match-number_and_unit.branch [
      | in-Some w ↦ subst AreWide (sym (ap (λ p. p.0) w.decimals-is)) (
          let h : unsigned_abs (to_z w128 (of_z w128 w.units-units.result)) ≤ 10 ^ 38 = wide-kept w.units-units.result w.in-Some.number w.units-units.ensures w.in-Some.ensures.form.0 in
          (h, h))
      | in-None w ↦ subst AreWide (sym (ap (λ p. p.0) w.decimals-is)) tt
    ]
