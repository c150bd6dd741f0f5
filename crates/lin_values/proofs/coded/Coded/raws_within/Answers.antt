use mir.Syntax.{w128}
use mir.Val.{of_z, to_z}
use Rattle.std.proofs.Common.{◌∙◌, ap}
use Rattle.std.specs.Prelude.{ℤ, None, Some}
use Rattle.std.proofs.lemmas.Int.{to_z-of_z}
use Rattle.lin_values.specs.Raws.{sought_of}
use Rattle.lin_values.proofs.WaysBack.{within-is}
use Rattle.lin_values.proofs.coded.Coded.raws_within.Goals as goal

pub returns : goal.returns
returns c = λ v.
    c.new.ensures v
    ∙ within-is c.in_ok-spans.field-0 c.args.self.now c.args.signal c.args.low c.args.high c.args.unit.now c.in_ok-spans.ensures.some
    (λ n h.
    c.in_ok-spans.ensures.found n h
    ∙ ap (λ (z : ℤ). sought_of c.args.self.now c.args.signal None (Some (z, to_z w128 (of_z w128 c.args.high))) c.args.unit.now n) (to_z-of_z w128 c.args.low c.ranges.low)
    ∙ ap (λ (z : ℤ). sought_of c.args.self.now c.args.signal None (Some (c.args.low, z)) c.args.unit.now n) (to_z-of_z w128 c.args.high c.ranges.high)) v
