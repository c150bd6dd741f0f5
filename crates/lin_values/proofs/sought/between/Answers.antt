use mir.Syntax.{w128}
use Rattle.std.proofs.lemmas.Int.{to_z-of_z}
use Rattle.lin_values.specs.Raws.{in_option_span}
use Rattle.lin_values.proofs.Solving.{falling-by, level-above, level-below, rising-by}
use Rattle.lin_values.proofs.sought.between.Goals as goal
use Rattle.lin_values.proofs.sought.between.Goals.{else-low-offset-via-then-low-offset+else-offset-high, else-low-offset-via-else-low-offset}

pub returns-then-scale-gt0-clause-found : goal.returns-then-scale-gt0-clause-found
returns-then-scale-gt0-clause-found c = λ n h.
    rising-by c.args.scale c.args.offset c.args.low c.args.high c.difference.result c.difference-then-scale-gt0.result c.unsigned_abs.result n (in_option_span c.multiples.result n)
    (to_z-of_z w128 c.args.scale c.ranges.scale) (to_z-of_z w128 c.args.offset c.ranges.offset) (to_z-of_z w128 c.args.low c.ranges.low) (to_z-of_z w128 c.args.high c.ranges.high)
    c.requires.low c.requires.high c.difference.ensures c.difference-then-scale-gt0.ensures c.unsigned_abs.ensures.value c.if-scale-gt0.true (c.multiples.ensures.found n h)

pub returns-then-scale-lt0-clause-found : goal.returns-then-scale-lt0-clause-found
returns-then-scale-lt0-clause-found c = λ n h.
    falling-by c.args.scale c.args.offset c.args.low c.args.high c.difference-then-scale-lt0.result c.difference-then-scale-lt0-2.result c.unsigned_abs-then-scale-lt0.result n (in_option_span c.multiples-then-scale-lt0.result n)
    (to_z-of_z w128 c.args.scale c.ranges.scale) (to_z-of_z w128 c.args.offset c.ranges.offset) (to_z-of_z w128 c.args.low c.ranges.low) (to_z-of_z w128 c.args.high c.ranges.high)
    c.requires.low c.requires.high c.difference-then-scale-lt0.ensures c.difference-then-scale-lt0-2.ensures c.unsigned_abs-then-scale-lt0.ensures.value c.if-scale-lt0.true (c.multiples-then-scale-lt0.ensures.found n h)

pub returns-else-low-offset-clause-found : goal.returns-else-low-offset-clause-found
returns-else-low-offset-clause-found c = λ n h.
    elim c.else-low-offset.branch [
      | else-low-offset-via-then-low-offset+else-offset-high w ↦
          level-above c.args.scale c.args.offset c.args.low c.args.high n (to_z-of_z w128 c.args.scale c.ranges.scale) (to_z-of_z w128 c.args.offset c.ranges.offset) (to_z-of_z w128 c.args.high c.ranges.high) c.if-scale-gt0.false c.if-scale-lt0.false w.if-offset-high.false
      | else-low-offset-via-else-low-offset w ↦
          level-below c.args.scale c.args.offset c.args.low c.args.high n (to_z-of_z w128 c.args.scale c.ranges.scale) (to_z-of_z w128 c.args.offset c.ranges.offset) (to_z-of_z w128 c.args.low c.ranges.low) c.if-scale-gt0.false c.if-scale-lt0.false w.if-low-offset.false
    ]
