use mir.Syntax.{w128}
use Rattle.std.proofs.lemmas.Int.{to_z-of_z}
use Rattle.lin_values.proofs.Solving.{difference-fits}
use Rattle.lin_values.proofs.sought.difference.Goals as goal

pub overflow_sub-result : goal.overflow_sub-result
overflow_sub-result c = rw (to_z-of_z w128 c.args.a c.ranges.a, to_z-of_z w128 c.args.b c.ranges.b) (difference-fits c.args.a c.args.b c.requires)
