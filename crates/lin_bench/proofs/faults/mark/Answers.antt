use Rattle.std.proofs.Common.{arith}
use Rattle.std.proofs.lemmas.Grind.{common_steps}
use Rattle.std.proofs.lemmas.List.Edits.{map_over_more}
use Rattle.lin_bench.specs.Faults.{struck_by}
use Rattle.lin_bench.proofs.faults.mark.Goals as goal

pub loop-index-preserved : goal.loop-index-preserved
loop-index-preserved c = grind (arith, common_steps, map_over_more (struck_by c.args.slot c.args.kind))
