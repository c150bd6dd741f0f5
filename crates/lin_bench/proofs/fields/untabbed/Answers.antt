use Rattle.std.proofs.Common.{◌∙◌, ap, arith, map}
use Rattle.std.proofs.lemmas.List.{take_all}
use Rattle.lin_bench.specs.Fields.{tab_as_space}
use Rattle.lin_bench.proofs.fields.untabbed.Goals as goal

pub returns : goal.returns
returns c = c.loop-byte.invariant ∙ ap (map tab_as_space) (take_all c.loop-byte.byte-index c.args.line.now (omega arith))
